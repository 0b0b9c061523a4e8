-- The rules and tables of a file, one after another.
use Rattle.std.proofs.Common.{◌≡◌, ℕ, ◌+◌, ◌<◌, ◌≤◌, List, [], ◌∷◌, ◌++◌, length, take, get_or, Option, Some, None, sym, ap, ◌∙◌, arith, append-nil}
use Rattle.std.proofs.lemmas.List.{take_all, Elements.filter_map-append}
use Rattle.std.specs.List.{filter_map, cons_option, take-map}
use Rattle.pf_rule.specs.Rules.{PlainRule}
use Rattle.pf_anchor.specs.declared.limits.TheConstants.{RULE_LIMIT}
use Rattle.pf_parse.specs.declared.fault.At.{At}
use Rattle.pf_conf.proofs.Steps.{take_item}
use Rattle.pfd_conf.specs.Firewalls.{rules_in, plain_rules}

-- as many as there may be
pub first_rules : (rs : List (At PlainRule)) (n : ℕ) (plain : List PlainRule) → plain ≡ rules_in (take n rs) → n ≡ RULE_LIMIT →
    plain ≡ plain_rules rs
first_rules rs n plain is many =
    is ∙ ap (λ (m : ℕ). rules_in (take m rs)) many ∙ sym (take-map (λ (r : At PlainRule). r.is) RULE_LIMIT rs)

-- no more than there may be
pub all_rules : (rs : List (At PlainRule)) (n : ℕ) (plain : List PlainRule) → plain ≡ rules_in (take n rs) → n ≤ RULE_LIMIT →
    length rs ≤ n → plain ≡ plain_rules rs
all_rules rs n plain is few all =
    let fits : length rs ≤ RULE_LIMIT = omega arith in
    is ∙ ap rules_in (take_all n rs all) ∙ sym (ap rules_in (take_all RULE_LIMIT rs fits))
    ∙ sym (take-map (λ (r : At PlainRule). r.is) RULE_LIMIT rs)

pub some_more : {X Y : Type 0} → (f : X → Option Y) (xs : List X) (i : ℕ) (x : X) (y : Y) (before now : List Y) →
    before ≡ filter_map f (take i xs) → i < length xs → x ≡ get_or xs i x →
    f x ≡ Some y → now ≡ before ++ y ∷ [] → now ≡ filter_map f (take (i + 1) xs)
some_more {X} {Y} f xs i x y before now so_far within here is pushed =
    pushed ∙ ap (λ (l : List Y). l ++ y ∷ []) so_far ∙ ap (λ (o : Option Y). filter_map f (take i xs) ++ cons_option o []) (sym is)
    ∙ sym (filter_map-append f (take i xs) (x ∷ [])) ∙ sym (ap (filter_map f) (take_item xs i x within here))

pub none_more : {X Y : Type 0} → (f : X → Option Y) (xs : List X) (i : ℕ) (x : X) (before now : List Y) →
    before ≡ filter_map f (take i xs) → i < length xs → x ≡ get_or xs i x →
    f x ≡ None → now ≡ before → now ≡ filter_map f (take (i + 1) xs)
none_more {X} {Y} f xs i x before now so_far within here is same =
    same ∙ so_far ∙ sym (append-nil (filter_map f (take i xs))) ∙ ap (λ (o : Option Y). filter_map f (take i xs) ++ cons_option o [])
    (sym is)
    ∙ sym (filter_map-append f (take i xs) (x ∷ [])) ∙ sym (ap (filter_map f) (take_item xs i x within here))

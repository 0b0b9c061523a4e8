-- Rulesets in turn: what a reference leads to, as the code finds it.
use Rattle.std.proofs.{Common.{◌≡◌, ℕ, ◌<◌, ◌≤◌, ◌+◌, T, Bool, true, false, cond, List, [], ◌∷◌, ◌++◌, Option, Some, None, refl, sym, ap, ◌∙◌, arith}, lemmas.Cmp.{alike_right, eq_by_cmp_equiv, nat_list_cmp_total}}
use Rattle.std.specs.{Prelude.filter, FinMap.{find, is_sorted, slice_cmp-IsAntisymmetric, nat_cmp-IsAntisymmetric}, FinMap.Entries.{same_entries, find-where_key, is_sorted-where_key}, Option.{option_map_or, option_or}, Ordering.is_eq}
use Rattle.pf_addr.specs.declared.path.limits.TheConstants.{DEPTH_LIMIT}
use Rattle.pf_addr.specs.{Path.Paths.{path_order, same_path, is_path}, Path.Nested.{depth, path_within, is_child}, Path.References.PlainReference}
use Rattle.pf_addr.proofs.{PathsRead.same_path_is, Nesting.{path_few, has_one_more}}
use Rattle.pf_rule.specs.Rules.{PlainRule}
use Rattle.pf_anchor.specs.{declared.{evaluated.Evaluated.Evaluated, evaluated.Evaluated.TheVariants.Open}, Rulesets.{PlainPlaced, ruled, rules_in, rules_at, leads_from, targets}, Evaluation.{and_then, settled, rules_give, in_turn}}
use Rattle.pf_anchor.proofs.Evaluations.{none_and_then, and_then_none, and_then_assoc}

-- ---- one after the other

pub then_open : {M : Type 0} (last latest : Option M) (x : Evaluated M) → and_then (Open last) (and_then (Open latest) x) ≡ and_then (Open (option_or latest last)) x
then_open last None x = ap (and_then (Open last)) (none_and_then x)
then_open last (Some m) x = sym (and_then_assoc (Open last) (Open (Some m)) x)

pub turns_append : {M : Type 0} (f : PlainPlaced → Evaluated M) (a b : List PlainPlaced) → in_turn f (a ++ b) ≡ and_then (in_turn f a) (in_turn f b)
turns_append f [] b = sym (none_and_then (in_turn f b))
turns_append f (e ∷ a) b = ap (and_then (f e)) (turns_append f a b) ∙ sym (and_then_assoc (f e) (in_turn f a) (in_turn f b))

-- a rule before others: it matches and the evaluation goes on, or it doesn't match
pub rule_goes_on : {M : Type 0} (effect : ℕ → PlainRule → Evaluated M) (test : PlainRule → Bool) (last latest : Option M) (n : ℕ) (rules : List PlainRule) (r : PlainRule) (rest : List PlainRule) →
    rules ≡ r ∷ rest → test r ≡ true → Open latest ≡ settled r.quick (effect n r) → and_then (Open last) (rules_give effect test n rules) ≡ and_then (Open (option_or latest last)) (rules_give effect test (n + 1) rest)
rule_goes_on {M} effect test last latest n rules r rest left is settles =
    ap (λ (rs : List PlainRule). and_then (Open last) (rules_give effect test n rs)) left
    ∙ ap (λ (b : Bool). and_then (Open last) (and_then (cond b (settled r.quick (effect n r)) (Open None)) (rules_give effect test (n + 1) rest))) is
    ∙ ap (λ (x : Evaluated M). and_then (Open last) (and_then x (rules_give effect test (n + 1) rest))) (sym settles)
    ∙ then_open last latest (rules_give effect test (n + 1) rest)

pub rule_passed : {M : Type 0} (effect : ℕ → PlainRule → Evaluated M) (test : PlainRule → Bool) (last : Option M) (n : ℕ) (rules : List PlainRule) (r : PlainRule) (rest : List PlainRule) →
    rules ≡ r ∷ rest → test r ≡ false → and_then (Open last) (rules_give effect test n rules) ≡ and_then (Open last) (rules_give effect test (n + 1) rest)
rule_passed effect test last n rules r rest left is =
    ap (λ (rs : List PlainRule). and_then (Open last) (rules_give effect test n rs)) left
    ∙ ap (λ (b : Bool). and_then (Open last) (and_then (cond b (settled r.quick (effect n r)) (Open None)) (rules_give effect test (n + 1) rest))) is
    ∙ ap (and_then (Open last)) (none_and_then (rules_give effect test (n + 1) rest))

-- a ruleset before others: it is a child and the evaluation goes on or ends with it, or it is no child
pub child_step : {M : Type 0} (f : PlainPlaced → Evaluated M) (test : PlainPlaced → Bool) (last : Option M) (e : PlainPlaced) (rest : List PlainPlaced) (x : Evaluated M) →
    test e ≡ true → x ≡ f e → and_then (Open last) (in_turn f (filter test (e ∷ rest))) ≡ and_then (Open last) (and_then x (in_turn f (filter test rest)))
child_step {M} f test last e rest x is gives =
    ap (λ (b : Bool). and_then (Open last) (in_turn f (cond b (e ∷ filter test rest) (filter test rest)))) is
    ∙ ap (λ (y : Evaluated M). and_then (Open last) (and_then y (in_turn f (filter test rest)))) (sym gives)

pub no_child_step : {M : Type 0} (f : PlainPlaced → Evaluated M) (test : PlainPlaced → Bool) (last : Option M) (e : PlainPlaced) (rest : List PlainPlaced) →
    test e ≡ false → and_then (Open last) (in_turn f (filter test (e ∷ rest))) ≡ and_then (Open last) (in_turn f (filter test rest))
no_child_step f test last e rest is = ap (λ (b : Bool). and_then (Open last) (in_turn f (cond b (e ∷ filter test rest) (filter test rest)))) is

-- ---- what a reference leads to

filter_none : (c : List PlainPlaced) → filter (λ e. false) c ≡ []
filter_none [] = refl
filter_none (e ∷ c) = filter_none c

pub no_targets : (c : List PlainPlaced) (p : List ℕ) (r : PlainReference) → path_within p r.names ≡ None → targets c p r ≡ []
no_targets c p r none = ap (λ (base : Option (List ℕ)). filter (λ e. option_map_or (λ b. leads_from b r.wildcard e.0) base false) c) none ∙ filter_none c

pub targets_from : (c : List PlainPlaced) (p : List ℕ) (r : PlainReference) (base : List ℕ) (wildcard : Bool) → path_within p r.names ≡ Some base → r.wildcard ≡ wildcard → targets c p r ≡ filter (λ e. leads_from base wildcard e.0) c
targets_from c p r base wildcard at is =
    ap (λ (o : Option (List ℕ)). filter (λ e. option_map_or (λ b. leads_from b r.wildcard e.0) o false) c) at ∙ ap (λ (w : Bool). filter (λ e. leads_from base w e.0) c) is

-- ---- the ruleset at a path

abbrev pub alone : List ℕ → Option (List PlainRule) → List PlainPlaced
alone p None = []
alone p (Some rs) = ruled p rs ∷ []

same_back : (p q : List ℕ) → same_path q p ≡ same_path p q
same_back p q = (eq_by_cmp_equiv nat_list_cmp_total).symm q p

found_alone : (p q : List ℕ) (b : Bool) (v : Option (List PlainRule)) → same_path p q ≡ b → find path_order q (alone p v) ≡ cond b v None
found_alone p q true None is = refl
found_alone p q false None is = refl
found_alone p q true (Some rs) is = rw (same_back p q ∙ is) refl
found_alone p q false (Some rs) is = rw (same_back p q ∙ is) refl

sorted_alone : (p : List ℕ) (v : Option (List PlainRule)) → T (is_sorted path_order (alone p v))
sorted_alone p None = tt
sorted_alone p (Some rs) = tt

found_there : (c : List PlainPlaced) (p q : List ℕ) (b : Bool) → same_path p q ≡ b → cond b (find path_order q c) None ≡ cond b (find path_order p c) None
found_there c p q true is = ap (λ (k : List ℕ). find path_order k c) (sym (same_path_is p q is))
found_there c p q false is = refl

pub one_there : (c : List PlainPlaced) (p : List ℕ) → T (is_sorted path_order c) → filter (λ e. same_path p e.0) c ≡ alone p (find path_order p c)
one_there c p sorted =
    same_entries path_order nat_list_cmp_total (slice_cmp-IsAntisymmetric nat_cmp-IsAntisymmetric) (filter (λ e. same_path p e.0) c) (alone p (find path_order p c))
    (is_sorted-where_key path_order (same_path p) c sorted) (sorted_alone p (find path_order p c))
    (λ q.
    find-where_key path_order (same_path p) q (λ x tied. ap is_eq (sym (alike_right nat_list_cmp_total q x p tied))) c
    ∙ found_there c p q (same_path p q) refl
    ∙ sym (found_alone p q (same_path p q) (find path_order p c) refl))

pub plain_turn : {M : Type 0} (f : PlainPlaced → Evaluated M) (c : List PlainPlaced) (p : List ℕ) → T (is_sorted path_order c) → f (ruled p []) ≡ Open None → in_turn f (filter (λ e. same_path p e.0) c) ≡ f (ruled p (rules_at p c))
plain_turn f c p sorted nothing = ap (in_turn f) (one_there c p sorted) ∙ by (find path_order p c) where
  by : (v : Option (List PlainRule)) → in_turn f (alone p v) ≡ f (ruled p (rules_in v))
  by None = sym nothing
  by (Some rs) = and_then_none (f (ruled p rs))

-- ---- depths

pub child_deeper : (p q : List ℕ) → is_child p q ≡ true → is_path q ≡ true → (depth p < depth q) × (depth q ≤ DEPTH_LIMIT)
child_deeper p q is path = let more = (has_one_more p q is).1.2 in (omega (arith, more), path_few q path)

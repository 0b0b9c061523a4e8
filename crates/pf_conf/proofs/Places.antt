-- Where rules stand.
use Rattle.std.proofs.Common.{◌≡◌, ℕ, suc, ◌+◌, ◌==◌, ◌&&◌, ◌||◌, Bool, true, false, List, [], ◌∷◌, ◌++◌, map, length, get_or, Result, Ok, refl, arith, subst, nat_le, if◌then◌else◌, inl, inr}
use Rattle.std.specs.Prelude.{All, Contains, codes}
use Rattle.std.specs.Str.{bytes_eq}
use Rattle.std.proofs.lemmas.List.{length-map, get_or-map}
use Rattle.std.proofs.lemmas.List.Elements.{All-nil, All-append, All-map, All-filter}
use Rattle.pf_rule.specs.Rules.{PlainRule}
use Rattle.pf_lists.specs.Multiplied.{multiplied}
use Rattle.pf_tokens.specs.declared.{place.Place.Place, files.File.File, token.Token.Token}
use Rattle.pf_parse.specs.declared.{parser.Mode.Mode, statements.Parsed.Parsed, tree.Product.Product, tree.Tree.Tree, tree.Written.Written}
use Rattle.pf_parse.specs.declared.fault.Mistake.TheVariants as mistakes
use Rattle.pf_tokens.specs.declared.token.Kind.TheVariants.{Word}
use Rattle.pf_tokens.specs.{Places.text_of, Words.same_kind}
use Rattle.pf_parse.specs.{Stops.fault_at, Lines.parsed, Laws.{begins_rule, BeginsAt}}
use Rattle.pf_values.specs.declared.interfaces.interface.Interface.{Interface}
use Rattle.pf_values.specs.Interfaces.Addresses.{with_addresses}
use Rattle.pf_values.proofs.Words.{words_are}
use Rattle.pf_conf.specs.declared.{found.TheConstants.RULE_LIMIT}
use Rattle.pf_sources.specs.Steps.{each}
use Rattle.pf_conf.specs.{Lines.{spoof_checked, parsed_with}, Laws.IsRulePlace}
use Rattle.pf_conf.specs.Rulesets.{PlacedRule, rule_at, rules_at, with_more, with_product, written_in, skips_in, rules_in}
use Rattle.pf_conf.proofs.Kept.{both, if_so, TreeSo, FilesSo}

all_first : {X : Type 0} (P : X → Type 0) (x : X) (xs : List X) → All P (x ∷ xs) → P x
all_first P x xs all = all 0 x (omega arith)

all_rest : {X : Type 0} (P : X → Type 0) (x : X) (xs : List X) → All P (x ∷ xs) → All P xs
all_rest P x xs all = λ k d within. all (suc k) d (omega arith)

each_keeps_so : {A S E : Type 0} (P : S → Type 0) (Q : A → Type 0) (step : A → S → Result S E) → ((a : A) (s t : S) → Q a → P s → step a s ≡ Ok t → P t) → (xs : List A) → All Q xs → (s t : S) → P s → each step xs s ≡ Ok t → P t
unfolding each
each_keeps_so P Q step keeps [] all s t known is = let same : s ≡ t = cc in subst P same known
each_keeps_so P Q step keeps (x ∷ xs) all s t known is =
    let b = both (step x s) (each step xs) t is in
    each_keeps_so P Q step keeps xs (all_rest Q x xs all) b.0 t (keeps x s b.0 (all_first Q x xs all) known b.1) b.2

abbrev AllAt : (Place → Type 0) → List PlacedRule → Type 0
AllAt S rules = All (λ (r : PlacedRule). S r.place) rules

each_at : (S : Place → Type 0) (p : Place) → S p → (rs : List PlainRule) → AllAt S (map (rule_at p) rs)
each_at S p here rs = All-map (λ (r : PlacedRule). S r.place) (rule_at p) rs (λ k d within. here)

product_at : (S : Place → Type 0) (w : Product) (rules all : List PlacedRule) → S w.place → AllAt S rules → with_product w rules ≡ Ok all → AllAt S all
unfolding with_product
product_at S w rules all here known from =
    let b = both (rules_at w.place (multiplied w.lists)) (with_more w.place rules) all from in
    let more : Ok (rules ++ map (rule_at w.place) b.0) ≡ Ok all = if_so (nat_le (length rules + length b.0) RULE_LIMIT) (Ok (rules ++ map (rule_at w.place) b.0)) (fault_at w.place mistakes.ManyRules) all b.2 in
    let same : rules ++ map (rule_at w.place) b.0 ≡ all = cc in
    subst (AllAt S) same (All-append (λ (r : PlacedRule). S r.place) rules (map (rule_at w.place) b.0) known (each_at S w.place here b.0))

skips_at : (S : Place → Type 0) (number : ℕ) (tree : Tree) → All (λ (w : Product). S w.place) tree.skips → All (λ (w : Product). S w.place) (skips_in number tree)
skips_at S number tree all =
    elim (number == 0) as (λ b. All (λ (w : Product). S w.place) (if b then tree.skips else [])) [ true ↦ all | false ↦ All-nil (λ (w : Product). S w.place) ]

written_at : (S : Place → Type 0) (number : ℕ) (tree : Tree) → All (λ (w : Written). S w.product.place) tree.rules → All (λ (w : Product). S w.place) (written_in number tree.rules)
written_at S number tree all =
    All-map (λ (w : Product). S w.place) (λ (w : Written). w.product) _ (All-filter (λ (w : Written). w.within == number) (λ (w : Written). S w.product.place) tree.rules all)

tree_at : (S : Place → Type 0) (tree : Tree) → All (λ (w : Product). S w.place) tree.skips → All (λ (w : Written). S w.product.place) tree.rules → TreeSo (λ (r : PlacedRule). S r.place) tree
unfolding rules_in
tree_at S tree skips written number rules from =
    let b = both (each with_product (skips_in number tree) []) (each with_product (written_in number tree.rules)) rules from in
    let P : List PlacedRule → Type 0 = AllAt S in
    let Q : Product → Type 0 = λ w. S w.place in
    let first = each_keeps_so P Q with_product (λ w s t here known one. product_at S w s t here known one) (skips_in number tree) (skips_at S number tree skips) [] b.0 (All-nil (λ (r : PlacedRule). S r.place)) b.1 in
    each_keeps_so P Q with_product (λ w s t here known one. product_at S w s t here known one) (written_in number tree.rules) (written_at S number tree written) b.0 rules first b.2

-- ---- a file's

among : (ps : List Product) → All (λ (w : Product). Contains (map (λ (v : Product). v.place) ps) w.place) ps
among ps k d within =
    let long : length (map (λ (v : Product). v.place) ps) ≡ length ps = length-map ps (λ (v : Product). v.place) in
    (k, omega (arith, long), get_or-map (λ (v : Product). v.place) ps k d ((get_or ps k d).place) within)

-- each rule of a file's lines stands where one begins
abbrev pub LinesAt : Type 0
LinesAt = (ts : List Token) (mode : Mode) (is_main : Bool) (p : Parsed) → parsed ts mode is_main ≡ Ok p → All (λ (w : Written). BeginsAt ts w.product.place) p.tree.rules

lines_read : (interfaces : List Interface) (ts : List Token) (mode : Mode) (main : Bool) (p : Parsed)
    → parsed_with interfaces ts mode main ≡ Ok p → parsed (with_addresses interfaces ts) mode main ≡ Ok p
unfolding parsed_with
lines_read interfaces ts mode main p from =
    let b = both (spoof_checked interfaces ts) (λ _. parsed (with_addresses interfaces ts) mode main) p from in b.2

is_word_at_all : (w x y z : Bool) → ((w && x) || (w && y)) || (w && z) ≡ true → w ≡ true
is_word_at_all true x y z is = refl
is_word_at_all false x y z is = is

begins_so : (t : Token) → begins_rule t ≡ true → same_kind t.kind Word ≡ true
begins_so t is =
    is_word_at_all (same_kind t.kind Word) (bytes_eq (text_of t.text) (codes "pass")) (bytes_eq (text_of t.text) (codes "block"))
    (bytes_eq (text_of t.text) (codes "anchor")) is

-- a rule's word is one of the file's
begins_there : (interfaces : List Interface) (ts : List Token) (p : Place) → BeginsAt (with_addresses interfaces ts) p → BeginsAt ts p
begins_there interfaces ts p here = (here.0, words_are interfaces ts here.0 here.1 (begins_so here.0 here.3), here.2, here.3)

pub files_at : LinesAt → (files : List File) (interfaces : List Interface)
    → FilesSo (λ (r : PlacedRule). IsRulePlace files interfaces r.place) files interfaces
files_at lines files interfaces m read flat mode main p one two =
    let skips : All (λ (w : Product). IsRulePlace files interfaces w.place) p.tree.skips =
    λ k d within. record { file = m; before = read; flat = flat; read = one; begins = inr (record { mode = mode; is_main = main; lines = p; read = two; among = among p.tree.skips k d within }) } in
    let written : All (λ (w : Written). IsRulePlace files interfaces w.product.place) p.tree.rules =
    λ k d within. record {
      file = m;
      before = read;
      flat = flat;
      read = one;
      begins = inl
          (begins_there interfaces flat.tokens _
          (lines (with_addresses interfaces flat.tokens) mode main p (lines_read interfaces flat.tokens mode main p two) k d within));
    } in
    tree_at (IsRulePlace files interfaces) p.tree skips written

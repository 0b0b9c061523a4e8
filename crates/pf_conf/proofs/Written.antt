-- The rules of some braces, among all that are written.
use Rattle.std.proofs.Common.{◌≡◌, ℕ, ◌+◌, ◌==◌, ◌<◌, ◌≤◌, Bool, true, false, List, [], ◌∷◌, length, get_or, drop, map, filter, cond, eq-eqb, Result, Ok, Err, refl, ap, ◌∙◌, if◌then◌else◌}
use Rattle.std.proofs.{lemmas.List.drop_all, lemmas.Bool.ne_eqb}
use Rattle.pf_form.specs.Form.Forms.{◌>>=◌}
use Rattle.pf_parse.specs.declared.{fault.Stop.Stop, fault.Stop.TheVariants.{Faulty, Needs, Memory}, tree.Product.Product, tree.Tree.Tree, tree.Written.Written}
use Rattle.pf_sources.specs.Steps.{each, Leaves}
use Rattle.pf_conf.specs.Rulesets.{PlacedRule, with_product, written_in, skips_in}
use Rattle.pf_sources.proofs.Steps.{each_none, each_one, each_append}
use Rattle.pf_conf.proofs.Steps.{drop_item}

first_after : (found : Bool) (w : Written) (ps : List Product) (rules : List PlacedRule) → each with_product (if found then w.product ∷ ps else ps) rules ≡ (each with_product (if found then w.product ∷ [] else []) rules >>= λ more. each with_product ps more)
first_after true w ps rules = each_append with_product (w.product ∷ []) ps rules
first_after false w ps rules = let none = each_none with_product rules in rw none refl

split : (number : ℕ) (w : Written) (ws : List Written) (rules : List PlacedRule) → each with_product (written_in number (w ∷ ws)) rules ≡ (each with_product (written_in number (w ∷ [])) rules >>= λ more. each with_product (written_in number ws) more)
split number w ws rules =
    elim (w.within == number) as (λ b. each with_product (map (λ (v : Written). v.product) (cond b (w ∷ filter (λ (v : Written). v.within == number) ws) (filter (λ (v : Written). v.within == number) ws))) rules ≡ (each with_product (map (λ (v : Written). v.product) (cond b (w ∷ []) [])) rules >>= λ more. each with_product (written_in number ws) more)) [
      | true ↦ first_after true w (written_in number ws) rules
      | false ↦ first_after false w (written_in number ws) rules
    ]

pub written_on : (number : ℕ) (all : List Written) (i : ℕ) (w : Written) (rules more : List PlacedRule) (whole : Result (List PlacedRule) Stop) → whole ≡ each with_product (written_in number (drop i all)) rules → i < length all → w ≡ get_or all i w → each with_product (written_in number (w ∷ [])) rules ≡ Ok more → whole ≡ each with_product (written_in number (drop (i + 1) all)) more
written_on number all i w rules more whole known within here is =
    known ∙ ap (λ (ws : List Written). each with_product (written_in number ws) rules) (drop_item all i w within here) ∙ split number w (drop (i + 1) all) rules ∙ rw is refl

written_fails : (number : ℕ) (all : List Written) (i : ℕ) (w : Written) (rules : List PlacedRule) (e : Stop) (whole : Result (List PlacedRule) Stop) → whole ≡ each with_product (written_in number (drop i all)) rules → i < length all → w ≡ get_or all i w → each with_product (written_in number (w ∷ [])) rules ≡ Err e → whole ≡ Err e
written_fails number all i w rules e whole known within here is =
    known ∙ ap (λ (ws : List Written). each with_product (written_in number ws) rules) (drop_item all i w within here) ∙ split number w (drop (i + 1) all) rules ∙ rw is refl

pub written_stops : (number : ℕ) (all : List Written) (i : ℕ) (w : Written) (rules more left : List PlacedRule) (e : Stop) (whole : Result (List PlacedRule) Stop) → whole ≡ each with_product (written_in number (drop i all)) rules → i < length all → w ≡ get_or all i w → Leaves (Err e) more (each with_product (written_in number (w ∷ [])) rules) → Leaves (Err e) left whole
written_stops number all i w rules more left (Faulty f) whole known within here is = written_fails number all i w rules (Faulty f) whole known within here is
written_stops number all i w rules more left (Needs n) whole known within here is = written_fails number all i w rules (Needs n) whole known within here is
written_stops number all i w rules more left Memory whole known within here is = tt

pub written_end : (number : ℕ) (all : List Written) (i : ℕ) (rules : List PlacedRule) (whole : Result (List PlacedRule) Stop) → whole ≡ each with_product (written_in number (drop i all)) rules → length all ≤ i → whole ≡ Ok rules
written_end number all i rules whole known past =
    known ∙ ap (λ (ws : List Written). each with_product (written_in number ws) rules) (drop_all i all past) ∙ each_none with_product rules

-- one that stands in these braces, and one that stands in others
pub one_written : (number : ℕ) (w : Written) (rules : List PlacedRule) → w.within ≡ number → each with_product (written_in number (w ∷ [])) rules ≡ with_product w.product rules
one_written number w rules here =
    let same : (w.within == number) ≡ true = eq-eqb w.within number here in
    rw same (each_one with_product w.product rules)

pub not_written : (number : ℕ) (w : Written) (rules : List PlacedRule) → (w.within ≡ number → ⊥) → each with_product (written_in number (w ∷ [])) rules ≡ Ok rules
not_written number w rules other =
    let differs : (w.within == number) ≡ false = ne_eqb w.within number other in
    rw differs (each_none with_product rules)

pub no_skips : (number : ℕ) (tree : Tree) (rules : List PlacedRule) → (number ≡ 0 → ⊥) → each with_product (skips_in number tree) rules ≡ Ok rules
no_skips number tree rules some =
    let differs : (number == 0) ≡ false = ne_eqb number 0 some in
    rw differs (each_none with_product rules)

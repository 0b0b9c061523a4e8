-- The rules of a ruleset are those of its written rules.
use Rattle.std.proofs.Common.{◌≡◌, ℕ, ◌+◌, List, [], ◌∷◌, ◌++◌, map, length, nat_le, Result, Ok, Err, refl, sym, ap, ◌∙◌, append_assoc, append-nil}
use Rattle.pf_rule.specs.Rules.{PlainRule}
use Rattle.pf_lists.specs.Multiplied.{multiplied}
use Rattle.pf_lists.specs.declared.rules.Mistake.{Mistake}
use Rattle.pf_tokens.specs.declared.place.Place.{Place}
use Rattle.pf_parse.specs.declared.{tree.Product.Product, tree.Tree.Tree}
use Rattle.pf_parse.specs.declared.fault.Mistake.TheVariants as mistakes
use Rattle.pf_parse.specs.Stops.{fault_at}
use Rattle.pf_conf.specs.declared.found.TheConstants.{RULE_LIMIT}
use Rattle.pf_sources.specs.Steps.{each}
use Rattle.pf_conf.specs.Rulesets.{PlacedRule, rule_at, rules_at, with_more, with_product, written_in, skips_in, rules_in}
use Rattle.pf_conf.proofs.Kept.{both, if_so}
use Rattle.pf_load.specs.Files.Rulesets.{AreRulesOf}

read_at : (p : Place) (q : Result (List PlainRule) Mistake) (rs : List PlainRule) → rules_at p q ≡ Ok rs → q ≡ Ok rs
read_at p (Ok qs) rs is = let same : qs ≡ rs = cc in ap (λ (xs : List PlainRule). Ok xs) same
read_at p (Err m) rs is = absurd (cc)

-- one written rule more
record Adds (w : Product) (rules all : List PlacedRule) : Type 0 where
  own : List PlainRule
  read : multiplied w.lists ≡ Ok own
  more : all ≡ rules ++ map (rule_at w.place) own

adds : (w : Product) (rules all : List PlacedRule) → with_product w rules ≡ Ok all → Adds w rules all
unfolding with_product
adds w rules all is =
    let b = both (rules_at w.place (multiplied w.lists)) (with_more w.place rules) all is in
    let fits : Ok (rules ++ map (rule_at w.place) b.0) ≡ Ok all = if_so (nat_le (length rules + length b.0) RULE_LIMIT) (Ok (rules ++ map (rule_at w.place) b.0)) (fault_at w.place mistakes.ManyRules) all b.2 in
    let same : rules ++ map (rule_at w.place) b.0 ≡ all = cc in
    record { own = b.0; read = read_at w.place (multiplied w.lists) b.0 b.1; more = sym same }

-- several
record AddsAll (ws : List Product) (rules all : List PlacedRule) : Type 0 where
  others : List PlacedRule
  are : AreRulesOf ws others
  more : all ≡ rules ++ others

adds_all : (ws : List Product) (rules all : List PlacedRule) → each with_product ws rules ≡ Ok all → AddsAll ws rules all
unfolding each
adds_all [] rules all is = let same : rules ≡ all = cc in record { others = []; are = refl; more = sym same ∙ sym (append-nil rules) }
adds_all (w ∷ ws) rules all is =
    let b = both (with_product w rules) (λ (next : List PlacedRule). each with_product ws next) all is in
    let first : Adds w rules b.0 = adds w rules b.0 b.1 in
    let rest : AddsAll ws b.0 all = adds_all ws b.0 all b.2 in
    let own : List PlacedRule = map (rule_at w.place) first.own in
    record {
      others = own ++ rest.others;
      are = (first.own, rest.others, first.read, rest.are, refl);
      more = rest.more ∙ ap (λ (rs : List PlacedRule). rs ++ rest.others) first.more ∙ append_assoc rules own rest.others;
    }

are_both : (ws vs : List Product) (a b : List PlacedRule) → AreRulesOf ws a → AreRulesOf vs b → AreRulesOf (ws ++ vs) (a ++ b)
are_both [] vs a b none others = rw none others
are_both (w ∷ ws) vs a b (own, rest, read, are, is) others =
    (own, rest ++ b, read, are_both ws vs rest b are others, ap (λ (rs : List PlacedRule). rs ++ b) is ∙ append_assoc (map (rule_at w.place) own) rest b)

pub rules_are_of : (number : ℕ) (tree : Tree) (rules : List PlacedRule) → rules_in number tree ≡ Ok rules → AreRulesOf (skips_in number tree ++ written_in number tree.rules) rules
unfolding rules_in
rules_are_of number tree rules is =
    let b = both (each with_product (skips_in number tree) []) (each with_product (written_in number tree.rules)) rules is in
    let first : AddsAll (skips_in number tree) [] b.0 = adds_all (skips_in number tree) [] b.0 b.1 in
    let rest : AddsAll (written_in number tree.rules) b.0 rules = adds_all (written_in number tree.rules) b.0 rules b.2 in
    let all : rules ≡ first.others ++ rest.others = rest.more ∙ ap (λ (rs : List PlacedRule). rs ++ rest.others) first.more in
    rw all (are_both (skips_in number tree) (written_in number tree.rules) first.others rest.others first.are rest.are)

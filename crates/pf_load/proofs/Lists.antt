-- The rules of lists, way by way.
use Rattle.std.proofs.Common.{◌≡◌, suc, ◌+◌, ◌*◌, ◌<◌, not, cond, List, [], ◌∷◌, ◌++◌, map, length, nat_le, Option, Some, None, Result, Ok, Err, refl, ap, subst, ◌∙◌, arith}
use Rattle.std.specs.{List.{count_by}, Option.option_to_list}
use Rattle.pf_form.specs.Form.Forms.{◌>>=◌, Read, reads, ended, read_all}
use Rattle.pf_rule.specs.{Rules.PlainRule, RuleGrammar.rule}
use Rattle.pf_rule.specs.declared.fault.Mistake.{Mistake as RuleMistake}
use Rattle.pf_rule.specs.declared.fault.Mistake.TheVariants.{MixedFamily, PortNeedsProto}
use Rattle.pf_lists.specs.declared.rules.{Mistake.Mistake, TheConstants.COMBINATION_LIMIT}
use Rattle.pf_lists.specs.declared.rules.Mistake.TheVariants.{ManyCombinations}
use Rattle.pf_lists.specs.{Product.{Word, spelled, count}, Multiplied.{icmp_fault, unless_fault, rule_read, rule_of, leaves_out, is_left_out, rules_of, at_least_one, multiplied}}
use Rattle.pf_conf.proofs.Kept.{both, if_so}
use Rattle.pf_load.specs.Files.Lists.{left_of, whole, AreReadAs, HaveOneItem, IsOne}

-- ---- one way

faultless : (r s : PlainRule) (fault : Option Mistake) → unless_fault s fault ≡ Ok (Some r) → whole s ≡ whole r
faultless r s None is = let same : s ≡ r = cc in ap whole same
faultless r s (Some m) is = absurd (cc)

read_so : (r : PlainRule) (q : Read (Result PlainRule RuleMistake)) → rule_read q ≡ Ok (Some r) → (q >>= ended) ≡ whole r
read_so r (Ok (Ok s, [])) is = faultless r s (icmp_fault s.protocol s.family) is
read_so r (Ok (Ok s, w ∷ ws)) is = absurd (cc)
read_so r (Ok (Err MixedFamily, ws)) is = absurd (cc)
read_so r (Ok (Err PortNeedsProto, ws)) is = absurd (cc)
read_so r (Err e) is = absurd (cc)

rule_so : (ws : List Word) (r : PlainRule) → rule_of ws ≡ Ok (Some r) → read_all rule ws ≡ whole r
unfolding rule_of
rule_so ws r is = read_so r (reads rule ws) is

-- one way more is left out, or is read as the next rule
one_way : (ws : List Word) (r : Result (Option PlainRule) Mistake) (q : Result (List PlainRule) Mistake) (rest : List (List Word)) (rules : List PlainRule) → rule_of ws ≡ r → ((rs : List PlainRule) → q ≡ Ok rs → AreReadAs rest rs) → (r >>= λ o. q >>= λ rs. Ok (option_to_list o ++ rs)) ≡ Ok rules → AreReadAs (cond (not (leaves_out r)) (ws ∷ rest) rest) rules
one_way ws (Err m) q rest rules is others from = absurd (cc)
one_way ws (Ok o) (Err m) rest rules is others from = absurd (cc)
one_way ws (Ok None) (Ok rs) rest rules is others from = let same : rs ≡ rules = cc in subst (AreReadAs rest) same (others rs refl)
one_way ws (Ok (Some r)) (Ok rs) rest rules is others from =
    let same : r ∷ rs ≡ rules = cc in
    let first : read_all rule ws ≡ whole r = rule_so ws r is in
    let all : AreReadAs (ws ∷ rest) (r ∷ rs) = ap (λ x. x ∷ map (λ (vs : List Word). read_all rule vs) rest) first ∙ ap (λ xs. whole r ∷ xs) (others rs refl) in
    subst (AreReadAs (ws ∷ rest)) same all

ways_read : (ways : List (List Word)) (rules : List PlainRule) → rules_of ways ≡ Ok rules → AreReadAs (left_of ways) rules
unfolding rules_of
ways_read [] rules from = let same : [] ≡ rules = cc in ap (map whole) same
ways_read (ws ∷ wss) rules from = one_way ws (rule_of ws) (rules_of wss) (left_of wss) rules refl (λ rs one. ways_read wss rs one) from

-- ---- lists

some_left : (rs rules : List PlainRule) → at_least_one rs ≡ Ok rules → (rs ≡ rules) × (0 < length rules)
some_left [] rules is = absurd (cc)
some_left (r ∷ rs) rules is =
    let same : r ∷ rs ≡ rules = cc in
    (same, subst (λ (qs : List PlainRule). 0 < length qs) same (omega arith))

of_ways : (lists : List (List (List Word))) (rules : List PlainRule) → multiplied lists ≡ Ok rules → (rules_of (spelled lists) ≡ Ok rules) × (0 < length rules)
of_ways lists rules from =
    let b = both (rules_of (spelled lists)) at_least_one rules (if_so (nat_le (length (spelled lists)) COMBINATION_LIMIT) (rules_of (spelled lists) >>= at_least_one) ManyCombinations rules from) in
    let some = some_left b.0 rules b.2 in
    (b.1 ∙ ap (λ (rs : List PlainRule). Ok rs) some.0, some.1)

pub lists_read : (lists : List (List (List Word))) (rules : List PlainRule) → multiplied lists ≡ Ok rules → AreReadAs (left_of (spelled lists)) rules
lists_read lists rules from = ways_read (spelled lists) rules (of_ways lists rules from).0

-- the law of pf_lists on how many rules there are, and how many ways
abbrev pub Counted : Type 0
Counted = (ways : List (List Word)) (rules : List PlainRule) → rules_of ways ≡ Ok rules → length rules + count_by is_left_out ways ≡ length ways

abbrev pub Numbered : Type 0
Numbered = (lists : List (List (List Word))) → length (spelled lists) ≡ count lists

pub lists_counted : Counted → Numbered → (lists : List (List (List Word))) (rules : List PlainRule) → multiplied lists ≡ Ok rules → length rules + count_by is_left_out (spelled lists) ≡ count lists
lists_counted counted numbered lists rules from = counted (spelled lists) rules (of_ways lists rules from).0 ∙ numbered lists

-- ---- lists of one item

one_each : (lists : List (List (List Word))) → HaveOneItem lists → count lists ≡ 1
unfolding count
one_each [] one = refl
one_each (items ∷ lists) one =
    let first : length items ≡ 1 = one 0 items (omega arith) in
    let others : count lists ≡ 1 = one_each lists (λ k d within. one (suc k) d (omega arith)) in
    ap (λ n. n * count lists) first ∙ ap (λ n. 1 * n) others

is_one : (rules : List PlainRule) → length rules ≡ 1 → IsOne rules
is_one [] long = absurd (omega arith)
is_one (r ∷ []) long = (r, refl)
is_one (r ∷ q ∷ rs) long = absurd (omega arith)

pub one_rule : Counted → Numbered → (lists : List (List (List Word))) (rules : List PlainRule) → HaveOneItem lists → multiplied lists ≡ Ok rules → IsOne rules
one_rule counted numbered lists rules one from =
    let all : length rules + count_by is_left_out (spelled lists) ≡ 1 = lists_counted counted numbered lists rules from ∙ one_each lists one in
    let some : 0 < length rules = (of_ways lists rules from).1 in
    is_one rules (omega arith)

-- What laws say of the rules that lists stand for (pf.conf(5), "Lists").
use Rattle.std.specs.Prelude.{◌≡◌, not, List, [], ◌∷◌, filter, length, map, All, Result, Ok}
use Rattle.pf_form.specs.Form.Forms.{read_all}
use Rattle.pf_form.specs.declared.form.fault.Kind.{Kind}
use Rattle.pf_rule.specs.{Rules.PlainRule, RuleGrammar.rule}
use Rattle.pf_rule.specs.declared.fault.Mistake.{Mistake as RuleMistake}
use Rattle.pf_lists.specs.{Product.Word, Multiplied.is_left_out}

-- the ways that aren't left out, in order
abbrev pub left_of : List (List Word) → List (List Word)
left_of ways = filter (λ (ws : List Word). not (is_left_out ws)) ways

-- what pf_rule reads of the words of a rule
abbrev pub whole : PlainRule → Result (Result PlainRule RuleMistake) (Kind × List Word)
whole r = Ok (Ok r)

-- Of the words of each way pf_rule reads the rule in its place, and no more words and no more rules are there.
abbrev pub AreReadAs : List (List Word) → List PlainRule → Type 0
AreReadAs ways rules = map (λ (ws : List Word). read_all rule ws) ways ≡ map whole rules

-- No list has more than one item, nor none.
abbrev pub HaveOneItem : List (List (List Word)) → Type 0
HaveOneItem lists = All (λ (items : List (List Word)). length items ≡ 1) lists

-- there is one rule
abbrev pub IsOne : List PlainRule → Type 0
IsOne rules = (r : PlainRule) × (rules ≡ r ∷ [])

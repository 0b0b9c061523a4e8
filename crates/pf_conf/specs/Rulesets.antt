-- The rulesets of a file (pf.conf(5), ANCHORS): its own rules, then those in braces as they open, each before its own.
use Rattle.std.specs.Prelude.{ℕ, ◌+◌, ◌==◌, nat_le, List, [], ◌∷◌, ◌++◌, map, filter, length, Option, Some, None, Result, Ok, Err, if◌then◌else◌}
use Rattle.std.specs.List.{slice_get}
use Rattle.pf_form.specs.Form.Forms.{◌>>=◌}
use Rattle.pf_addr.specs.Path.{Paths.path_text, Nested.path_within}
use Rattle.pf_rule.specs.Rules.{PlainRule}
use Rattle.pf_tokens.specs.declared.place.Place.{Place}
use Rattle.pf_lists.specs.Multiplied.{multiplied}
use Rattle.pf_lists.specs.declared.rules.Mistake.{Mistake as ListMistake}
use Rattle.pf_parse.specs.declared.{fault.At.At, fault.Stop.Stop, tree.Braces.Braces, tree.Product.Product, tree.Tree.Tree, tree.Written.Written}
use Rattle.pf_parse.specs.declared.fault.Mistake.TheVariants as mistakes
use Rattle.pf_parse.specs.{Stops.fault_at, Reading.Word}
use Rattle.pf_conf.specs.declared.{found.Found.Found, found.TheConstants.RULE_LIMIT}
use Rattle.pf_sources.specs.Steps.{each}
use Rattle.pf_conf.specs.Found.{is_full, has_rules}

-- ---- rules

-- a rule, where its first word stands
abbrev pub PlacedRule : Type 0
PlacedRule = At PlainRule

abbrev pub rule_at : Place → PlainRule → PlacedRule
rule_at p r = record { place = p; is = r }

abbrev pub rules_at : Place → Result (List PlainRule) ListMistake → Result (List PlainRule) Stop
rules_at p (Ok rs) = Ok rs
rules_at p (Err m) = Err (fault_at p (mistakes.Lists m))

-- a ruleset has so many rules at most
abbrev pub with_more : Place → List PlacedRule → List PlainRule → Result (List PlacedRule) Stop
with_more p rules more =
    if nat_le (length rules + length more) RULE_LIMIT then Ok (rules ++ map (rule_at p) more) else Err (fault_at p mistakes.ManyRules)

-- these rules, and behind them those that a written one stands for
unfoldable pub with_product : Product → List PlacedRule → Result (List PlacedRule) Stop
with_product w rules = rules_at w.place (multiplied w.lists) >>= with_more w.place rules

-- the rules that are written in the braces of this number
abbrev pub written_in : ℕ → List Written → List Product
written_in number ws = map (λ (w : Written). w.product) (filter (λ (w : Written). w.within == number) ws)

abbrev pub skips_in : ℕ → Tree → List Product
skips_in number tree = if number == 0 then tree.skips else []

-- The rules of the braces of this number. A file's own have the number 0, and come behind those of skipped interfaces.
unfoldable pub rules_in : ℕ → Tree → Result (List PlacedRule) Stop
rules_in number tree = each with_product (skips_in number tree) [] >>= each with_product (written_in number tree.rules)

abbrev pub with_ruleset : Word → Found → List PlacedRule → Found
with_ruleset path s rules = record s { rulesets = s.rulesets ++ (record { path = path; rules = rules } ∷ []) }

-- the rules of the braces of this number, as those of a path
unfoldable pub with_rules : Word → ℕ → Tree → Found → Result Found Stop
with_rules path number tree s = rules_in number tree >>= λ rules. Ok (with_ruleset path s rules)

-- ---- paths

-- a path that can have rules, which it has once
abbrev pub free_path : Place → Option Word → Found → Result Word Stop
free_path p None s = Err (fault_at p mistakes.LongPath)
free_path p (Some path) s =
    if has_rules path s then Err (fault_at p (mistakes.RulesTwice (path_text path)))
    else if is_full s then Err (fault_at p mistakes.ManyRulesets)
    else Ok path

abbrev pub outer_path : Option Word → Word
outer_path None = []
outer_path (Some path) = path

-- the path of braces, given those of the braces that opened before them
abbrev pub path_of_braces : List Word → Braces → Option Word
path_of_braces paths b = path_within (outer_path (slice_get paths b.within)) b.name

-- ---- a file

-- the paths of braces by their numbers, and what was found so far
abbrev pub Opened : Type 0
Opened = List Word × Found

-- one more braces' ruleset
unfoldable pub with_braces : Tree → Braces → Opened → Result Opened Stop
with_braces tree b x =
    free_path b.place (path_of_braces x.0 b) x.1 >>= λ path. with_rules path (length x.0) tree x.1 >>= λ s. Ok (x.0 ++ path ∷ [], s)

-- the rulesets of a file whose own rules have this path
unfoldable pub with_rulesets : Word → Tree → Found → Result Found Stop
with_rulesets path tree s = with_rules path 0 tree s >>= λ t. each (with_braces tree) tree.braces (path ∷ [], t) >>= λ x. Ok x.1

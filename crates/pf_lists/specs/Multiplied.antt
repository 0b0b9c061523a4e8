-- The rules that lists stand for: what the words of each way are read as, in order.
use Rattle.std.specs.{Prelude.{◌≡◌, ℕ, ◌==◌, nat_le, Bool, true, false, List, [], ◌∷◌, ◌++◌, length, Option, Some, None, Result, Ok, Err, if◌then◌else◌}, Option.option_to_list}
use Rattle.pf_form.specs.Form.Forms.{◌>>=◌, Read, reads}
use Rattle.pf_addr.specs.declared.addr.Family.{Family}
use Rattle.pf_addr.specs.declared.addr.Family.TheVariants.{V4, V6}
use Rattle.pf_rule.specs.{Rules.PlainRule, RuleGrammar.rule}
use Rattle.pf_rule.specs.declared.fault.Mistake.{Mistake as RuleMistake}
use Rattle.pf_rule.specs.declared.fault.Mistake.TheVariants.{MixedFamily, PortNeedsProto}
use Rattle.pf_lists.specs.declared.{rules.Mistake.Mistake, rules.ListStop.ListStop, rules.ListStop.TheVariants.{Faulty, Memory}, rules.TheConstants.COMBINATION_LIMIT}
use Rattle.pf_lists.specs.declared.rules.Mistake.TheVariants as mistakes
use Rattle.pf_lists.specs.Product.{Word, spelled}

-- ICMP goes not with inet6, and ICMPv6 not with inet.
abbrev pub icmp_fault : Option ℕ → Option Family → Option Mistake
icmp_fault None family = None
icmp_fault (Some n) None = None
icmp_fault (Some n) (Some V6) = if n == 1 then Some mistakes.IcmpOfV6 else None
icmp_fault (Some n) (Some V4) = if n == 58 then Some mistakes.Icmp6OfV4 else None

abbrev pub unless_fault : PlainRule → Option Mistake → Result (Option PlainRule) Mistake
unless_fault r None = Ok (Some r)
unless_fault r (Some m) = Err m

-- what is read of the words of a way: a rule, or none if families differ in it
abbrev pub rule_read : Read (Result PlainRule RuleMistake) → Result (Option PlainRule) Mistake
rule_read (Ok (Ok r, [])) = unless_fault r (icmp_fault r.protocol r.family)
rule_read (Ok (Ok r, w ∷ ws)) = Err mistakes.NoRule
rule_read (Ok (Err MixedFamily, ws)) = Ok None
rule_read (Ok (Err PortNeedsProto, ws)) = Err mistakes.PortsWithoutProtocol
rule_read (Err e) = Err mistakes.NoRule

unfoldable pub rule_of : List Word → Result (Option PlainRule) Mistake
rule_of ws = rule_read (reads rule ws)

-- whether a way is left out
abbrev pub leaves_out : Result (Option PlainRule) Mistake → Bool
leaves_out (Ok None) = true
leaves_out (Ok (Some r)) = false
leaves_out (Err m) = false

abbrev pub is_left_out : List Word → Bool
is_left_out ws = leaves_out (rule_of ws)

-- the rules of these ways, in order
unfoldable pub rules_of : List (List Word) → Result (List PlainRule) Mistake
rules_of [] = Ok []
rules_of (ws ∷ wss) = rule_of ws >>= λ r. rules_of wss >>= λ rs. Ok (option_to_list r ++ rs)

abbrev pub at_least_one : List PlainRule → Result (List PlainRule) Mistake
at_least_one [] = Err mistakes.NoCombination
at_least_one (r ∷ rs) = Ok (r ∷ rs)

-- What lists stand for.
abbrev pub multiplied : List (List (List Word)) → Result (List PlainRule) Mistake
multiplied lists =
    if nat_le (length (spelled lists)) COMBINATION_LIMIT then (rules_of (spelled lists) >>= at_least_one)
    else Err mistakes.ManyCombinations

-- A function gives what is wanted, unless memory runs out.
abbrev pub Gives : {A : Type 0} → Result A ListStop → Result A Mistake → Type 0
Gives (Ok x) wanted = wanted ≡ Ok x
Gives (Err (Faulty m)) wanted = wanted ≡ Err m
Gives (Err Memory) wanted = Unit {0}

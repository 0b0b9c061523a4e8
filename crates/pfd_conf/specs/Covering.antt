-- Rules that decide no case, and how a user is told of rules.
use Rattle.std.specs.Prelude.{◌≡◌, ℕ, ◌+◌, ◌-◌, ◌<◌, ◌==◌, ◌&&◌, not, Bool, true, false, List, [], ◌∷◌, ◌++◌, length, sum_by, count_by, codes, decimal, Option, Some, None, unwrap_or, if◌then◌else◌}
use Rattle.std.specs.List.{slice_get, list_any, flat_map}
use Rattle.pf_rule.specs.{Rules.PlainRule, RuleText.rule_text}
use Rattle.pf_rule.specs.declared.rule.Effect.{Effect, TheVariants.{Decide, Evaluate}}
use Rattle.pf_tokens.specs.declared.{place.Place.Place, files.File.File}
use Rattle.pf_parse.specs.declared.fault.At.{At}
use Rattle.pf_conf.specs.declared.found.Ruleset.{Ruleset}
use Rattle.pf_conf.specs.Shown.{newline}
use Rattle.pfd_conf.specs.declared.{firewall.Decided.Decided, outcomes.Outcome.Outcome, outcomes.Tried.Tried}
use Rattle.pfd_conf.specs.{Firewalls.{Origins, rule_at, is_in, place_text}, Reports.sayable}

-- it decides if it matches; an anchor rule doesn't
abbrev pub decides_by : Effect → Bool
decides_by (Decide action) = true
decides_by (Evaluate reference) = false

abbrev pub is_deciding : PlainRule → Bool
is_deciding r = decides_by r.effect

-- ---- rules that decide no case

abbrev pub is_of : ℕ → ℕ → Option Decided → Bool
is_of within number None = false
is_of within number (Some d) = (d.within == within) && (d.number == number)

-- some outcome is decided by the rule of this number in the ruleset of this number
abbrev pub decides_any : ℕ → ℕ → List Outcome → Bool
decides_any within number os = list_any (λ (o : Outcome). is_of within number o.decided) os

abbrev pub decides_some : ℕ → ℕ → List Tried → Bool
decides_some within number ts = list_any (λ (t : Tried). decides_any within number t.outcomes) ts

-- Each mark is what is said of its number.
pub record AreMarks (says : ℕ → Bool) (count : ℕ) (marks : List Bool) : Type 0 where
  pub all : length marks ≡ count
  pub each : (k : ℕ) → k < count → slice_get marks k ≡ Some (says k)

-- a rule that could decide, unless it is marked
abbrev pub unless_marked : ℕ → ℕ → Bool → PlainRule → List Decided
unless_marked within number mark r = if is_deciding r && not mark then record { within = within; number = number } ∷ [] else []

-- the rules of a ruleset from this one on, whose number is this, by the marks of all
abbrev pub unmarked_from : ℕ → ℕ → List Bool → List (At PlainRule) → List Decided
unmarked_from within number marks [] = []
unmarked_from within number marks (r ∷ rs) =
    unless_marked within number (unwrap_or (slice_get marks number) false) r.is ++ unmarked_from within (number + 1) marks rs

-- the same by the cases
abbrev pub uncovered_in : List Tried → ℕ → ℕ → List (At PlainRule) → List Decided
uncovered_in ts within number [] = []
uncovered_in ts within number (r ∷ rs) =
    unless_marked within number (decides_some within number ts) r.is ++ uncovered_in ts within (number + 1) rs

abbrev pub uncovered_from : List Tried → ℕ → List Ruleset → List Decided
uncovered_from ts within [] = []
uncovered_from ts within (r ∷ rs) = uncovered_in ts within 0 r.rules ++ uncovered_from ts (within + 1) rs

-- the rules of the file that could decide, and decide none of the cases
abbrev pub uncovered_of : List Tried → List Ruleset → List Decided
uncovered_of ts rs = uncovered_from ts 0 rs

-- how many rules could decide
abbrev pub deciding_count : List Ruleset → ℕ
deciding_count rs = sayable (sum_by (λ (r : Ruleset). count_by (λ (x : At PlainRule). is_deciding x.is) r.rules) rs)

-- ---- how a user is told of rules

abbrev pub sign_text : List ℕ → List ℕ
sign_text path = if length path == 0 then codes "@" else codes " @"

-- FILE:LINE:COLUMN: , or nothing of a rule that is in no file
abbrev pub place_front : List File → Place → List ℕ
place_front files p = if is_in files p then place_text files p ++ codes ":" ++ decimal p.column ++ codes ": " else []

-- FILE:LINE:COLUMN: PATH @N RULE, or without the path if it is main's
abbrev pub rule_line : List File → List ℕ → ℕ → At PlainRule → List ℕ
rule_line files path n r =
    place_front files r.place ++ path ++ sign_text path ++ decimal n ++ codes " "
    ++ rule_text r.is
    ++ newline

abbrev pub line_by : List File → ℕ → Option Ruleset → Option (At PlainRule) → List ℕ
line_by files n (Some r) (Some x) = rule_line files r.path n x
line_by files n (Some r) None = []
line_by files n None x = []

abbrev pub line_of_rule : List File → List Ruleset → Decided → List ℕ
line_of_rule files rs d = line_by files d.number (slice_get rs d.within) (rule_at rs d)

abbrev pub lines_of_rules : List File → List Ruleset → List Decided → List ℕ
lines_of_rules files rs ds = flat_map (line_of_rule files rs) ds

abbrev pub count_text : ℕ → ℕ → List ℕ
count_text uncovered deciding = decimal (deciding - uncovered) ++ codes " of " ++ decimal deciding ++ codes " rules decide a case\n"

-- those that decide none, and how many decide one
abbrev pub cover_text : Origins → List Tried → List ℕ
cover_text f ts = let rs = f.rulesets in
    lines_of_rules f.files rs (uncovered_of ts rs) ++ count_text (length (uncovered_of ts rs)) (deciding_count rs)

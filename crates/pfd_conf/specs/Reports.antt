-- How a user is told of cases: those that don't hold, with what they came to and where the rule is written that decides; and how many hold.
use Rattle.std.specs.Prelude.{ℕ, ◌+◌, ◌-◌, ◌^◌, min, Bool, true, false, List, [], ◌∷◌, ◌++◌, take, drop, length, sum_by, count_by, codes, decimal, Option, Some, None, if◌then◌else◌}
use Rattle.std.specs.{List.{slice_get, flat_map}, Option.option_map_or}
use Rattle.pf_form.specs.Form.Words.{Word, words_of, texts}
use Rattle.pf_conf.specs.declared.found.Ruleset.{Ruleset}
use Rattle.pf_conf.specs.Shown.{newline}
use Rattle.pfd_conf.specs.Case.Cases.{word_of, decided_text, same}
use Rattle.pfd_conf.specs.declared.{firewall.Decided.Decided, outcomes.Outcome.Outcome, outcomes.Tried.Tried, report.Tally.Tally, report.TheConstants.PACKET_WORDS}
use Rattle.pfd_conf.specs.{Firewalls.{Origins, origin_text}, Outcomes.line_of}

-- ---- words

-- each behind a space
abbrev pub spaced : List Word → List ℕ
spaced ws = flat_map (λ (w : Word). codes " " ++ w) ws

-- the words of a case's packet
abbrev pub packet_of : List Word → List Word
packet_of ws = take PACKET_WORDS ws

-- the words of what it wants, behind its arrow
abbrev pub wanted_of : List Word → List Word
wanted_of ws = drop (PACKET_WORDS + 1) ws

-- ---- verdicts, as `judge` is answered

-- the path of the ruleset of the rule that decides
abbrev pub path_of : List Ruleset → Decided → List ℕ
path_of rs d = option_map_or (λ (r : Ruleset). r.path) (slice_get rs d.within) []

-- which rule decides: its number, and its ruleset's path unless that is main's
abbrev pub rule_text_of : List Ruleset → Decided → List ℕ
rule_text_of rs d = decided_text d.number (path_of rs d)

abbrev pub decider_text : List Ruleset → Option Decided → List ℕ
decider_text rs None = codes " default"
decider_text rs (Some d) = rule_text_of rs d

-- and where the rule is written
abbrev pub got_text : Origins → Bool → Option Decided → List ℕ
got_text f passes d = word_of passes ++ decider_text f.rulesets d ++ origin_text f.files f.rulesets d

-- ---- cases that don't hold

-- what a case with these words came to, and what was wanted
abbrev pub difference_text : Origins → List Word → Outcome → List ℕ
difference_text f ws o = got_text f o.passes o.decided ++ codes ", not" ++ spaced (wanted_of ws)

-- FILE:LINE: PACKET -> VERDICT (FILE:LINE), not WANTED
abbrev pub failure_text : Origins → List ℕ → List Word → Outcome → List ℕ
failure_text f file ws o =
    file ++ codes ":" ++ decimal o.line ++ codes ":" ++ spaced (packet_of ws) ++ codes " -> " ++ difference_text f ws o ++ newline

-- the words of an outcome's line
abbrev pub words_at : Tried → Outcome → List Word
words_at t o = words_of (line_of (texts t.lines) o)

abbrev pub failure_line : Origins → Tried → Outcome → List ℕ
failure_line f t o = if o.holds then [] else failure_text f t.name.now (words_at t o) o

abbrev pub failures_text : Origins → Tried → List ℕ
failures_text f t = flat_map (failure_line f t) t.outcomes

abbrev pub all_failures : Origins → List Tried → List ℕ
all_failures f ts = flat_map (failures_text f) ts

-- ---- how many hold

abbrev pub has : Bool → Outcome → Bool
has holds o = same holds o.holds

-- the greatest number that the program can say stands for all that are greater
abbrev pub sayable : ℕ → ℕ
sayable n = min n (2 ^ 64 - 1)

abbrev pub counted : Bool → List Tried → ℕ
counted holds ts = sayable (sum_by (λ (t : Tried). count_by (has holds) t.outcomes) ts)

abbrev pub tally : List Tried → Tally
tally ts = record { passed = counted true ts; failed = counted false ts }

-- P passed, F failed
abbrev pub tally_text : Tally → List ℕ
tally_text t = decimal t.passed ++ codes " passed, " ++ decimal t.failed ++ codes " failed" ++ newline

abbrev pub report_text : Origins → List Tried → List ℕ
report_text f ts = all_failures f ts ++ tally_text (tally ts)

-- ---- in TAP, the Test Anything Protocol: a line for each case, at last how many there are

abbrev pub result_word : Bool → List ℕ
result_word true = codes "ok "
result_word false = codes "not ok "

-- why a case doesn't hold
abbrev pub reason_text : Origins → List Word → Outcome → List ℕ
reason_text f ws o = if o.holds then [] else (codes "# " ++ difference_text f ws o ++ newline)

abbrev pub point_text : Origins → ℕ → List Word → Outcome → List ℕ
point_text f n ws o =
    result_word o.holds ++ decimal n ++ codes " - line " ++ decimal o.line ++ codes ":" ++ spaced ws ++ newline ++ reason_text f ws o

-- the cases of a file from this one on, before which so many came in all files
abbrev pub points_text : Origins → Tried → ℕ → List Outcome → List ℕ
points_text f t before [] = []
points_text f t before (o ∷ os) = point_text f (sayable (before + 1)) (words_at t o) o ++ points_text f t (before + 1) os

abbrev pub file_points : Origins → ℕ → Tried → List ℕ
file_points f before t = codes "# " ++ t.name.now ++ newline ++ points_text f t before t.outcomes

abbrev pub files_points : Origins → ℕ → List Tried → List ℕ
files_points f before [] = []
files_points f before (t ∷ ts) = file_points f before t ++ files_points f (before + length t.outcomes) ts

abbrev pub case_count : List Tried → ℕ
case_count ts = sum_by (λ (t : Tried). length t.outcomes) ts

-- how many cases there are, and how many hold and don't
abbrev pub plan_text : ℕ → Tally → List ℕ
plan_text n t = codes "1.." ++ decimal n ++ codes "\n# " ++ tally_text t

abbrev pub tap_text : Origins → List Tried → List ℕ
tap_text f ts = codes "TAP version 13\n" ++ files_points f 0 ts ++ plan_text (sayable (case_count ts)) (tally ts)

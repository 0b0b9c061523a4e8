-- The outcomes of cases in JUnit's XML (XML 1.0, sections 2.4 and 3.3.3, on attributes).
use Rattle.std.specs.Prelude.{ℕ, ◌+◌, ◌==◌, nat_lt, Bool, true, false, List, [], ◌∷◌, ◌++◌, count_by, codes, decimal, if◌then◌else◌}
use Rattle.std.specs.List.{flat_map}
use Rattle.pf_form.specs.Form.Words.{Word}
use Rattle.pfd_conf.specs.declared.{outcomes.Outcome.Outcome, outcomes.Tried.Tried, report.Tally.Tally}
use Rattle.pfd_conf.specs.Firewalls.{Origins}
use Rattle.pfd_conf.specs.Reports.{spaced, words_at, difference_text, has, tally, sayable}

-- a byte as an attribute has it; one that XML can't have is a question mark
abbrev pub escaped : ℕ → List ℕ
escaped b =
    if b == 38 then codes "&amp;"
    else if b == 60 then codes "&lt;"
    else if b == 62 then codes "&gt;"
    else if b == 34 then codes "&quot;"
    else if b == 9 then codes "&#9;"
    else if b == 10 then codes "&#10;"
    else if b == 13 then codes "&#13;"
    else if nat_lt b 32 then codes "?"
    else b ∷ []

abbrev pub escaped_text : List ℕ → List ℕ
escaped_text text = flat_map escaped text

abbrev pub counts_text : Tally → List ℕ
counts_text t = codes " tests=\"" ++ decimal (sayable (t.passed + t.failed)) ++ codes "\" failures=\"" ++ decimal t.failed ++ codes "\""

abbrev pub name_text : ℕ → List Word → List ℕ
name_text line ws = codes "line " ++ decimal line ++ codes ":" ++ spaced ws

-- why a case doesn't hold
abbrev pub message_text : Origins → List Word → Outcome → List ℕ
message_text f ws o = if o.holds then [] else difference_text f ws o

abbrev pub end_text : Bool → List ℕ → List ℕ
end_text true message = codes "\"/>\n"
end_text false message = codes "\"><failure message=\"" ++ escaped_text message ++ codes "\"/></testcase>\n"

abbrev pub element_text : List ℕ → List ℕ → Bool → List ℕ → List ℕ
element_text file name holds message =
    codes "    <testcase classname=\"" ++ escaped_text file ++ codes "\" name=\"" ++ escaped_text name ++ end_text holds message

abbrev pub testcase_text : Origins → Tried → Outcome → List ℕ
testcase_text f t o = element_text t.name.now (name_text o.line (words_at t o)) o.holds (message_text f (words_at t o) o)

abbrev pub testcases_text : Origins → Tried → List ℕ
testcases_text f t = flat_map (testcase_text f t) t.outcomes

abbrev pub tally_in : Tried → Tally
tally_in t = record { passed = count_by (has true) t.outcomes; failed = count_by (has false) t.outcomes }

abbrev pub suite_head : List ℕ → Tally → List ℕ
suite_head file t = codes "  <testsuite name=\"" ++ escaped_text file ++ codes "\"" ++ counts_text t ++ codes ">\n"

abbrev pub suite_text : Origins → Tried → List ℕ
suite_text f t = suite_head t.name.now (tally_in t) ++ testcases_text f t ++ codes "  </testsuite>\n"

abbrev pub suites_text : Origins → List Tried → List ℕ
suites_text f ts = flat_map (suite_text f) ts

abbrev pub head_text : Tally → List ℕ
head_text t = codes "<?xml version=\"1.0\" encoding=\"UTF-8\"?>\n<testsuites" ++ counts_text t ++ codes ">\n"

abbrev pub junit_text : Origins → List Tried → List ℕ
junit_text f ts = head_text (tally ts) ++ suites_text f ts ++ codes "</testsuites>\n"

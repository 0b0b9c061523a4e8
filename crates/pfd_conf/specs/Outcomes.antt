-- What cases come to: each line of a file of cases is a case, or is left out.
use Rattle.std.specs.Prelude.{◌≡◌, ℕ, ◌+◌, ◌-◌, ◌≤◌, ◌==◌, Bool, true, false, List, [], ◌∷◌, ◌++◌, length, Option, Some, None, unwrap_or, Result, Ok, Err}
use Rattle.std.specs.{List.{slice_get, slice_split}, Option.option_to_list}
use Rattle.pf_form.specs.Form.{Words.{Word, words_of, texts}, Forms.{◌>>=◌}}
use Rattle.pf_form.specs.declared.form.fault.Kind.{Kind}
use Rattle.pf_form.specs.declared.form.fault.Kind.TheVariants as kinds
use Rattle.pf_rule.specs.declared.fault.TextFault.{TextFault, TheVariants.{BadWord, NameTooLong, BadProto, MixedFamily, PortNeedsProto, Memory}}
use Rattle.pf_rule.specs.Refusals.{reading}
use Rattle.pf_anchor.specs.{Evaluation.judged}
use Rattle.pf_anchor.specs.declared.verdict.RuleVerdict.{RuleVerdict}
use Rattle.pfd_conf.specs.declared.case.{case.Case.Case, wanted.Wanted.Wanted}
use Rattle.pfd_conf.specs.Case.Cases.{case, passes, wants}
use Rattle.pfd_conf.specs.declared.{fault.CaseMistake.CaseMistake, fault.Fault.Fault, firewall.Firewall.Firewall, outcomes.Outcome.Outcome, outcomes.Cases.Cases, outcomes.Tried.Tried, outcomes.TheConstants.CASES_LIMIT}
use Rattle.pfd_conf.specs.declared.fault.CaseMistake.TheVariants.{Misplaced, LineEnds, Long, Protocol, Families}
use Rattle.pfd_conf.specs.declared.fault.Fault.TheVariants as faults
use Rattle.pfd_conf.specs.Firewalls.{decided_in}

-- What a function gives is what is wanted, unless memory runs out.
abbrev pub Gives : {A : Type 0} → Result A Fault → Result A Fault → Type 0
Gives (Ok x) wanted = wanted ≡ Ok x
Gives (Err faults.Memory) wanted = Unit {0}
Gives (Err f) wanted = wanted ≡ Err f

abbrev pub IsShort : Cases → Type 0
IsShort cases = length cases.text ≤ CASES_LIMIT

abbrev pub lines_of : List ℕ → List (List ℕ)
lines_of text = slice_split (λ b. b == 10) text

-- ---- a line

-- a word, unless it is empty
abbrev pub if_some : Word → List Word
if_some [] = []
if_some (b ∷ bs) = (b ∷ bs) ∷ []

abbrev pub is_comment : Word → Bool
is_comment [] = false
is_comment (b ∷ bs) = b == 35

-- it is blank, or its first word begins with '#'
abbrev pub is_left_out : List Word → Bool
is_left_out [] = true
is_left_out (w ∷ ws) = is_comment w

abbrev pub word_mistake : Kind → Word → CaseMistake
word_mistake kinds.BadWord w = Misplaced w
word_mistake kinds.NameTooLong w = Long w
word_mistake kinds.BadProto w = Protocol w

-- the word at fault, or that it is missing
abbrev pub mistake_at : Kind → Option Word → CaseMistake
mistake_at kind (Some w) = word_mistake kind w
mistake_at kind None = LineEnds

abbrev pub mistake_of : List Word → TextFault → CaseMistake
mistake_of ws (BadWord at) = mistake_at kinds.BadWord (slice_get ws at)
mistake_of ws (NameTooLong at) = mistake_at kinds.NameTooLong (slice_get ws at)
mistake_of ws (BadProto at) = mistake_at kinds.BadProto (slice_get ws at)
mistake_of ws MixedFamily = Families
mistake_of ws PortNeedsProto = Families
mistake_of ws Memory = LineEnds

-- a case that is written on this line, by the verdict on its packet
abbrev pub outcome_by : Firewall → ℕ → Wanted → RuleVerdict → Outcome
outcome_by f line w v = record { line = line; passes = passes v; decided = decided_in f.taken.conf.rulesets v; holds = wants w v }

abbrev pub outcome_of : Firewall → ℕ → Case → Outcome
outcome_of f line c = outcome_by f line c.wanted (judged f.config c.packet)

abbrev pub outcome_or : Firewall → List ℕ → ℕ → List Word → Result Case TextFault → Result (Option Outcome) Fault
outcome_or f file line ws (Ok c) = Ok (Some (outcome_of f line c))
outcome_or f file line ws (Err e) = Err (faults.Case file line (mistake_of ws e))

abbrev pub unless_left_out : Bool → Result (Option Outcome) Fault → Result (Option Outcome) Fault
unless_left_out true other = Ok None
unless_left_out false other = other

-- what the case on a line of this number comes to, if it has one
unfoldable pub outcome_at : Firewall → List ℕ → ℕ → List ℕ → Result (Option Outcome) Fault
outcome_at f file line text =
    unless_left_out (is_left_out (words_of text)) (outcome_or f file line (words_of text) (reading case (words_of text)))

-- ---- a file

-- the outcomes of lines from this number on, behind those that are known
unfoldable pub outcomes_from : Firewall → List ℕ → List Outcome → ℕ → List (List ℕ) → Result (List Outcome) Fault
outcomes_from f file known line [] = Ok known
outcomes_from f file known line (text ∷ texts) =
    outcome_at f file line text >>= λ o. outcomes_from f file (known ++ option_to_list o) (line + 1) texts

abbrev pub outcomes_of : Firewall → List ℕ → List ℕ → Result (List Outcome) Fault
outcomes_of f file text = outcomes_from f file [] 1 (lines_of text)

-- why the cases of a file have no outcomes
abbrev pub RefusesCases : Result (List Outcome) Fault → Fault → Type 0
RefusesCases wanted faults.Memory = Unit {0}
RefusesCases wanted f = wanted ≡ Err f

-- the line of an outcome
abbrev pub line_of : List (List ℕ) → Outcome → List ℕ
line_of lines o = unwrap_or (slice_get lines (o.line - 1)) []

-- These are the outcomes of a file.
pub record IsTried (f : Firewall) (cases : Cases) (t : Tried) : Type 0 where
  pub name : t.name.now ≡ cases.name
  pub lines : texts t.lines ≡ lines_of cases.text
  pub outcomes : outcomes_of f cases.name cases.text ≡ Ok t.outcomes

-- These are the outcomes of files, one after another.
abbrev pub AreTried : Firewall → List Cases → List Tried → Type 0
AreTried f [] [] = Unit {0}
AreTried f (c ∷ cs) (t ∷ ts) = IsTried f c t × AreTried f cs ts
AreTried f [] (t ∷ ts) = ⊥
AreTried f (c ∷ cs) [] = ⊥

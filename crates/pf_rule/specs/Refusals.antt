-- What reading a text returns: a value, or the one refusal.
use Rattle.std.specs.Prelude.{◌≡◌, ℕ, ◌-◌, List, length, Result, Ok, Err, IfOk, IfErr}
use Rattle.pf_form.specs.declared.form.fault.Kind.{Kind}
use Rattle.pf_form.specs.declared.form.fault.Kind.TheVariants as kinds
use Rattle.pf_form.specs.{Form.Words.Word, Form.Forms.{Form, Spells, RefusedAt, Reader, reads, ended, ◌>>=◌}}
use Rattle.pf_rule.specs.declared.{fault.Mistake.Mistake, fault.TextFault.TextFault, fault.TextFault.TheVariants.{BadWord, NameTooLong, BadProto, MixedFamily, PortNeedsProto, Memory}}
use Rattle.pf_rule.specs.declared.fault.Mistake.TheVariants as mistakes

abbrev pub fault_at : Kind → ℕ → TextFault
fault_at kinds.BadWord at = BadWord at
fault_at kinds.NameTooLong at = NameTooLong at
fault_at kinds.BadProto at = BadProto at

abbrev pub fault_for : Mistake → TextFault
fault_for mistakes.MixedFamily = MixedFamily
fault_for mistakes.PortNeedsProto = PortNeedsProto

-- the result of reading `count` words, which may all be good and still make a mistake
abbrev pub text_result : {A : Type 0} → ℕ → Result (Result A Mistake) (Kind × List Word) → Result A TextFault
text_result count (Ok (Ok x)) = Ok x
text_result count (Ok (Err mistake)) = Err (fault_for mistake)
text_result count (Err e) = Err (fault_at e.0 (count - length e.1))

-- the result of a reader after which no word may be left
abbrev pub text_result_by : {A : Type 0} → ℕ → Reader (Result A Mistake) → List Word → Result A TextFault
text_result_by count read ws = text_result count (read ws >>= ended)

-- the result for the words of a text
unfoldable pub reading : {A : Type 0} → Form (Result A Mistake) → List Word → Result A TextFault
reading text ws = text_result_by (length ws) (reads text) ws

-- The result is the expected one, unless it ran out of memory.
abbrev pub Answers : {A : Type 0} → Result A TextFault → Result A TextFault → Type 0
Answers (Ok x) expected = expected ≡ Ok x
Answers (Err Memory) expected = Unit {0}
Answers (Err e) expected = expected ≡ Err e

-- A refusal of these words. The grammar alone decides its place and its kind.
abbrev pub Refused : {A : Type 0} → Form (Result A Mistake) → List Word → TextFault → Type 0
Refused {A = A} text ws (BadWord at) = RefusedAt (Result A Mistake) text ws at kinds.BadWord
Refused {A = A} text ws (NameTooLong at) = RefusedAt (Result A Mistake) text ws at kinds.NameTooLong
Refused {A = A} text ws (BadProto at) = RefusedAt (Result A Mistake) text ws at kinds.BadProto
Refused text ws MixedFamily = Spells text (Err mistakes.MixedFamily) ws
Refused text ws PortNeedsProto = Spells text (Err mistakes.PortNeedsProto) ws
Refused text ws Memory = Unit {0}

-- What reading the words returns, by the grammar alone, and by the grammar's reader.
pub record IsAnswer (A : Type 0) (text : Form (Result A Mistake)) (ws : List Word) (result : Result A TextFault) : Type 0 where
  pub found : IfOk result (λ x. Spells text (Ok x) ws)
  pub only : (x : A) → Spells text (Ok x) ws → Answers result (Ok x)
  pub refused : IfErr result (λ e. Refused text ws e)
  pub exact : Answers result (reading text ws)

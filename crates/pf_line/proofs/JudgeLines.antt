-- What the words of a judge say.
use Rattle.std.proofs.Common.{◌≡◌, ◌≤◌, ℕ, Bool, true, false, List, [], ◌∷◌, length, Option, Some, None, Result, Ok, Err, refl, sym, ap, ◌∙◌}
use Rattle.std.specs.{Prelude.{codes, if◌then◌else◌, IfErr, IfSome}, Str.bytes_eq, List.list_all}
use denote.Ref.{Bor}
use Rattle.pf_form.specs.{Form.Words.{Word, words_of, texts}, Form.Forms.{making, reads, read_all}, Form.Readers.if_there, Laws.Form.Decided.word_is}
use Rattle.pf_core.specs.declared.reply.Refusal.{Refusal}
use Rattle.pf_rule.specs.Packets.{PlainPacket}
use Rattle.pf_line.specs.Grammar as grammar
use Rattle.pf_line.specs.{Grammar.Says, Lines.{is_line_byte, no_command, line_at, asked, said, Parses, Answers, Refused}}
use Rattle.pf_line.proofs.{Choices.{as_read, flag_of, rest_of, never}, Lines.{is_exact, is_refused, said_cut}}

-- the word that was taken was at the front
pub taken : (k : Word) (ws rest : List Word) (t : Bool) → reads (if_there k) ws ≡ Ok (t, rest) → t ≡ true → ws ≡ k ∷ rest
taken k [] rest t e is = absurd (never t (sym (ap flag_of e)) is)
taken k (w ∷ ws) rest t e is = by (bytes_eq w k) refl e where
  by : (b : Bool) → bytes_eq w k ≡ b → (if b then as_read true ws else as_read false (w ∷ ws)) ≡ as_read t rest → w ∷ ws ≡ k ∷ rest
  by true same e = cc (word_is w k same, ap rest_of e)
  by false same e = absurd (never t (sym (ap flag_of e)) is)

-- after its word a judge says what its packet says
pub judge_said : (ws rest : List Word) → ws ≡ codes "judge" ∷ rest → read_all grammar.line ws ≡ read_all (making Says grammar.judged) rest
unfolding grammar.question grammar.history_or_question grammar.state_or_question grammar.edit_or_question grammar.command
judge_said ws rest is = rw is refl

pub judge_speaks : (ws rest : List Word) → ws ≡ codes "judge" ∷ rest → no_command ws ≡ false
judge_speaks ws rest is = rw is refl

-- a line that was cut into these words
pub judge_answered : (line : List ℕ) (items : List (Bor Word)) (n : ℕ) (r : Option (Result PlainPacket Refusal)) → length line ≤ 4096 → list_all is_line_byte line ≡ true → texts items ≡ words_of line → n ≡ length items →
    IfSome r (λ x. no_command (texts items) ≡ false) → IfSome r (λ x. Parses (asked x) (said n (read_all grammar.line (texts items)))) → IfSome r (λ x. Answers line (asked x))
judge_answered line items n None short bytes words count loud h = tt
judge_answered line items n (Some x) short bytes words count loud h =
    said_cut line items items n (asked x) (ap no_command (sym words) ∙ loud) short words bytes refl count h

abbrev Reported : List ℕ → Option (Result PlainPacket Refusal) → Type 0
Reported line r = IfSome r (λ x. Answers line (asked x))

pub judge_exact : (line : List ℕ) (r : Option (Result PlainPacket Refusal)) → Reported line r → IfSome r (λ x. Parses (asked x) (line_at line))
judge_exact line None h = tt
judge_exact line (Some x) h = is_exact line (asked x) h

pub judge_refused : (line : List ℕ) (r : Option (Result PlainPacket Refusal)) → Reported line r → IfSome r (λ x. IfErr x (λ e. Refused line e))
judge_refused line None h = tt
judge_refused line (Some (Ok p)) h = tt
judge_refused line (Some (Err e)) h = is_refused line (Err e) h

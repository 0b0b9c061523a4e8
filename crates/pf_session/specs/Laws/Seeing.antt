-- What is looked at of a line.
use Rattle.std.proofs.{Common.{◌≡◌, ℕ, List, length, Option, Result, inl, inr, sym, ap, ◌∙◌, subst, arith}, lemmas.List.{length-take, take_all}, lemmas.Bool.cases_lt}
use Rattle.pf_core.specs.declared.reply.Refusal.{Refusal}
use Rattle.pf_line.specs.declared.request.Request.{Request}
use Rattle.pf_line.specs.{Grammar.Spoken, Lines.{line_at, long_line, Means, Speaks, speaks}}
use Rattle.pf_session.specs.{LineEngine.Lines.seen, Telling.IsReplyTo}

-- of a line that is too long as much is looked at as shows that
pub seen-says : (line : List ℕ) → line_at (seen line) ≡ line_at line
seen-says line = elim (cases_lt 4097 (length line)) [
  | inl h ↦ long_line (seen line) (omega (arith, length-take 4097 line)) ∙ sym (long_line line (omega arith))
  | inr h ↦ ap line_at (take_all 4097 line h)
]

seen-speaks : (line : List ℕ) → Speaks (seen line) → Speaks line
seen-speaks line is = elim (cases_lt 4097 (length line)) [
  | inl h ↦ absurd ((speaks (seen line) is).1 (long_line (seen line) (omega (arith, length-take 4097 line))))
  | inr h ↦ subst Speaks (take_all 4097 line h) is
]

pub seen-replied : {S : Type 0} (Runs : Request → S → S → List ℕ → Type 0) (old new : S) (line text : List ℕ) → IsReplyTo Runs (seen line) old new text → IsReplyTo Runs line old new text
seen-replied Runs old new line text (inl (meant, means, says)) = inl (meant, subst (λ (said : Result (Option Spoken) Refusal). Means said meant) (seen-says line) means, says)
seen-replied Runs old new line text (inr none) = inr (record { speaks = seen-speaks line none.speaks; same = none.same; reported = none.reported })

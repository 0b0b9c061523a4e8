-- The reply to a line, whoever does what it asks: `Runs q old new text` says that this request took the old state to the new one, and that
-- its reply is this text.
use Rattle.std.specs.Prelude.{◌≡◌, ℕ, List, [], Option, Some, None, Result, Ok, Err, ◌⊎◌}
use Rattle.pf_core.specs.declared.{reply.Refusal.Refusal, reply.Refusal.TheVariants.Memory, reply.Reply.TheVariants.Refused}
use Rattle.pf_line.specs.declared.request.Request.{Request}
use Rattle.pf_line.specs.{Lines.{line_at, Means, Speaks}, Reply.Replies.reply_text}

-- What a line means, and what is written for it: nothing for a silent line, the refusal of a line that is refused, the reply to a request.
-- Where nothing is asked, the state stays.
abbrev pub Says : {S : Type 0} → (Request → S → S → List ℕ → Type 0) → Result (Option Request) Refusal → S → S → List ℕ → Type 0
Says Runs (Ok None) old new text = (new ≡ old) × (text ≡ [])
Says Runs (Ok (Some q)) old new text = Runs q old new text
Says Runs (Err e) old new text = (new ≡ old) × (text ≡ reply_text (Refused e))

-- there was no memory to read what the line means, and nothing was run
pub record HasNoMemory {S : Type 0} (line : List ℕ) (old new : S) (text : List ℕ) : Type 0 where
  pub speaks : Speaks line
  pub same : new ≡ old
  pub reported : text ≡ reply_text (Refused Memory)

-- A line gets the reply to what it means; one that is neither bad nor silent may be told that there was no memory.
abbrev pub IsReplyTo : {S : Type 0} → (Request → S → S → List ℕ → Type 0) → List ℕ → S → S → List ℕ → Type 0
IsReplyTo Runs line old new text =
    ((meant : Result (Option Request) Refusal) × Means (line_at line) meant × Says Runs meant old new text) ⊎ HasNoMemory line old new text

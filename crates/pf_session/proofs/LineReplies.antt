-- The reply to a line, by what was read of it.
use Rattle.std.proofs.Common.{◌≡◌, ℕ, List, [], Option, Some, None, Result, Ok, Err, inl, inr, refl}
use Rattle.pf_core.specs.declared.{reply.Refusal.Refusal, reply.Refusal.TheVariants.Memory, reply.Reply.TheVariants.Refused}
use Rattle.pf_line.specs.declared.request.Request.{Request}
use Rattle.pf_line.specs.{Lines.{Parses, line_at, Refused as IsRefusal}, Reply.Replies.reply_text}
use Rattle.pf_session.specs.Telling.{IsReplyTo, Says}

module _ {S : Type 0} (Runs : Request → S → S → List ℕ → Type 0) where
  pub silence-replied : (line : List ℕ) (state : S) → Parses (Ok None) (line_at line) → IsReplyTo Runs line state state []
  silence-replied line state (inl means) = inl (Ok None, means, (refl, refl))
  silence-replied line state (inr m) = absurd (cc (m))

  pub request-replied : (line : List ℕ) (q : Request) (old new : S) (text : List ℕ) → Runs q old new text → Parses (Ok (Some q)) (line_at line) → IsReplyTo Runs line old new text
  request-replied line q old new text runs (inl means) = inl (Ok (Some q), means, runs)
  request-replied line q old new text runs (inr m) = absurd (cc (m))

  -- a refusal has its own reply; in place of it there may have been no memory
  pub refusal-replied : (line : List ℕ) (e : Refusal) (state : S) → Parses (Err e) (line_at line) → IsRefusal line e → IsReplyTo Runs line state state (reply_text (Refused e))
  refusal-replied line e state (inl means) refused = inl (Err e, means, (refl, refl))
  refusal-replied line Memory state (inr m) speaks = inr (record { speaks = speaks; same = refl; reported = refl })
  refusal-replied line e state (inr m) refused = absurd (cc (m))

  -- what holds where nothing is run and where a request is done holds whatever the line is
  module _ (Moves : S → S → Type 0) (still : (a b : S) → b ≡ a → Moves a b) (runs : (q : Request) (a b : S) (text : List ℕ) → Runs q a b text → Moves a b) where
    says-moves : (meant : Result (Option Request) Refusal) (a b : S) (text : List ℕ) → Says Runs meant a b text → Moves a b
    says-moves (Ok None) a b text says = still a b says.0
    says-moves (Ok (Some q)) a b text says = runs q a b text says
    says-moves (Err e) a b text says = still a b says.0

    pub reply-moves : (line : List ℕ) (a b : S) (text : List ℕ) → IsReplyTo Runs line a b text → Moves a b
    reply-moves line a b text (inl (meant, means, says)) = says-moves meant a b text says
    reply-moves line a b text (inr none) = still a b none.same

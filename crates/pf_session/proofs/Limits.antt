-- A session keeps within what its opening was given.
use Rattle.std.proofs.Common.{◌≡◌, ℕ, List, Option, Result, Ok, Err, inl, inr, ap, ◌∙◌}
use Rattle.pf_book.specs.Books.{PlainBook, world_book}
use Rattle.pf_line.specs.declared.{request.Request.Request, request.Request.TheVariants.{Run, ShowStatus, ShowAnchors}}
use Rattle.pf_session.specs.declared.line_engine.fault.EngineFault.{EngineFault}
use Rattle.pf_session.specs.declared.line_engine.fault.EngineFault.TheVariants as fault
use Rattle.pf_session.specs.{LineEngine.Sessions.{Answered, CutOff, SessionEnds}, Serving.{CallsOrShows, Serves}, Telling.IsReplyTo}
use Rattle.pf_session.proofs.{Chains.chain-moves, LineReplies.reply-moves}

module _ {D : Type 0} (faults : D → ℕ) where
  abbrev keeps : PlainBook D → PlainBook D → Type 0
  keeps a b = (world_book b).setting ≡ (world_book a).setting

  same-keeps : (a b : PlainBook D) → b ≡ a → keeps a b
  same-keeps a b is = ap (λ (book : PlainBook D). (world_book book).setting) is

  request-keeps : (q : Request) (a b : PlainBook D) (text : List ℕ) → CallsOrShows faults q a b text → keeps a b
  request-keeps (Run c) a b text ran = ran.setting
  request-keeps ShowStatus a b text shows = same-keeps a b shows.same
  request-keeps (ShowAnchors path) a b text shows = same-keeps a b shows.same

  line-keeps : (line : List ℕ) (a b : PlainBook D) (text : List ℕ) → IsReplyTo (CallsOrShows faults) line a b text → keeps a b
  line-keeps = reply-moves (CallsOrShows faults) keeps same-keeps request-keeps

  lines-keep : (a b : PlainBook D) (lines : List (List ℕ)) (text : List ℕ) → Serves faults a b lines text → keeps a b
  lines-keep = chain-moves (IsReplyTo (CallsOrShows faults)) keeps same-keeps (λ a b c p q. q ∙ p) line-keeps

  answered-keeps : {lines : List (List ℕ)} {a b : PlainBook D} {held held' : Option (List ℕ)} → Answered (Serves faults) lines a b held held' → keeps a b
  answered-keeps {lines} {a} {b} answered = lines-keep a b lines answered.text answered.served

  cut-keeps : {lines : List (List ℕ)} {a b : PlainBook D} {held held' : Option (List ℕ)} → CutOff (Serves faults) lines a b held held' → keeps a b
  cut-keeps {lines} {a} {b} cut = lines-keep cut.before b cut.last cut.text cut.served ∙ answered-keeps cut.answered

  pub ends-setting : (result : Result (Unit {0}) EngineFault) (input : List ℕ) (lines : List (List ℕ)) (rest : List ℕ) (unread : Option (List ℕ)) (old new : PlainBook D) (held held' : Option (List ℕ)) → SessionEnds (Serves faults) result input lines rest unread old new held held' → (world_book new).setting ≡ (world_book old).setting
  ends-setting (Ok u) input lines rest unread old new held held' (answered, end) = answered-keeps answered
  ends-setting (Err fault.Read) input lines rest unread old new held held' answered = answered-keeps answered
  ends-setting (Err fault.Write) input lines rest unread old new held held' (inl cut) = cut-keeps cut
  ends-setting (Err fault.Write) input lines rest unread old new held held' (inr (cut, end)) = cut-keeps cut
  ends-setting (Err fault.Memory) input lines rest unread old new held held' (none, same, written) = same-keeps old new same

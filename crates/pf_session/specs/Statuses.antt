-- What is shown as the status: what a Book says of itself, beside how many sessions are open.
use Rattle.std.specs.Prelude.{ℕ, List}
use Rattle.pf_book.specs.declared.status.BookStatus.{BookStatus}
use Rattle.pf_line.specs.declared.reply.status.Status.{Status}
use Rattle.pf_line.specs.Reply.StatusTexts.{status_text}

abbrev pub with_sessions : BookStatus → (sessions : ℕ) → Status
with_sessions s sessions = record {
  epoch = s.epoch;
  changes = s.changes;
  tick = s.tick;
  rulesets = s.rulesets;
  tables = s.tables;
  states = s.states;
  held = s.held;
  size = s.size;
  sessions = sessions;
}

abbrev pub shown_text : BookStatus → (sessions : ℕ) → List ℕ
shown_text s sessions = status_text (with_sessions s sessions)

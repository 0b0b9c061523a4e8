-- What a session's seer has learnt.
use Rattle.std.specs.Prelude.{◌≡◌, ℕ, ◌≤◌, List, length}
use mathlib.Core.List.{IsPrefix}
use Rattle.pf_core.specs.declared.{command.Command.Command, reply.Outcome.Outcome, reply.Reply.TheVariants.Applied}
use Rattle.pf_core.specs.{Durable.Changes.PlainDurable, Worlds.Setting}
use Rattle.pf_session.specs.Server.Sittings.{IsCommandRun, TakesLines, Sitting}

-- What it learnt begins with all that it had learnt before.
abbrev pub LearnsNoLess : (ℕ → Type 0) → Type 0
LearnsNoLess passed = (base : PlainDurable) (setting : Setting) (old new : Sitting) (lines : List (List ℕ)) (text : List ℕ)
    → TakesLines passed base setting old new lines text → IsPrefix old.seer.learnt new.seer.learnt

-- After a change that the session was told is applied it begins with the whole history at that reply, and has no fewer changes than the
-- change's number.
abbrev pub LearnsApplied : Type 0
LearnsApplied = (base : PlainDurable) (setting : Setting) (c : Command) (old new : Sitting) (text : List ℕ) (run : IsCommandRun base setting c old new text)
    (seq : ℕ) (outcome : Outcome) → run.reply ≡ Applied seq outcome
    → IsPrefix run.slip.front new.seer.learnt × (seq ≤ length new.seer.learnt)

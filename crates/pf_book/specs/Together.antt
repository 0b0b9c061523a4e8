-- What a command is answered that may be run in one group with those of other callers.
use Rattle.std.specs.Prelude.{◌≡◌, ◌⊎◌, List, ◌∷◌, ◌++◌, length, Option, Result, Ok, Err}
use Rattle.pf_core.specs.declared.{command.Command.Command, reply.Refusal.TheVariants.Fault, reply.Reply.Reply}
use Rattle.pf_core.specs.{Durable.Changes.PlainDurable, Laws.Groups.AreInTurn, Worlds.Setting}
use Rattle.pf_book.specs.{Groups.{Answered, IsGroupAnswered}, Receipts.{PlainReceipt, IsAnswered}}

-- a command, and the receipt that its caller hands in, if it has one
pub record PlainAsked : Type 0 where
  pub command : Command
  pub last : Option PlainReceipt

-- what its caller is given: the reply with its receipt; or if the device failed in a group the receipt that was handed in
abbrev pub PlainGiven : Type 0
PlainGiven = Result Answered (Option PlainReceipt)

-- The Book ran a group that had the command behind these earlier ones, and this is what it was answered at its place: the reply that it would
-- have got by itself after them. The other commands are those of other callers. The receipt that the command's caller handed in is taken up where the group began.
pub record IsAnsweredAmong (base : PlainDurable) (setting : Setting) (c : Command) (r : Reply) (slip : PlainReceipt) (last : Option PlainReceipt) : Type 0 where
  pub earlier : List Command
  pub later : List Command
  -- what the earlier ones and the later ones were answered
  pub reported : List Answered
  pub others : List Answered
  pub group : IsGroupAnswered base setting (earlier ++ c ∷ later) (Ok (reported ++ (r, slip) ∷ others)) last
  pub in_turn : AreInTurn group.before (earlier ++ c ∷ later)
  pub place : length reported ≡ length earlier

-- The device failed in a group that had the command. The changes of the group stand in the history, not acknowledged. It has no receipt.
pub record HasFailedAmong (base : PlainDurable) (setting : Setting) (c : Command) (last : Option PlainReceipt) : Type 0 where
  pub earlier : List Command
  pub later : List Command
  pub group : IsGroupAnswered base setting (earlier ++ c ∷ later) (Err Fault) last

-- The command was answered by itself or in a group; or the device failed in its group, and the caller has its receipt back.
abbrev pub IsAnsweredTogether : PlainDurable → Setting → PlainAsked → PlainGiven → Type 0
IsAnsweredTogether base setting asked (Ok a) =
    IsAnswered base setting asked.command a.0 a.1 asked.last ⊎ IsAnsweredAmong base setting asked.command a.0 a.1 asked.last
IsAnsweredTogether base setting asked (Err back) = (back ≡ asked.last) × HasFailedAmong base setting asked.command asked.last

-- Which commands ask, and change nothing.
use Rattle.std.specs.Prelude.{Bool, true, false}
use Rattle.pf_core.specs.declared.{command.Command.Command, command.Command.TheVariants.{Ask, History}, command.HistoryCommand.TheVariants.{Log}}

-- A question about what is kept, or how many changes there are. Nothing else is one: a publish may change what is shown.
abbrev pub is_inquiry : Command → Bool
is_inquiry (Ask q) = true
is_inquiry (History Log) = true
is_inquiry c = false

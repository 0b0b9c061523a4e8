use Rattle.std.proofs.Common.{◌≡◌, drop, map}
use Rattle.clap.specs.Words.{app_of}
use Rattle.pfd_words.specs.Parameters.{with_subcommands, words_for}
use Rattle.pfd_words.proofs.subcommands.with_subcommands.Given as goal

-- with the subcommands that come it is the whole
abbrev pub invariant-loop-subcommand : goal.invariant-loop-subcommand
invariant-loop-subcommand l =
    with_subcommands (app_of l.command) (map words_for (drop l.subcommand-index l.subcommands))
    ≡ with_subcommands (app_of l.initial.command) (map words_for l.subcommands)

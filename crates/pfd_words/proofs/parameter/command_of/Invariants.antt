use Rattle.std.proofs.Common.{◌≡◌, drop, false, map}
use Rattle.clap.specs.Words.{app_of}
use Rattle.clap.specs.declared.builder.command.Command.TheViews.{out-Command}
use Rattle.pfd_words.specs.Parameters.{rule_for, with_rules, words_for}
use Rattle.pfd_words.proofs.parameter.command_of.Given as goal

-- with the rules of the parameters that come it is the whole
abbrev pub invariant-loop-parameter : goal.invariant-loop-parameter
invariant-loop-parameter l = record {
  rest : with_rules (app_of l.command) (map rule_for (drop l.parameter-index l.subcommand.parameters.now)) ≡ words_for l.subcommand;
  local : (out-Command l.command).has_globals ≡ false;
}

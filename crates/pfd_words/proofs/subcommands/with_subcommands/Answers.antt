use Rattle.std.proofs.Common.{ap, map, rules, ◌≡◌, ◌∙◌, drop, sym, [], List}
use Rattle.std.proofs.Math.ListN.{drop_of_length-le}
use Rattle.clap.specs.Words.{app_of}
use Rattle.pfd_words.specs.declared.parameter.{Subcommand.Subcommand}
use Rattle.pfd_words.specs.Parameters.{HasAdded, with_subcommands, words_for}
use Rattle.pfd_words.proofs.Adding.{one_more_subcommand}
use Rattle.pfd_words.proofs.subcommands.with_subcommands.Goals as goal

pub loop-subcommand-preserved : goal.loop-subcommand-preserved
loop-subcommand-preserved c =
    one_more_subcommand (app_of c.loop-subcommand.command) (app_of c.in_ok-command.command) (app_of c.in_ok-command_of.field-0) _ c.args.subcommands.now
    c.loop-subcommand.subcommand-index _ c.loop-subcommand-test.true c.in_ok-command_of.ensures.app
    (c.in_ok-command.ensures.shape c.in_ok-command_of.ensures.local) c.loop-subcommand.invariant

pub returns : goal.returns
unfolding HasAdded with_subcommands
returns c =
    let none : drop c.loop-subcommand.subcommand-index c.args.subcommands.now ≡ [] = drop_of_length-le c.args.subcommands.now (search rules) in
    sym (ap (λ (ss : List Subcommand). with_subcommands (app_of c.loop-subcommand.command) (map words_for ss)) none) ∙ c.loop-subcommand.invariant

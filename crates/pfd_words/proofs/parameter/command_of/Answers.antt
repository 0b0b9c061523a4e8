use Rattle.std.proofs.Common.{ap, length, map, rules, sym, [], List, ◌≡◌, ◌∙◌, drop}
use Rattle.std.proofs.Math.ListN.{drop_of_length-le}
use Rattle.clap.specs.Words.{app_of, rule_of, App}
use Rattle.pfd_words.specs.declared.parameter.{Parameter.Parameter}
use Rattle.pfd_words.specs.Parameters.{rule_for, with_rules}
use Rattle.pfd_words.proofs.Adding.{one_more}
use Rattle.pfd_words.proofs.parameter.command_of.Goals as goal

pub loop-parameter-preserved : goal.loop-parameter-preserved
loop-parameter-preserved c = record {
  rest = one_more (app_of c.loop-parameter.command) (app_of c.in_ok-command.command) _ (rule_of c.arg_of.result)
      c.args.subcommand.now.parameters.now c.loop-parameter.parameter-index _ c.loop-parameter-test.true c.arg_of.ensures.rule
      (c.in_ok-command.ensures.shape c.arg_of.ensures.local) c.loop-parameter.invariant.rest;
  local = search rules;
}

pub returns-clause-app : goal.returns-clause-app
unfolding with_rules
returns-clause-app c =
    let none : drop c.loop-parameter.parameter-index c.args.subcommand.now.parameters.now ≡ [] = drop_of_length-le c.args.subcommand.now.parameters.now (search rules) in
    sym (ap (λ (ps : List Parameter). with_rules (app_of c.loop-parameter.command) (map rule_for ps)) none) ∙ c.loop-parameter.invariant.rest

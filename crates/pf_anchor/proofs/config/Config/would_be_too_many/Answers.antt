use Rattle.std.proofs.Common.{◌≡◌, length, nat_lt, IfOk, subst}
use Rattle.std.specs.Prelude.{fold}
use Rattle.pf_anchor.specs.declared.limits.TheConstants.{RULESET_LIMIT}
use Rattle.pf_anchor.specs.{Rulesets.with_rules, Configurations.PlainConfig}
use Rattle.pf_anchor.proofs.config.Config.would_be_too_many.Goals as goal

pub returns : goal.returns
returns c =
    subst (λ (x : PlainConfig). IfOk c.would_be_more_than.result (λ b. b ≡ nat_lt RULESET_LIMIT (length (fold with_rules x.rulesets c.args.items.now)))) c.self.view_is
    c.would_be_more_than.ensures

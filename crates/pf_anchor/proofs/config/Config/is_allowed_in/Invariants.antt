use Rattle.std.proofs.Common.{◌≡◌}
use Rattle.std.specs.List.{list_all}
use Rattle.pf_anchor.specs.Forms.{allows_ruleset}
use Rattle.pf_anchor.proofs.config.Config.is_allowed_in.Given as goal

-- all that were looked at are allowed
abbrev pub invariant-loop-placed : goal.invariant-loop-placed
invariant-loop-placed l =
    list_all (allows_ruleset l.version) l.self.rulesets ≡ list_all (allows_ruleset l.version) l.placed-iterator

use Rattle.std.proofs.Common.{true, false, refl}
use Rattle.pfd_conf.proofs.Matching.{whole_trace, front_trace}
use Rattle.pfd_conf.proofs.case.trace.rules_that_match.Goals as goal

pub returns-in-Ok : goal.returns-in-Ok
returns-in-Ok c =
    whole_trace c.args.config.now c.args.packet.now c.in-Ok.field-0 c.new-matched.result.items (record { matched = c.ruleset.new.matched; is_whole = true }) c.new-matched.ensures.items (rw c.main.ensures at c.in-Ok.ensures)

pub returns-in-Err-Many : goal.returns-in-Err-Many
returns-in-Err-Many c =
    front_trace c.args.config.now c.args.packet.now c.in-Err-Many.field-0 c.new-matched.result.items (record { matched = c.ruleset.new.matched; is_whole = false }) c.new-matched.ensures.items refl (rw c.main.ensures at c.in-Err-Many.ensures)

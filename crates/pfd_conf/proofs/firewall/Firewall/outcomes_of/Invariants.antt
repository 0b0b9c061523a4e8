use Rattle.std.proofs.Common.{◌≡◌, ◌+◌, [], drop}
use Rattle.pf_form.specs.Form.Words.{texts}
use Rattle.pfd_conf.specs.Outcomes.{outcomes_from}
use Rattle.pfd_conf.proofs.firewall.Firewall.outcomes_of.Given as goal

abbrev pub invariant-loop-index : goal.invariant-loop-index
invariant-loop-index l =
    outcomes_from l.self l.file [] 1 (texts l.lines) ≡ outcomes_from l.self l.file l.outcomes (l.index + 1) (drop l.index (texts l.lines))

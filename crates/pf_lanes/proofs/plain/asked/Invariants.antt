use Rattle.std.specs.Prelude.{◌&&◌}
use Rattle.pf_rule.specs.Rules.{matches}
use Rattle.pf_lanes.specs.Masks.{is_set}
use Rattle.pf_lanes.proofs.Counted.{AreSetBelow}
use Rattle.pf_lanes.proofs.plain.asked.Given as goal

abbrev pub invariant-loop-i : goal.invariant-loop-i
invariant-loop-i g l = AreSetBelow (λ k r. is_set l.wanted k && matches (g.T.TableAnswers.says l.tables) r l.packet) l.rules l.i l.mask

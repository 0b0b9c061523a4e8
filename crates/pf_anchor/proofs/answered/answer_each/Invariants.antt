use Rattle.std.proofs.Common.{◌≡◌, ◌≤◌, ◌++◌, length, take}
use Rattle.pf_anchor.specs.Answered.{answered_by}
use Rattle.pf_anchor.proofs.answered.answer_each.Given as goal

-- the answers of those so far stand at the front
abbrev pub invariant-loop-placed : goal.invariant-loop-placed
invariant-loop-placed l = record { few : l.count ≤ length l.list; answered : take l.count l.list ++ answered_by l.packet l.placed-iterator ≡ answered_by l.packet l.config.tables }

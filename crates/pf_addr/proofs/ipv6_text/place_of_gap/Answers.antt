use Rattle.std.proofs.Common.{sym, arith, rules}
use Rattle.pf_addr.specs.Laws.Gaps.{found_at, passed_at, none_left}
use Rattle.pf_addr.proofs.ipv6_text.place_of_gap.Goals as goal

pub returns-then-colons_at-clause-place : goal.returns-then-colons_at-clause-place
returns-then-colons_at-clause-place c = sym (found_at c.args.text.now c.loop-i.i c.loop-i.invariant (omega arith) (search rules))

pub loop-i-preserved : goal.loop-i-preserved
loop-i-preserved c = passed_at c.args.text.now c.loop-i.i c.loop-i.invariant (omega arith) (search rules)

pub returns-clause-place : goal.returns-clause-place
returns-clause-place c = sym (none_left c.args.text.now c.loop-i.i c.loop-i.invariant (omega arith))

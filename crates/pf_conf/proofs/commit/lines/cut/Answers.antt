use Rattle.std.proofs.Common.{sym, arith}
use Rattle.std.proofs.lemmas.List.{take_all, drop_all}
use Rattle.pf_conf.specs.declared.commit.lines.TheConstants.{PART}
use Rattle.pf_conf.proofs.commit.lines.cut.Goals as goal

pub returns-then-entries-lt-PART-clause-part : goal.returns-then-entries-lt-PART-clause-part
returns-then-entries-lt-PART-clause-part c = sym (take_all PART c.args.entries.now (omega arith))

pub returns-then-entries-lt-PART-clause-rest : goal.returns-then-entries-lt-PART-clause-rest
returns-then-entries-lt-PART-clause-rest c = sym (drop_all PART c.args.entries.now (omega arith))

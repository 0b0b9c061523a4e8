use Rattle.std.proofs.Common.{◌≡◌, drop}
use Rattle.pf_sources.specs.Steps.{each}
use Rattle.pf_conf.specs.Rulesets.{with_product, written_in}
use Rattle.pf_conf.proofs.rulesets.add_all_written.Given as goal

abbrev pub invariant-loop-written : goal.invariant-loop-written
invariant-loop-written l = each with_product (written_in l.number l.all) l.fn.rules ≡ each with_product (written_in l.number (drop l.written-index l.all)) l.rules

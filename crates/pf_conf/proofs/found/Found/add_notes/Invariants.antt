use Rattle.std.proofs.Common.{◌≡◌}
use Rattle.pf_conf.specs.Resolving.{with_notes}
use Rattle.pf_conf.proofs.found.Found.add_notes.Given as goal

abbrev pub invariant-loop-remark : goal.invariant-loop-remark
invariant-loop-remark l = l.self ≡ with_notes l.files l.macros l.yielded l.initial.self

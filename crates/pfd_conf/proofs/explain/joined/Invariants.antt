use Rattle.std.proofs.Common.{◌≡◌, take}
use Rattle.pfd_conf.specs.Explaining.{joined}
use Rattle.pfd_conf.proofs.explain.joined.Given as goal

abbrev pub invariant-loop-part : goal.invariant-loop-part
invariant-loop-part l = l.text.items ≡ joined (take l.part-index l.texts)

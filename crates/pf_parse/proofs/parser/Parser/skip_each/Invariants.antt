use Rattle.std.proofs.Common.{◌≡◌, drop}
use Rattle.pf_parse.specs.Lines.{skip_each}
use Rattle.pf_parse.proofs.parser.Parser.skip_each.Given as goal

abbrev pub invariant-loop-interface : goal.invariant-loop-interface
invariant-loop-interface l = skip_each (drop l.interface-index l.interfaces) l.self ≡ skip_each l.interfaces l.fn.self

use Rattle.std.proofs.Common.{◌≡◌, take}
use Rattle.pf_parse.specs.Criteria.{interface_words}
use Rattle.pf_parse.proofs.criteria.interface_words.Given as goal

abbrev pub invariant-loop-interface : goal.invariant-loop-interface
invariant-loop-interface l = l.list ≡ interface_words (take l.interface-index l.interfaces)

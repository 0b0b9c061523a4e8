use Rattle.std.proofs.Common.{◌≡◌, ◌-◌}
use Rattle.pf_parse.specs.Reading.{repeating}
use Rattle.pf_parse.specs.Options.{options_more, said}
use Rattle.pf_parse.proofs.parser.Parser.options.Given as goal

abbrev pub invariant-loop : goal.invariant-loop
invariant-loop l = repeating (options_more l.start l.tests) (l.end - l.counter) l.options l.self ≡ said l.start l.tests l.fn.self

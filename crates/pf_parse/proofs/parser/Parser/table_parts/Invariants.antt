use Rattle.std.proofs.Common.{◌≡◌, ◌-◌}
use Rattle.pf_parse.specs.Reading.{repeating}
use Rattle.pf_parse.specs.Lines.{parts_more, table_parts}
use Rattle.pf_parse.proofs.parser.Parser.table_parts.Given as goal

abbrev pub invariant-loop : goal.invariant-loop
invariant-loop l = repeating parts_more (l.end - l.counter) l.sources l.self ≡ table_parts l.fn.self

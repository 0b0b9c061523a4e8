use Rattle.std.proofs.Common.{◌≡◌, drop}
use Rattle.pf_parse.specs.Reading.{refusals_in, reason_in}
use Rattle.pf_parse.proofs.parser.reason_in.Given as goal

abbrev pub invariant-loop-row : goal.invariant-loop-row
invariant-loop-row l = reason_in (refusals_in (drop l.row-index l.table)) l.word ≡ reason_in (refusals_in l.table) l.word

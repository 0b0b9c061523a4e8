use Rattle.std.proofs.{Common.{◌≡◌, ℕ, ◌+◌, ◌-◌, [], List, length, sym, ap, ◌∙◌, arith}, lemmas.Result.err_from_is_err_and}
use Rattle.pf_parse.specs.declared.tree.Entries.{Entries}
use Rattle.pf_parse.specs.Reading.{repeating}
use Rattle.pf_parse.specs.Lines.{parts_more, table_parts}
use Rattle.pf_parse.proofs.Turns.{turn_stops, stops_on}
use Rattle.pf_parse.proofs.parser.Parser.table_parts.Goals as goal

pub loop-init : goal.loop-init
unfolding table_parts
loop-init c =
    let all : c.turns-end.result - 0 ≡ length c.args.self.now.left + 1 = omega arith in
    rw c.new-sources.ensures (ap (λ (n : ℕ). repeating parts_more n [] c.args.self.now) all)

pub returns-in_err-parts_more : goal.returns-in_err-parts_more
returns-in_err-parts_more c =
    let p = err_from_is_err_and c.from_residual.result c.from_residual.ensures.1 in
    rw (p.1, p.2)
    (stops_on (List Entries) c.in_err-parts_more.field-0.0 _ _ _ _ _ c.in_err-parts_more.ensures
    (λ d is. sym c.loop.invariant ∙ turn_stops parts_more c.turns-end.result c.loop.counter c.loop.sources c.loop.self d (omega arith) is))

use Rattle.std.proofs.{Common.{◌≡◌, ℕ, ◌+◌, ◌-◌, length, sym, ap, ◌∙◌, arith}, lemmas.Result.err_from_is_err_and}
use Rattle.pf_parse.proofs.{Turns.stops_at, InTurn.{lines_left, lines_begun, lines_stop}}
use Rattle.pf_parse.proofs.parser.Parser.lines.Goals as goal

pub loop-init : goal.loop-init
loop-init c =
    let all : c.turns-end.result - 0 ≡ length c.args.self.now.left + 1 = omega arith in
    ap (λ (n : ℕ). lines_left n c.args.self.now) all ∙ lines_begun c.args.self.now

pub returns-in_err-lines_more : goal.returns-in_err-lines_more
returns-in_err-lines_more c =
    let p = err_from_is_err_and c.from_residual.result c.from_residual.ensures.1 in
    rw (p.1, p.2)
    (stops_at _ (Unit {0}) c.in_err-lines_more.field-0.0 _ _ _ _ c.in_err-lines_more.ensures
    (λ d is. sym c.loop.invariant ∙ lines_stop c.turns-end.result c.loop.counter c.loop.self d (omega arith) is))

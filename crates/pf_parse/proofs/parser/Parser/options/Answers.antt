use Rattle.std.proofs.{Common.{◌≡◌, ℕ, ◌+◌, ◌-◌, length, sym, ap, ◌∙◌, arith}, lemmas.Result.err_from_is_err_and}
use Rattle.pf_parse.specs.declared.options.Options.{Options}
use Rattle.pf_parse.specs.Reading.{repeating}
use Rattle.pf_parse.specs.Options.{options_more, said, nothing_said}
use Rattle.pf_parse.proofs.Turns.{turn_stops, stops_on}
use Rattle.pf_parse.proofs.parser.Parser.options.Goals as goal

pub loop-init : goal.loop-init
unfolding said
loop-init c =
    let all : c.turns-end.result - 0 ≡ length c.args.self.now.left + 1 = omega arith in
    ap (λ (n : ℕ). repeating (options_more c.args.start c.args.tests.now) n nothing_said c.args.self.now) all

pub returns-in_err-options_more : goal.returns-in_err-options_more
returns-in_err-options_more c =
    let p = err_from_is_err_and c.from_residual.result c.from_residual.ensures.1 in
    rw (p.1, p.2)
    (stops_on (Options) c.in_err-options_more.field-0.0 _ _ _ _ _ c.in_err-options_more.ensures
    (λ d is. sym c.loop.invariant ∙ turn_stops (options_more c.args.start c.args.tests.now) c.turns-end.result c.loop.counter c.loop.options c.loop.self d (omega arith) is))

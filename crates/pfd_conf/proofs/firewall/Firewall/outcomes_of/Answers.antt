use Rattle.std.proofs.Common.{[]}
use Rattle.std.proofs.lemmas.Result.{err_from_is_err_and}
use Rattle.pf_form.specs.Form.Words.{texts}
use Rattle.pfd_conf.specs.Outcomes.{outcomes_from}
use Rattle.pfd_conf.proofs.Judging.{judged_on, judged_stops, judged_all, gives_on}
use Rattle.pfd_conf.proofs.firewall.Firewall.outcomes_of.Goals as goal

pub returns-in_err-outcome : goal.returns-in_err-outcome
returns-in_err-outcome c =
    let p = err_from_is_err_and c.from_residual.result c.from_residual.ensures.1 in
    let f = c.args.self.now in
    let file = c.args.file.now in
    let lines = c.args.lines.now in
    let i = c.loop-index.index in
    rw (p.1, p.2)
    (gives_on c.in_err-outcome.field-0.0 _ (outcomes_from f file [] 1 (texts lines))
    (λ is. judged_stops f file lines i _ c.loop-index.outcomes c.in_err-outcome.field-0.0 _ c.loop-index.invariant c.loop-index-test.true
    is) c.in_err-outcome.ensures)

pub loop-index-preserved : goal.loop-index-preserved
loop-index-preserved c =
    judged_on c.args.self.now c.args.file.now c.args.lines.now c.loop-index.index _ c.loop-index.outcomes c.push_some.new.outcomes
    c.in_ok-outcome.outcome _
    c.loop-index.invariant c.loop-index-test.true c.in_ok-outcome.ensures c.in_ok-push_some.ensures

pub returns : goal.returns
returns c = judged_all c.args.self.now c.args.file.now c.args.lines.now c.loop-index.index c.loop-index.outcomes _ c.loop-index.invariant
    c.loop-index-test.false

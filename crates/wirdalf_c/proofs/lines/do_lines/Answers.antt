use Rattle.std.proofs.{Common.{ℕ, ◌+◌, ◌==◌, sym, ◌∙◌, ap, rules, tests}, lemmas.List.length_push, lemmas.Iterator.Consumers.{YieldsList-turn, YieldsList-end}, lemmas.Iterator.Splits.YieldsList-from_slice_split}
use Rattle.wirdalf_c.specs.Lines.{lines_of}
use Rattle.wirdalf_c.proofs.LineSteps.{one_more, stopped, ended}
use Rattle.wirdalf_c.proofs.lines.do_lines.Goals as goal

pub loop-line-preserved : goal.loop-line-preserved
loop-line-preserved c =
    let at = YieldsList-turn (YieldsList-from_slice_split _ (λ b. b == 10) c.args.text.now (cc) (cc) (cc) (λ x r q k. search (rules, tests))) c.loop-line.yielded _ c.loop-line.yielded_by _ _ c.in-Some.line c.in-Some.is c.next.ensures.steps in (
      ap (λ (n : ℕ). n + 1) c.loop-line.invariant.0 ∙ sym (length_push c.loop-line.yielded c.in-Some.line),
      one_more c.args.core.now (lines_of c.args.text.now) c.loop-line.core c.do_line.new.core c.loop-line.number c.in-Some.line.now (rw (← c.loop-line.invariant.0) at at)
          (rw c.in_default.is at c.do_line.ensures.done) c.loop-line.invariant.1,
    )

pub returns-in-Err-clause-refused : goal.returns-in-Err-clause-refused
returns-in-Err-clause-refused c = λ ne.
    let at = YieldsList-turn (YieldsList-from_slice_split _ (λ b. b == 10) c.args.text.now (cc) (cc) (cc) (λ x r q k. search (rules, tests))) c.loop-line.yielded _ c.loop-line.yielded_by _ _ c.in-Some.line c.in-Some.is c.next.ensures.steps in
    stopped c.args.core.now (lines_of c.args.text.now) c.loop-line.core c.loop-line.number c.in-Some.line.now c.in-Err.why (rw (← c.loop-line.invariant.0) at at) (c.in-Err.ensures.refused ne) c.loop-line.invariant.1

pub returns-clause-done : goal.returns-clause-done
returns-clause-done c =
    let end = YieldsList-end (YieldsList-from_slice_split _ (λ b. b == 10) c.args.text.now (cc) (cc) (cc) (λ x r q k. search (rules, tests))) c.loop-line.yielded _ c.loop-line.yielded_by _ _ c.in-None.is c.next.ensures.steps in
    ended c.args.core.now (lines_of c.args.text.now) c.loop-line.core c.loop-line.number (c.loop-line.invariant.0 ∙ end.1) c.loop-line.invariant.1

use Rattle.std.proofs.{Common.{◌≡◌, ◌∙◌, ℕ, ◌+◌, ◌≤◌, ◌++◌, List, ap, arith, length, length-take, rules, take}, lemmas.List.{with_items_is, places}}
use Rattle.std.specs.Prelude.{slice_range}
use Rattle.pf_session.specs.{LineEngine.Intakes.PlainIntake, LineEngine.Lines.IsLine}
use Rattle.pf_session.proofs.Pausing.{kept-line, kept-so_far, looked-on, range-taken}
use Rattle.pf_session.proofs.line_engine.intake.Intake.answer_some.Goals as goal

pub invariant_of-self : goal.invariant_of-self
invariant_of-self g c =
    let i = c.self.inside in
    let was : take i.kept c.as_mut_slice.result.now ≡ take i.kept i.line.items = ap (take i.kept) c.as_mut_slice.ensures.value in
    let line : IsLine (take i.kept c.as_mut_slice.result.now) = rw was c.self.invariant.5 in
    let few : length (take i.kept c.as_mut_slice.result.now) ≤ 4097 = omega (arith, length-take i.kept c.as_mut_slice.result.now) in
    let begun = kept-so_far g.A.AnswerSome.Takes c.args.answerer.now (g.W.Write.contents c.args.writer.now) line few in
    let s = c.in-Ok.ensures.session (take i.kept c.as_mut_slice.result.now) c.args.answerer.now (g.W.Write.contents c.args.writer.now) begun in (
      c.self.invariant.0,
      c.in-Ok.ensures.few,
      c.self.invariant.2,
      omega (arith, length-take {A = ℕ}, c.in-Ok.ensures.within),
      c.self.invariant.4,
      rw (with_items_is i.line c.answer_some_in-answered.new.line (search (rules, places))) (kept-line g.A.AnswerSome.Takes s),
    )

pub returns-in-Ok-clause-answered : goal.returns-in-Ok-clause-answered
returns-in-Ok-clause-answered g c = λ input start held s.
    let i = c.self.inside in
    let kept : take i.kept c.as_mut_slice.result.now ≡ c.args.self.now.kept = ap (take i.kept) c.as_mut_slice.ensures.value ∙ ap (λ (v : PlainIntake). v.kept) c.self.view_is in
    let piece : slice_range c.deref.result.now i.from i.to ≡ slice_range i.piece.items i.from i.to = ap (λ (l : List ℕ). slice_range l i.from i.to) c.deref.ensures.value in
    let low : i.from + c.in-Ok.field-0.used ≤ i.to = omega (arith, length-take {A = ℕ}, c.in-Ok.ensures.within) in
    let ahead = ap (λ (l : List ℕ). take c.in-Ok.field-0.used l ++ slice_range i.piece.items (i.from + c.in-Ok.field-0.used) i.to) piece
    ∙ range-taken i.piece.items i.from i.to c.in-Ok.field-0.used low ∙ ap (λ (v : PlainIntake). v.ahead) c.self.view_is in
    looked-on g.A.AnswerSome.Takes _ (take c.in-Ok.field-0.used (slice_range c.deref.result.now i.from i.to)) s ahead
    (rw (with_items_is i.line c.answer_some_in-answered.new.line (search (rules, places))) (c.in-Ok.ensures.session s.before start held (rw kept s.so_far)))

pub returns-in-Err-clause-answered : goal.returns-in-Err-clause-answered
returns-in-Err-clause-answered g c = λ input start held s.
    let i = c.self.inside in
    let kept : take i.kept c.as_mut_slice.result.now ≡ c.args.self.now.kept = ap (take i.kept) c.as_mut_slice.ensures.value ∙ ap (λ (v : PlainIntake). v.kept) c.self.view_is in
    let piece : slice_range c.deref.result.now i.from i.to ≡ c.args.self.now.ahead = ap (λ (l : List ℕ). slice_range l i.from i.to) c.deref.ensures.value ∙ ap (λ (v : PlainIntake). v.ahead) c.self.view_is in
    rw (s.input_is, ← piece) (c.in-Err.ensures.session s.before start held (rw kept s.so_far))

use Rattle.std.proofs.Common.{suc, ap, ◌∙◌, arith}
use Rattle.std.specs.Prelude.{slice_get}
use Rattle.pf_queue.proofs.queue.put_all.Goals as goal

pub put-requires : goal.put-requires
put-requires g c =
    c.loop-place.invariant.answered 0 c.in-Some.place c.in-Some-next.answer (ap (λ xs. slice_get xs 0) c.in-Some.ensures.cases.0) (ap (λ xs. slice_get xs 0) c.in-Some-next.ensures.cases.0)

pub loop-place-preserved : goal.loop-place-preserved
loop-place-preserved g c = record {
  each = omega (arith, c.in-Some.ensures.cases.1, c.in-Some-next.ensures.cases.1);
  answered = λ i p a at also. c.loop-place.invariant.answered (suc i) p a (ap (λ xs. slice_get xs (suc i)) c.in-Some.ensures.cases.0 ∙ at) (ap (λ xs. slice_get xs (suc i)) c.in-Some-next.ensures.cases.0 ∙ also);
}

pub loop-place-init : goal.loop-place-init
loop-place-init g c =
    let ps = c.into_iter-places.ensures in
    let xs = c.into_iter-answers.ensures in
    record {
      each = omega (arith, c.requires.each, ps.len, xs.len);
      answered = λ i p a at also. c.requires.answered i p a (cc (at, ps.rest)) (cc (also, xs.rest));
    }

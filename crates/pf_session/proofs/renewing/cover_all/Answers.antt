use Rattle.std.proofs.{Common.{◌∙◌, arith, refl}, lemmas.List.take_all, lemmas.List.Elements.{All-more, All-nil}}
use Rattle.pf_session.proofs.Renewed.{IsKnown, known-within}
use Rattle.pf_session.proofs.renewing.cover_all.Goals as goal

pub loop-seer-init : goal.loop-seer-init
loop-seer-init g c = record { same = refl; known = All-nil (IsKnown c.args.closed.now) }

pub loop-seer-preserved : goal.loop-seer-preserved
loop-seer-preserved g c =
    let same = c.loop-seer.invariant.same in
    let covers : IsKnown c.args.closed.now c.seer-item.result = record { seen = rw same at c.covers.ensures.seen; learnt = rw same at c.covers.ensures.learnt } in
    record {
      same = c.covers.ensures.same ∙ same;
      known = All-more (IsKnown c.args.closed.now) c.args.seers.now c.loop-seer.seer-index c.seer-item.result c.loop-seer-test.true c.loop-seer.invariant.known (rw (← c.seer-item.is) covers);
    }

pub returns-clause-knows : goal.returns-clause-knows
returns-clause-knows g c = λ front has.
    let known = rw (take_all c.loop-seer.seer-index c.args.seers.now (omega arith)) at c.loop-seer.invariant.known in
    known-within c.args.closed.now front c.args.seers.now has known

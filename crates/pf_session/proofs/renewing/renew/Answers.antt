use Rattle.std.proofs.{Common.{◌∙◌, arith, ap, refl}, lemmas.List.take_all, lemmas.List.Elements.{All-more, All-nil}}
use Rattle.pf_book.specs.Books.{PlainBook, world_book}
use Rattle.pf_session.proofs.{Renewed.{IsCovered, gives, goes-on}}
use Rattle.pf_session.proofs.renewing.renew.Goals as goal

pub loop-seer-init : goal.loop-seer-init
loop-seer-init g c = record { same = refl; covered = All-nil (IsCovered (world_book c.args.book)) }

pub loop-seer-preserved : goal.loop-seer-preserved
loop-seer-preserved g c =
    let same = c.loop-seer.invariant.same in
    let covers : IsCovered (world_book c.args.book) c.seer-item.result = record {
      seen = rw same at c.covers.ensures.seen;
      seen_acked = rw same at c.covers.ensures.seen_acked;
      learnt = rw same at c.covers.ensures.learnt;
      learnt_acked = rw same at c.covers.ensures.learnt_acked;
    } in
    record {
      same = c.covers.ensures.same ∙ c.loop-seer.invariant.same;
      covered = All-more (IsCovered (world_book c.args.book)) c.args.seers.now c.loop-seer.seer-index c.seer-item.result c.loop-seer-test.true c.loop-seer.invariant.covered
          (rw (← c.seer-item.is) covers);
    }

pub returns-clause-renews : goal.returns-clause-renews
returns-clause-renews g c =
    let same = c.loop-seer.invariant.same in
    let covered = rw (take_all c.loop-seer.seer-index c.args.seers.now (omega arith)) at c.loop-seer.invariant.covered in
    gives g.D.Disk.seen g.D.Disk.unsynced c.args.book c.into_disk-2.result (c.into_disk-2.ensures ∙ ap (λ (b : PlainBook g.row.D.Denot). b.disk) same) (rw same at c.between_calls.ensures.images)
    c.«open».result c.args.seers.now covered c.«open».ensures.opened

pub returns-clause-worlds : goal.returns-clause-worlds
returns-clause-worlds g c =
    let same = c.loop-seer.invariant.same in
    goes-on g.D.Disk.seen g.D.Disk.unsynced c.args.book c.into_disk-2.result (c.into_disk-2.ensures ∙ ap (λ (b : PlainBook g.row.D.Denot). b.disk) same) (rw same at c.between_calls.ensures.images)
    c.«open».result c.«open».ensures.opened

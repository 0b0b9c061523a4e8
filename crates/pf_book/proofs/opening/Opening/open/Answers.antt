use Rattle.std.specs.Arc.{arc_value}
use Rattle.std.proofs.{Common.{false, sym, ap, subst, ◌∙◌}, lemmas.Result.err_from_is_err_and}
use Rattle.pf_core.specs.{Durable.Changes.PlainDurable, Laws.Durable.IsWithin}
use Rattle.pf_store.specs.Banks.{bank_size}
use Rattle.pf_disk.specs.Runs.{MayWrite}
use Rattle.pf_store.specs.{Openings.IsOfOpening, Stores.Holds, StoreKept.Stands}
use Rattle.pf_store.proofs.Refusing.{held_in_want, one_held}
use Rattle.pf_book.proofs.Openable.{roomy_images}
use Rattle.pf_book.proofs.opening.Opening.open.Goals as goal

pub invariant_of-result : goal.invariant_of-result
invariant_of-result g c =
    let e = c.in_ok-durable.ensures in
    let same = c.in-Ok.ensures.ok in
    let store = c.in_ok-durable.store in
    let disk = store.disk in
    record {
      goes_on = e.fresh;
      stands = subst (λ (k : PlainDurable). Stands g.D.Disk.seen g.D.Disk.unsynced c.in_ok-durable.store k) (sym same) e.stands;
      early = e.early;
      images = λ i image. subst (λ (k : PlainDurable). Holds i k) (sym same) (e.images i image);
      generations = e.generations;
      roomy = roomy_images (g.D.Disk.seen disk) (g.D.Disk.unsynced disk) store.size (arc_value c.in-Ok.durable) (e.size ∙ ap bank_size (sym e.writes.same_size))
          (λ i image k holds. one_held i k _ holds (subst (λ (k : PlainDurable). Holds i k) (sym same) (e.images i image)));
      within = subst IsWithin (sym same) e.within;
      epoch = record { before = e.opened.0; raises = same ∙ e.opened.2; low = e.opened.3 };
    }

pub returns-in-Ok-clause-opened : goal.returns-in-Ok-clause-opened
returns-in-Ok-clause-opened g c =
    let o = c.in_ok-durable.ensures.opened in
    (o.0, o.1, c.in-Ok.ensures.ok ∙ o.2, o.3)

pub returns-in-Ok-clause-generation : goal.returns-in-Ok-clause-generation
returns-in-Ok-clause-generation g c =
    let o = c.in_ok-durable.ensures.opened in
    (o.0, o.1, o.4, o.5)

pub returns-clause-refused : goal.returns-clause-refused
returns-clause-refused g c =
    let o = c.in_ok-durable.ensures.opened in
    held_in_want (g.D.Disk.seen c.args.disk) o.0 o.1 o.5

pub returns-in_err-durable-clause-opened : goal.returns-in_err-durable-clause-opened
returns-in_err-durable-clause-opened g c = let p = err_from_is_err_and c.from_residual.result c.from_residual.ensures.1 in rw (p.1) tt

pub returns-in_err-durable-clause-images : goal.returns-in_err-durable-clause-images
returns-in_err-durable-clause-images g c = let p = err_from_is_err_and c.from_residual.result c.from_residual.ensures.1 in rw (p.1) tt

pub returns-in_err-durable-clause-within : goal.returns-in_err-durable-clause-within
returns-in_err-durable-clause-within g c = let p = err_from_is_err_and c.from_residual.result c.from_residual.ensures.1 in rw (p.1) tt

pub returns-in_err-durable-clause-generation : goal.returns-in_err-durable-clause-generation
returns-in_err-durable-clause-generation g c = let p = err_from_is_err_and c.from_residual.result c.from_residual.ensures.1 in rw (p.1) tt

pub returns-in_err-durable-clause-generations : goal.returns-in_err-durable-clause-generations
returns-in_err-durable-clause-generations g c = let p = err_from_is_err_and c.from_residual.result c.from_residual.ensures.1 in rw (p.1) tt

pub returns-in_err-durable-clause-size : goal.returns-in_err-durable-clause-size
returns-in_err-durable-clause-size g c = let p = err_from_is_err_and c.from_residual.result c.from_residual.ensures.1 in rw (p.1) tt

pub returns-in_err-durable-clause-room : goal.returns-in_err-durable-clause-room
returns-in_err-durable-clause-room g c = let p = err_from_is_err_and c.from_residual.result c.from_residual.ensures.1 in rw (p.1) tt

pub returns-in_err-durable-clause-refused : goal.returns-in_err-durable-clause-refused
returns-in_err-durable-clause-refused g c = let p = err_from_is_err_and c.from_residual.result c.from_residual.ensures.1 in rw (p.1, p.2) c.in_err-durable.ensures.refused

pub returns-in_err-durable-clause-unchanged_at_bad_size : goal.returns-in_err-durable-clause-unchanged_at_bad_size
returns-in_err-durable-clause-unchanged_at_bad_size g c = let p = err_from_is_err_and c.from_residual.result c.from_residual.ensures.1 in rw (p.1, p.2) c.in_err-durable.ensures.unchanged_at_bad_size

pub returns-in_err-durable-clause-untouched : goal.returns-in_err-durable-clause-untouched
returns-in_err-durable-clause-untouched g c = let p = err_from_is_err_and c.from_residual.result c.from_residual.ensures.1 in rw (p.1, p.2) (λ calm memory. c.in_err-durable.ensures.untouched calm)

pub returns-in_err-durable-clause-writes : goal.returns-in_err-durable-clause-writes
returns-in_err-durable-clause-writes g c = let p = err_from_is_err_and c.from_residual.result c.from_residual.ensures.1 in rw (p.1, p.2) c.in_err-durable.ensures.writes

pub returns-clause-writes : goal.returns-clause-writes
returns-clause-writes g c =
    let d = g.D.Disk in
    let old = c.args.disk in
    subst (λ x. MayWrite d old x 15 false (IsOfOpening (d.seen old) (d.unsynced old))) (sym c.into_disk.ensures) c.in_ok-durable.ensures.writes

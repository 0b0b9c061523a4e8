use Rattle.std.proofs.{Common.{◌≡◌, List, map, refl, sym, ap, ◌∙◌, subst, true, false}, lemmas.Result.err_from_is_err_and}
use Rattle.std.specs.{Arc.arc_value, List.list_all}
use Rattle.pf_core.specs.{Durable.Changes.{PlainChange, after}, Nexts.PlainNext, Worlds.is_fault}
use Rattle.pf_store.specs.{Groups.{can_be_wanted, is_group, made_all}, Stores.{FindsRoom, FollowInTurn, HoldsEither}}
use Rattle.pf_book.specs.Books.{BookHasRoom, HasNoRoom, IsMore, IsUnkept, UsesDevice, left_together, world_book}
use Rattle.pf_book.proofs.{Finding.{kept-then, unroomed}, Openable.uses-then}
use Rattle.pf_book.proofs.book.Book.make.Given.{Over}
use Rattle.pf_book.proofs.book.Book.make.Goals.{After-refuse_if_full, After-shared}
use Rattle.pf_book.proofs.book.Book.make.Goals as goal

pub refuse_if_full-requires-clause-left : goal.refuse_if_full-requires-clause-left
refuse_if_full-requires-clause-left g c = ap (λ (r : PlainNext). r.durable) c.requires.left_is ∙ ap (after c.args.self.now.whole.durable) (sym c.changes.ensures)

pub refuse_if_full-requires-clause-group : goal.refuse_if_full-requires-clause-group
refuse_if_full-requires-clause-group g c = subst (λ (es : List PlainChange). is_group es ≡ true) (sym c.changes.ensures) c.requires.group

pub refuse_if_full-requires-clause-wanted : goal.refuse_if_full-requires-clause-wanted
refuse_if_full-requires-clause-wanted g c = subst (λ (es : List PlainChange). list_all can_be_wanted es ≡ true) (sym c.changes.ensures) c.requires.wanted

pub refuse_if_full-requires-clause-free : goal.refuse_if_full-requires-clause-free
refuse_if_full-requires-clause-free g c = c.requires.none

-- no call of the device was made so far
quiet : (g : Over) (c : After-refuse_if_full g) → UsesDevice g.D.Disk false c.args.self.now c.args.self.now (HoldsEither c.args.self.now.whole.durable (after c.args.self.now.whole.durable (g.C.ChangeGroup.items c.args.changes)))
quiet g c =
    let now = c.args.self.now in
    subst (λ (es : List PlainChange). UsesDevice g.D.Disk false now now (HoldsEither now.whole.durable (after now.whole.durable es))) c.changes.ensures c.refuse_if_full.ensures.device

pub returns-in_err-refuse_if_full-clause-kept : goal.returns-in_err-refuse_if_full-clause-kept
returns-in_err-refuse_if_full-clause-kept g c =
    let why = c.in_err-refuse_if_full.field-0.0 in
    let now = c.args.self.now in
    let p = err_from_is_err_and c.from_residual.result c.from_residual.ensures.1 in
    rw (p.1, p.2) (unroomed now why (g.C.ChangeGroup.items c.args.changes) (subst (HasNoRoom why (world_book now)) c.changes.ensures c.in_err-refuse_if_full.ensures.err) (quiet g (goal.at.returns-in_err-refuse_if_full-clause-kept g c).After-refuse_if_full))

pub returns-in_err-refuse_if_full-clause-given : goal.returns-in_err-refuse_if_full-clause-given
returns-in_err-refuse_if_full-clause-given g c = let p = err_from_is_err_and c.from_residual.result c.from_residual.ensures.1 in rw (p.1) tt

pub returns-in_err-given-clause-kept : goal.returns-in_err-given-clause-kept
returns-in_err-given-clause-kept g c =
    let p = err_from_is_err_and c.from_residual-in_err-given.result c.from_residual-in_err-given.ensures.1 in
    rw (p.1, p.2) (record {
      kept = (refl, subst (BookHasRoom (world_book c.args.self.now)) c.changes.ensures c.in_ok-refuse_if_full.ensures.ok);
      uses = quiet g (goal.at.returns-in_err-given-clause-kept g c).After-refuse_if_full;
      still = λ why is calm. refl;
    })

pub returns-in_err-given-clause-given : goal.returns-in_err-given-clause-given
returns-in_err-given-clause-given g c = let p = err_from_is_err_and c.from_residual-in_err-given.result c.from_residual-in_err-given.ensures.1 in rw (p.1) tt

-- what is saved are the changes
shared : (g : Over) (c : After-shared g) → map arc_value c.shared.result.now ≡ g.C.ChangeGroup.items c.args.changes
shared g c = c.shared.ensures ∙ c.in_ok-given.ensures

pub save-requires-clause-made : goal.save-requires-clause-made
save-requires-clause-made g c = c.requires.left_is ∙ ap (left_together c.args.self.now.whole.durable) (sym (shared g (goal.at.save-requires-clause-made g c).After-shared))

pub save-requires-clause-fit : goal.save-requires-clause-fit
save-requires-clause-fit g c = subst (λ (es : List PlainChange). FollowInTurn c.args.self.now.whole.durable (made_all es)) (sym (shared g (goal.at.save-requires-clause-fit g c).After-shared)) c.requires.fit

pub save-requires-clause-room : goal.save-requires-clause-room
save-requires-clause-room g c = subst (BookHasRoom (world_book c.args.self.now)) (c.changes.ensures ∙ sym (shared g (goal.at.save-requires-clause-room g c).After-shared)) c.in_ok-refuse_if_full.ensures.ok

pub save-requires-clause-found : goal.save-requires-clause-found
save-requires-clause-found g c =
    let l = c.args.self.now in
    subst (FindsRoom l.size l.whole.durable c.args.next.durable) (c.changes.ensures ∙ sym (shared g (goal.at.save-requires-clause-found g c).After-shared)) c.in_ok-refuse_if_full.ensures.found

pub save-requires-clause-free : goal.save-requires-clause-free
save-requires-clause-free g c = c.requires.none

pub returns-in_err-save-clause-kept : goal.returns-in_err-save-clause-kept
returns-in_err-save-clause-kept g c =
    let old = c.args.self.now in
    let new = c.save.new.self in
    let why = c.in_err-save.field-0.0 in
    let these = shared g (goal.at.returns-in_err-save-clause-kept g c).After-shared in
    let p = err_from_is_err_and c.from_residual-in_err-save.result c.from_residual-in_err-save.ensures.1 in
    rw (p.1, p.2) (record {
      kept = subst (IsUnkept why (world_book old) (world_book new)) these c.in_err-save.ensures.err;
      uses = subst (λ (es : List PlainChange). UsesDevice g.D.Disk (is_fault why) old new (HoldsEither old.whole.durable (after old.whole.durable es))) these c.in_err-save.ensures.device;
      still = λ x is calm. let same : why ≡ x = cc (is) in c.in_err-save.ensures.still (ap is_fault same ∙ calm);
    })

pub returns-in_err-save-clause-given : goal.returns-in_err-save-clause-given
returns-in_err-save-clause-given g c = let p = err_from_is_err_and c.from_residual-in_err-save.result c.from_residual-in_err-save.ensures.1 in rw (p.1) tt

pub returns-clause-kept : goal.returns-clause-kept
returns-clause-kept g c =
    let old = c.args.self.now in
    let mid = c.save.new.self in
    let f = c.show_all-shown.ensures in
    let these = shared g (goal.at.returns-clause-kept g c).After-shared in
    record {
      kept = kept-then c.show_all-shown.result (world_book old) (world_book mid) (world_book c.show_all-shown.new.self) (g.C.ChangeGroup.items c.args.changes) (subst (IsMore (world_book old) (world_book mid)) these c.in_ok-save.ensures.ok) f.shown;
      uses = uses-then c.show_all-shown.new.self (subst (λ (es : List PlainChange). UsesDevice g.D.Disk false old mid (HoldsEither old.whole.durable (after old.whole.durable es))) these c.in_ok-save.ensures.device) f.device f.generation f.size;
      still = λ why is. absurd (cc (is));
    }

pub returns-clause-given : goal.returns-clause-given
returns-clause-given g c = c.in_ok-given.ensures

use Rattle.std.proofs.lemmas.Result.{err_from_is_err_and}
use Rattle.std.proofs.Common.{inl, inr, ap, ◌∙◌, ◌≡◌, ◌<◌, [], ◌∷◌, ◌++◌, List, All, sym, subst}
use Rattle.pf_core.specs.{Durable.Changes.PlainDurable, WorldBooks.{IsAt, StandsFor}, Worlds.{Event, begun, opened, raised, last_epoch, down, state_after, IsWorld}}
use Rattle.pf_view.specs.Seers.{JudgesBy, TableId}
use Rattle.pf_book.specs.Books.{IsNamed, PlainOpening, setting_of, world_book}
use Rattle.pf_book.proofs.book.Book+D+J+Shower+J+R.of.Goals as goal

pub returns-in_ok-book-in-Ok-clause-copies : goal.returns-in_ok-book-in-Ok-clause-copies
returns-in_ok-book-in-Ok-clause-copies g c =
    subst (λ (copies : TableId). All (JudgesBy copies) c.in-Ok.all.items) (sym c.in_ok-book-in-Ok.ensures.copies) c.in-Ok.ensures.copies

-- the Book is over the opening under its name, which is the opening
pub returns-in_ok-book-in-Ok-clause-worlds : goal.returns-in_ok-book-in-Ok-clause-worlds
returns-in_ok-book-in-Ok-clause-worlds g c =
    let stands : PlainOpening g.row.D.Denot → Type 0 =
    λ o. (first d : PlainDurable) (world : List Event) → IsWorld first world → state_after (down first) world ≡ down d → d.epoch < last_epoch → o.given ≡ raised d
    → StandsFor first (world_book c.in_ok-book-in-Ok.book) (world ++ opened (setting_of o c.args.history_limit) ∷ []) in
    subst stands c.in_ok-named.ensures.same c.in_ok-book-in-Ok.ensures.worlds

pub named-requires-clause-base : goal.named-requires-clause-base
named-requires-clause-base g c = c.requires.name.0

pub named-requires-clause-history : goal.named-requires-clause-history
named-requires-clause-history g c = c.requires.name.1

pub returns-in_err-named-clause-at : goal.returns-in_err-named-clause-at
returns-in_err-named-clause-at g c = let p = err_from_is_err_and c.from_residual.result c.from_residual.ensures.1 in rw (p.1) tt

pub returns-in_err-named-clause-device : goal.returns-in_err-named-clause-device
returns-in_err-named-clause-device g c = let p = err_from_is_err_and c.from_residual.result c.from_residual.ensures.1 in rw (p.1) tt

pub returns-in_err-named-clause-size : goal.returns-in_err-named-clause-size
returns-in_err-named-clause-size g c = let p = err_from_is_err_and c.from_residual.result c.from_residual.ensures.1 in rw (p.1) tt

pub returns-in_err-named-clause-generation : goal.returns-in_err-named-clause-generation
returns-in_err-named-clause-generation g c = let p = err_from_is_err_and c.from_residual.result c.from_residual.ensures.1 in rw (p.1) tt

pub returns-in_err-named-clause-seers : goal.returns-in_err-named-clause-seers
returns-in_err-named-clause-seers g c = let p = err_from_is_err_and c.from_residual.result c.from_residual.ensures.1 in rw (p.1) tt

pub returns-in_err-named-clause-copies : goal.returns-in_err-named-clause-copies
returns-in_err-named-clause-copies g c = let p = err_from_is_err_and c.from_residual.result c.from_residual.ensures.1 in rw (p.1) tt

pub returns-in_err-named-clause-worlds : goal.returns-in_err-named-clause-worlds
returns-in_err-named-clause-worlds g c = let p = err_from_is_err_and c.from_residual.result c.from_residual.ensures.1 in rw (p.1) tt

pub returns-in_err-named-clause-reached : goal.returns-in_err-named-clause-reached
returns-in_err-named-clause-reached g c = let p = err_from_is_err_and c.from_residual.result c.from_residual.ensures.1 in rw (p.1) tt

pub returns-in_err-named-clause-folded : goal.returns-in_err-named-clause-folded
returns-in_err-named-clause-folded g c = let p = err_from_is_err_and c.from_residual.result c.from_residual.ensures.1 in rw (p.1) tt

pub returns-in_err-named-clause-device_err : goal.returns-in_err-named-clause-device_err
returns-in_err-named-clause-device_err g c = let p = err_from_is_err_and c.from_residual.result c.from_residual.ensures.1 in rw (p.1, p.2) c.in_err-named.ensures.device_err

pub returns-in_err-named-clause-refused : goal.returns-in_err-named-clause-refused
returns-in_err-named-clause-refused g c = let p = err_from_is_err_and c.from_residual.result c.from_residual.ensures.1 in rw (p.1, p.2) (inr c.in_err-named.ensures.refused)

pub views-requires-clause-base : goal.views-requires-clause-base
views-requires-clause-base g c = c.base.ensures.named

pub views-requires-clause-start : goal.views-requires-clause-start
views-requires-clause-start g c = c.start.ensures

pub views-requires-clause-seers : goal.views-requires-clause-seers
views-requires-clause-seers g c = c.requires.seers

pub over-requires-clause-name : goal.over-requires-clause-name
over-requires-clause-name g c = subst (λ (o : PlainOpening g.row.D.Denot). IsNamed g.J.Naming.base g.J.Naming.history g.J.Chapter.setting o c.args.history_limit) (sym c.in_ok-named.ensures.same) c.requires.name

pub over-requires-clause-low : goal.over-requires-clause-low
over-requires-clause-low g c = c.requires.low

pub over-requires-clause-high : goal.over-requires-clause-high
over-requires-clause-high g c = c.requires.high

pub over-requires-clause-new : goal.over-requires-clause-new
over-requires-clause-new g c = c.in-Ok.ensures.shower

pub returns-in_err-book-in-Ok-clause-at : goal.returns-in_err-book-in-Ok-clause-at
returns-in_err-book-in-Ok-clause-at g c = let p = err_from_is_err_and c.from_residual-in_err-book-in-Ok.result c.from_residual-in_err-book-in-Ok.ensures.1 in rw (p.1) tt

pub returns-in_err-book-in-Ok-clause-device : goal.returns-in_err-book-in-Ok-clause-device
returns-in_err-book-in-Ok-clause-device g c = let p = err_from_is_err_and c.from_residual-in_err-book-in-Ok.result c.from_residual-in_err-book-in-Ok.ensures.1 in rw (p.1) tt

pub returns-in_err-book-in-Ok-clause-size : goal.returns-in_err-book-in-Ok-clause-size
returns-in_err-book-in-Ok-clause-size g c = let p = err_from_is_err_and c.from_residual-in_err-book-in-Ok.result c.from_residual-in_err-book-in-Ok.ensures.1 in rw (p.1) tt

pub returns-in_err-book-in-Ok-clause-generation : goal.returns-in_err-book-in-Ok-clause-generation
returns-in_err-book-in-Ok-clause-generation g c = let p = err_from_is_err_and c.from_residual-in_err-book-in-Ok.result c.from_residual-in_err-book-in-Ok.ensures.1 in rw (p.1) tt

pub returns-in_err-book-in-Ok-clause-seers : goal.returns-in_err-book-in-Ok-clause-seers
returns-in_err-book-in-Ok-clause-seers g c = let p = err_from_is_err_and c.from_residual-in_err-book-in-Ok.result c.from_residual-in_err-book-in-Ok.ensures.1 in rw (p.1) tt

pub returns-in_err-book-in-Ok-clause-copies : goal.returns-in_err-book-in-Ok-clause-copies
returns-in_err-book-in-Ok-clause-copies g c = let p = err_from_is_err_and c.from_residual-in_err-book-in-Ok.result c.from_residual-in_err-book-in-Ok.ensures.1 in rw (p.1) tt

pub returns-in_err-book-in-Ok-clause-worlds : goal.returns-in_err-book-in-Ok-clause-worlds
returns-in_err-book-in-Ok-clause-worlds g c = let p = err_from_is_err_and c.from_residual-in_err-book-in-Ok.result c.from_residual-in_err-book-in-Ok.ensures.1 in rw (p.1) tt

pub returns-in_err-book-in-Ok-clause-reached : goal.returns-in_err-book-in-Ok-clause-reached
returns-in_err-book-in-Ok-clause-reached g c = let p = err_from_is_err_and c.from_residual-in_err-book-in-Ok.result c.from_residual-in_err-book-in-Ok.ensures.1 in rw (p.1) tt

pub returns-in_err-book-in-Ok-clause-folded : goal.returns-in_err-book-in-Ok-clause-folded
returns-in_err-book-in-Ok-clause-folded g c = let p = err_from_is_err_and c.from_residual-in_err-book-in-Ok.result c.from_residual-in_err-book-in-Ok.ensures.1 in rw (p.1) tt

pub returns-in_err-book-in-Ok-clause-device_err : goal.returns-in_err-book-in-Ok-clause-device_err
returns-in_err-book-in-Ok-clause-device_err g c = let p = err_from_is_err_and c.from_residual-in_err-book-in-Ok.result c.from_residual-in_err-book-in-Ok.ensures.1 in rw (p.1, p.2) (c.in_err-book-in-Ok.ensures.device_err ∙ ap (λ (o : PlainOpening g.row.D.Denot). o.disk) c.in_ok-named.ensures.same)

pub returns-in_err-book-in-Ok-clause-refused : goal.returns-in_err-book-in-Ok-clause-refused
returns-in_err-book-in-Ok-clause-refused g c = let p = err_from_is_err_and c.from_residual-in_err-book-in-Ok.result c.from_residual-in_err-book-in-Ok.ensures.1 in rw (p.1, p.2) (inl c.in_err-book-in-Ok.ensures.refused)

pub returns-in_ok-book-in-Ok-clause-at : goal.returns-in_ok-book-in-Ok-clause-at
returns-in_ok-book-in-Ok-clause-at g c = subst (λ (o : PlainOpening g.row.D.Denot). IsAt (begun (setting_of o c.args.history_limit) o.given) (world_book c.in_ok-book-in-Ok.book)) c.in_ok-named.ensures.same c.in_ok-book-in-Ok.ensures.at

pub returns-in_ok-book-in-Ok-clause-device : goal.returns-in_ok-book-in-Ok-clause-device
returns-in_ok-book-in-Ok-clause-device g c = c.in_ok-book-in-Ok.ensures.device ∙ ap (λ (o : PlainOpening g.row.D.Denot). o.disk) c.in_ok-named.ensures.same

pub returns-in_ok-book-in-Ok-clause-size : goal.returns-in_ok-book-in-Ok-clause-size
returns-in_ok-book-in-Ok-clause-size g c = c.in_ok-book-in-Ok.ensures.size ∙ ap (λ (o : PlainOpening g.row.D.Denot). o.size) c.in_ok-named.ensures.same

pub returns-in_ok-book-in-Ok-clause-generation : goal.returns-in_ok-book-in-Ok-clause-generation
returns-in_ok-book-in-Ok-clause-generation g c = c.in_ok-book-in-Ok.ensures.generation ∙ ap (λ (o : PlainOpening g.row.D.Denot). o.generation) c.in_ok-named.ensures.same

pub returns-in_ok-book-in-Ok-clause-reached : goal.returns-in_ok-book-in-Ok-clause-reached
returns-in_ok-book-in-Ok-clause-reached g c = c.in_ok-book-in-Ok.ensures.reached

pub returns-in_ok-book-in-Ok-clause-folded : goal.returns-in_ok-book-in-Ok-clause-folded
returns-in_ok-book-in-Ok-clause-folded g c = c.in_ok-book-in-Ok.ensures.folded

pub returns-in-Err-clause-device_err : goal.returns-in-Err-clause-device_err
returns-in-Err-clause-device_err g c = c.into_disk.ensures ∙ ap (λ (o : PlainOpening g.row.D.Denot). o.disk) c.in_ok-named.ensures.same

pub returns-in-Err-clause-refused : goal.returns-in-Err-clause-refused
returns-in-Err-clause-refused g c = c.unshown.ensures

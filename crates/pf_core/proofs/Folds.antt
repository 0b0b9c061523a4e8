-- What an opening gives is the fold of all that was kept before it.
use Rattle.std.proofs.{Common.{◌≡◌, ℕ, true, false, List, [], ◌∷◌, refl, sym, ap, ◌∙◌}, lemmas.List.Sums.fold-append}
use Rattle.pf_core.specs.{Durable.Changes.{in_epoch, PlainDurable, PlainChange, commits, adds, deletes, sets, acts, removes, expires, applied, after}, History.{base_of, kept_by, earlier}, Laws.Openings.{IsButForEpoch, GivesTheFold}, Worlds.{State, up, down, Event, called, called_group, entered, learned, crashed, opened, refused_opening, flat, next, state_after}}
use Rattle.pf_core.proofs.Prefixes.{flat-append}

applied-in_epoch : (e : ℕ) (d : PlainDurable) (x : PlainChange) → applied (in_epoch e d) x ≡ in_epoch e (applied d x)
applied-in_epoch e d (commits items) = refl
applied-in_epoch e d (adds p name xs) = refl
applied-in_epoch e d (deletes p name xs) = refl
applied-in_epoch e d (sets p name xs) = refl
applied-in_epoch e d (acts steps) = refl
applied-in_epoch e d (removes name) = refl
applied-in_epoch e d (expires tick) = refl

after-in_epoch : (e : ℕ) (d : PlainDurable) (xs : List PlainChange) → after (in_epoch e d) xs ≡ in_epoch e (after d xs)
after-in_epoch e d [] = refl
after-in_epoch e d (x ∷ xs) = ap (λ (k : PlainDurable). after k xs) (applied-in_epoch e d x) ∙ after-in_epoch e (applied d x) xs

-- no change changes the epoch
pub after-epoch : (d : PlainDurable) (xs : List PlainChange) → (after d xs).epoch ≡ d.epoch
after-epoch d xs = ap (λ (k : PlainDurable). k.epoch) (after-in_epoch d.epoch d xs)

-- one event
base-step : (st : State) (ev : Event) → IsButForEpoch (base_of (next st ev)) (after (base_of st) (flat (kept_by st ev)))
base-step (up h) (called c t) = refl
base-step (up h) (called_group cs result t) = refl
base-step (up h) (entered w n) = refl
base-step (up h) (learned w n) = refl
base-step (up h) (crashed doing n) = refl
base-step (up h) (opened setting) = refl
base-step (up h) (refused_opening rose) = refl
base-step (down d) (called c t) = refl
base-step (down d) (called_group cs result t) = refl
base-step (down d) (entered w n) = refl
base-step (down d) (learned w n) = refl
base-step (down d) (crashed doing n) = refl
base-step (down d) (opened setting) = refl
base-step (down d) (refused_opening true) = refl
base-step (down d) (refused_opening false) = refl

pub fold-law : (st : State) (world : List Event) → IsButForEpoch (base_of (state_after st world)) (after (base_of st) (flat (earlier st world)))
fold-law st [] = refl
fold-law st (ev ∷ evs) =
    let base : PlainDurable = base_of st in
    let here : List PlainChange = flat (kept_by st ev) in
    let rest : List PlainChange = flat (earlier (next st ev) evs) in
    let mid : PlainDurable = base_of (next st ev) in
    let end : PlainDurable = base_of (state_after (next st ev) evs) in
    let on : end ≡ in_epoch end.epoch (after mid rest) = fold-law (next st ev) evs in
    let one : mid ≡ in_epoch mid.epoch (after base here) = base-step st ev in
    on ∙ ap (in_epoch end.epoch) (ap (λ (k : PlainDurable). after k rest) one ∙ after-in_epoch mid.epoch (after base here) rest)
    ∙ ap (in_epoch end.epoch) (sym (fold-append applied base here rest) ∙ ap (after base) (sym (flat-append (kept_by st ev) (earlier (next st ev) evs))))

pub gives_the_fold : GivesTheFold
gives_the_fold first world legal = fold-law (down first) world

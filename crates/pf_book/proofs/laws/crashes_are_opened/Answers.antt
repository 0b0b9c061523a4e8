use Rattle.std.proofs.Common.{◌≡◌, [], ◌∷◌, ◌++◌, refl, subst}
use Rattle.pf_core.specs.{Durable.Changes.PlainDurable, Laws.Openings.Leaves, Worlds.{begun, crashed, down, opened, raised}}
use Rattle.pf_core.proofs.LongerWorlds.{crashes_are_events, stands-by}
use Rattle.pf_store.proofs.Refusing.{one_held}
use Rattle.pf_book.proofs.laws.crashes_are_opened.Goals as goal

pub returns : goal.returns
returns g first world h doing image d setting b legal comes left holds low at folded =
    let same : left.0 ≡ d = one_held image left.0 d left.1 holds in
    let held = crashes_are_events first world h doing d legal comes (subst (λ (k : PlainDurable). Leaves h doing k) same left.2) in
    (held.0, stands-by first b (world ++ crashed doing held.0 ∷ []) (opened setting) (down d) (begun setting (raised d)) held.1 held.2 low refl at folded)

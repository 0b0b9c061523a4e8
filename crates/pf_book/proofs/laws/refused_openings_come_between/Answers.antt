use Rattle.std.proofs.Common.{◌≡◌, [], ◌∷◌, ◌++◌, refl, subst}
use Rattle.pf_core.specs.{Durable.Changes.PlainDurable, Laws.Openings.Leaves, Worlds.{begun, crashed, down, opened, raised, refused_opening}}
use Rattle.pf_core.proofs.LongerWorlds.{crashes_are_events, stands-by}
use Rattle.pf_store.proofs.{Refusing.one_held, Refusals.{refusal_event, world_on}}
use Rattle.pf_book.proofs.laws.refused_openings_come_between.Goals as goal

pub returns-clause-held : goal.returns-clause-held
returns-clause-held g first world h doing seen image unsynced d legal comes leaves is held =
    let it = refusal_event seen image unsynced d is held in
    let left = leaves it.image it.start in
    let same : left.0 ≡ it.before = one_held it.image left.0 it.before left.1 it.held in
    let crash = crashes_are_events first world h doing it.before legal comes (subst (λ (k : PlainDurable). Leaves h doing k) same left.2) in
    let on = world_on first (world ++ crashed doing crash.0 ∷ []) (down it.before) (down d) (refused_opening it.rose) crash.1 crash.2 it.legal it.leaves in
    (crash.0, it.rose, on.0, on.1)

pub returns-clause-opened : goal.returns-clause-opened
returns-clause-opened g first world h doing seen image unsynced d setting b legal comes leaves is held low at folded =
    let it = refusal_event seen image unsynced d is held in
    let left = leaves it.image it.start in
    let same : left.0 ≡ it.before = one_held it.image left.0 it.before left.1 it.held in
    let crash = crashes_are_events first world h doing it.before legal comes (subst (λ (k : PlainDurable). Leaves h doing k) same left.2) in
    let on = world_on first (world ++ crashed doing crash.0 ∷ []) (down it.before) (down d) (refused_opening it.rose) crash.1 crash.2 it.legal it.leaves in
    (crash.0, it.rose, stands-by first b ((world ++ crashed doing crash.0 ∷ []) ++ refused_opening it.rose ∷ []) (opened setting) (down d) (begun setting (raised d)) on.0 on.1 low refl at folded)

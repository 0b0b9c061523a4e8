-- What an opening gives, in one piece.
use Rattle.std.proofs.Common.{◌≡◌, List, [], ◌∷◌, ◌++◌, refl, sym, ap, ◌∙◌, subst}
use Rattle.pf_core.specs.{Durable.Changes.{PlainChange, after}, History.{base_of, kept_by, earlier, history}, Laws.Openings.{IsButForEpoch, GivesAllThatWasKept}, Worlds.{Setting, State, up, down, Event, opened, flat, next, IsLegal, state_after}}
use Rattle.pf_core.proofs.{Folds.fold-law, Groups.{history-first, acknowledged-front, among-from}, LongerWorlds.{in-two}}

-- between two openings all that was kept is of earlier ones
before-opening : (st : State) (world : List Event) (setting : Setting) → IsLegal (state_after st world) (opened setting) → earlier st (world ++ opened setting ∷ []) ≡ history st world
before-opening (up h) [] setting legal = absurd legal
before-opening (down d) [] setting legal = refl
before-opening st (ev ∷ evs) setting legal = ap (λ (l : List (List PlainChange)). kept_by st ev ++ l) (before-opening (next st ev) evs setting legal) ∙ sym (history-first st ev evs)

pub gives_all : GivesAllThatWasKept
gives_all first world later setting legal =
    let all : List Event = world ++ later in
    let here : IsLegal (state_after (down first) all) (opened setting) = (in-two (down first) all (opened setting) [] legal).here in
    record {
      fold = subst (λ (l : List (List PlainChange)). IsButForEpoch (base_of (state_after (down first) (all ++ opened setting ∷ []))) (after first (flat l))) (before-opening (down first) all setting here) (fold-law (down first) (all ++ opened setting ∷ []));
      whole = among-from (down first) all;
      acknowledged = acknowledged-front (down first) world later;
    }

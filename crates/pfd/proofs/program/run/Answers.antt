use Rattle.std.proofs.Common.{ℕ, [], ◌∷◌, inl, inr, lit<, refl, subst}
use Rattle.pf_core.specs.{Durable.Changes.kept_nothing, WorldBooks.StandsFor, Worlds.opened}
use Rattle.pf_store.specs.Rooms.{on_device}
use Rattle.pf_book.specs.Books.{world_book}
use Rattle.pfd_files.specs.Faults.{fault_of_opening}
use Rattle.pfd.proofs.Begun.{unshown-hinders}
use Rattle.pfd.proofs.program.run.Goals as goal

pub returns : goal.returns
returns g c =
    let size_is = c.in_ok-opening.ensures.size in
    elim c.run_alone.ensures [
      | inl (session, is_end, began) ↦ inl (
        session,
        is_end,
        record {
          size_is = size_is;
          old = began.old;
          new = began.new;
          fresh = subst (λ (k : ℕ). StandsFor (kept_nothing 0) (world_book began.old) (opened (on_device c.args.history k) ∷ [])) c.in_ok-opening.ensures.half
              (began.worlds (kept_nothing 0) (kept_nothing 0) [] tt refl (lit< tt) c.in_ok-opening.ensures.given);
          session = began.session;
        },
      )
      | inr (fault, unshown, is_end, unread_still, held_still) ↦ inr (fault_of_opening fault, is_end, unshown-hinders c.args.size fault size_is unshown, unread_still, held_still)
    ]

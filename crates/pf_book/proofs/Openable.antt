-- What a later opening needs, and how calls keep it.
use Rattle.std.proofs.Common.{◌≡◌, ◌⊎◌, inl, inr, ℕ, ◌^◌, ◌<◌, ◌≤◌, Bool, false, List, length, refl, sym, ap, ◌∙◌, subst, arith}
use Rattle.pf_disk.specs.{Disk.IsImage, Runs.MayWrite, declared.disk.Disk.Ghosts}
use Rattle.pf_disk.proofs.Writing.{weakened}
use Rattle.pf_core.specs.{Durable.Changes.PlainDurable, Worlds.last_epoch}
use Rattle.pf_store.specs.Banks.{bank_size}
use Rattle.pf_store.specs.{Openings.{IsNoLaterThan, IsUnopened, LeavesRoom}, Stores.{Holds, IsRoomy}}
use Rattle.pf_store.specs.declared.store.fault.{OpenFault.OpenFault, OpenFault.TheVariants.{BadSize, NoBank, Corrupt, Memory, Fault, EpochsExhausted, Full, Places}}
use Rattle.pf_store.proofs.Refusing.{held_is_found, roomy_is_not_full}
use Rattle.pf_book.specs.Books.{IsOfCall, PlainBook, UsesDevice}

pub later : (g h : ℕ) → g ≤ h → (c : List ℕ) → IsNoLaterThan g c → IsNoLaterThan h c
later g h le c is d held = omega (arith, is d held, le)

-- if each image holds only `d`, which leaves room on the device, each image leaves room: it is as long as the device
pub roomy_images : (seen : List ℕ) (unsynced : ℕ → Bool) (size : ℕ) (d : PlainDurable) → size ≡ bank_size (length seen)
    → ((c : List ℕ) → IsImage seen unsynced c → (e : PlainDurable) → Holds c e → e ≡ d) → IsRoomy size d → (c : List ℕ) → IsImage seen unsynced c → LeavesRoom c
roomy_images seen unsynced size d is one roomy c image e holds =
    subst (λ (n : ℕ). IsRoomy n e) (is ∙ ap bank_size (sym image.same_length)) (subst (λ (k : PlainDurable). IsRoomy size k) (sym (one c image e holds)) roomy)

-- an image that holds something, with an early generation and with room, is refused by chance alone or for its epoch
pub left_by_chance : (image : List ℕ) (g : ℕ) (fault : OpenFault) (d : PlainDurable) (held : Holds image d) → IsNoLaterThan g image → g < 2 ^ 63 → LeavesRoom image → IsUnopened fault image
    → (fault ≡ Memory) ⊎ ((fault ≡ Fault) ⊎ ((fault ≡ EpochsExhausted) × (k : PlainDurable) × Holds image k × (k.epoch ≡ last_epoch)))
left_by_chance image g BadSize d held is low room refused = absurd (held_is_found image BadSize d held (omega (arith, is d held, low)) refused tt)
left_by_chance image g NoBank d held is low room refused = absurd (held_is_found image NoBank d held (omega (arith, is d held, low)) refused tt)
left_by_chance image g (Corrupt at) d held is low room refused = absurd (held_is_found image (Corrupt at) d held (omega (arith, is d held, low)) refused tt)
left_by_chance image g Memory d held is low room refused = inl refl
left_by_chance image g Fault d held is low room refused = inr (inl refl)
left_by_chance image g EpochsExhausted d held is low room refused = inr (inr (refl, refused.0, refused.1, refused.3))
left_by_chance image g Full d held is low room refused = absurd (roomy_is_not_full image refused.0
    (room refused.0 refused.1.held) refused.1)
left_by_chance image g Places d held is low room refused = absurd refused

-- ---- what a call leaves of the device

module _ {D : Type 0} {device : Ghosts D} {old new : PlainBook D} where
  -- the same, said in another layer's words
  pub uses-as : {failed : Bool} {P Q : List ℕ → Type 0} → UsesDevice device failed old new P → ((c : List ℕ) → P c → Q c) → UsesDevice device failed old new Q
  uses-as {Q = Q} uses tells = record {
    run = weakened {Q = IsOfCall old Q} uses.run (λ c it. record { holds = tells c it.holds; early = it.early; roomy = it.roomy });
    stays = uses.stays;
    one_more = uses.one_more;
    size = uses.size;
  }

  -- whether a call of it failed, by what is known of that
  pub uses-reported : {failed was : Bool} {P : List ℕ → Type 0} → failed ≡ was → UsesDevice device was old new P → UsesDevice device failed old new P
  uses-reported {P = P} is uses = subst (λ (f : Bool). UsesDevice device f old new P) (sym is) uses

  -- no call of it was made after all
  pub uses-still : {failed : Bool} {P Q : List ℕ → Type 0} → UsesDevice device failed old new P → new.disk ≡ old.disk → UsesDevice device false old old Q → UsesDevice device false old new Q
  uses-still {Q = Q} uses disk quiet = record {
    run = subst (λ (d : D). MayWrite device old.disk d 10 false (IsOfCall old Q)) (sym disk) quiet.run;
    stays = uses.stays;
    one_more = uses.one_more;
    size = uses.size;
  }

module _ {D : Type 0} {device : Ghosts D} where
  -- nor was any after another call
  pub uses-then : {failed : Bool} {P : List ℕ → Type 0} {old mid : PlainBook D} (new : PlainBook D) → UsesDevice device failed old mid P → new.disk ≡ mid.disk → new.generation ≡ mid.generation → new.size ≡ mid.size
      → UsesDevice device failed old new P
  uses-then {failed = failed} {P = P} {old = old} new uses disk generation size = record {
    run = subst (λ (d : D). MayWrite device old.disk d 10 failed (IsOfCall old P)) (sym disk) uses.run;
    stays = omega (arith, uses.stays, generation);
    one_more = omega (arith, uses.one_more, generation);
    size = size ∙ uses.size;
  }

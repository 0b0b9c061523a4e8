-- What keeps a fresh disk from being opened.
use Rattle.std.proofs.{Common.{◌≡◌, ◌∙◌, inl, inr, sym, ℕ, ◌+◌, ◌≤◌, Bool, List, length, ap, arith, refl, subst}, lemmas.Nat.le-div}
use Rattle.pf_core.specs.{Durable.Changes.{PlainDurable, kept_nothing}, Worlds.raised}
use Rattle.pf_store.specs.{Banks.{IsSize, bank_size}, Openings.{IsFull, IsUnopened, generation_of}, Stores.Holds}
use Rattle.pf_store.specs.declared.{store.fault.OpenFault.OpenFault, store.fault.OpenFault.TheVariants.{BadSize, NoBank, Corrupt, Memory, Fault, EpochsExhausted, Full, Places}}
use Rattle.pf_store.proofs.{Refusing.{held_is_found, one_held, roomy_is_not_full}, Sized.{nothing_long}}
use Rattle.pf_disk.specs.Disk.{IsImage}
use Rattle.pfd_files.specs.Faults.{fault_of_opening}
use Rattle.pf_book.specs.Books.{IsUnshown}
use Rattle.pfd.specs.Program.{Hinders}

-- what a device reads as is an image of it
pub own-image : (seen : List ℕ) (unsynced : ℕ → Bool) → IsImage seen unsynced seen
own-image seen unsynced = record { same_length = refl; agrees = λ i synced. refl }

-- half of a disk is large enough for an opening's record
roomy : (size : ℕ) → IsSize size → 128 ≤ bank_size size
roomy size is = le-div 128 size 2 (omega arith) (omega (arith, is.least))

-- a fresh disk, by its bytes and by the generation of the bank that counts
module _ (seen : List ℕ) (size : ℕ) (is : IsSize size) (same : length seen ≡ size) (held : Holds seen (kept_nothing 0)) (first : generation_of seen (kept_nothing 0) held ≡ 1) where
  pub unopened-hinders : (e : OpenFault) → IsUnopened e seen → Hinders size (fault_of_opening e)
  unopened-hinders BadSize why = absurd (held_is_found seen BadSize (kept_nothing 0) held (omega (arith, first)) why tt)
  unopened-hinders NoBank why = absurd (held_is_found seen NoBank (kept_nothing 0) held (omega (arith, first)) why tt)
  unopened-hinders (Corrupt at) why = absurd (held_is_found seen (Corrupt at) (kept_nothing 0) held (omega (arith, first)) why tt)
  unopened-hinders Memory why = is
  unopened-hinders Fault why = is
  unopened-hinders EpochsExhausted (d, other, early, last) = absurd (omega (arith, ap (λ (k : PlainDurable). k.epoch) (one_held seen d (kept_nothing 0) other held), last))
  unopened-hinders Full (d, full) =
      absurd (roomy_is_not_full seen (kept_nothing 0) (omega (arith, roomy size is, ap bank_size same, nothing_long 0)) (subst (IsFull seen) (one_held seen d (kept_nothing 0) full.held held) full))
  unopened-hinders Places why = absurd why

pub unshown-hinders : (size : ℕ) (e : OpenFault) → IsSize size → IsUnshown e → Hinders size (fault_of_opening e)
unshown-hinders size e is (inl memory) = subst (λ (f : OpenFault). Hinders size (fault_of_opening f)) (sym memory) is
unshown-hinders size e is (inr places) = subst (λ (f : OpenFault). Hinders size (fault_of_opening f)) (sym places) is

-- what an opening gave of a disk that holds nothing
pub given-is : (seen : List ℕ) (d given : PlainDurable) → Holds seen d → Holds seen (kept_nothing 0) → given ≡ raised d → given ≡ raised (kept_nothing 0)
given-is seen d given held nothing is = is ∙ ap raised (one_held seen d (kept_nothing 0) held nothing)

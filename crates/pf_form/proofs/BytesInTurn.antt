-- Reading and writing one value after another, as a loop does.
use Rattle.std.proofs.{Common.{◌≡◌, ℕ, Bool, true, suc, ◌-◌, ◌+◌, ◌≤◌, ◌<◌, List, [], ◌∷◌, ◌++◌, length, Ok, Err, refl, sym, ap, ◌∙◌, append_assoc, arith}}
use Rattle.std.specs.Prelude.{map}
use Rattle.pf_form.specs.declared.bytes.fault.Undecoded.{Undecoded}
use Rattle.pf_form.specs.{Bytes.BasicForms.{Read, Reader, ◌>>=◌, times_by}, Bytes.Lists.in_order, Bytes.Readers.Fails, Laws.Bytes.Steps.leaves}
use Rattle.pf_form.specs.declared.bytes.fault.Undecoded.TheVariants as undecoded

-- what was read before, and what is still read
abbrev pub with_front : {A : Type 0} → List A → Read (List A) → Read (List A)
with_front front read = read >>= λ x. Ok (front ++ x.0, x.1)

module _ {A : Type 0} (read : Reader A) where
  regroup : (front : List A) (x : A) (r : Read (List A)) → with_front front (r >>= λ y. Ok (x ∷ y.0, y.1)) ≡ with_front (front ++ x ∷ []) r
  regroup front x (Ok y) = ap (λ (xs : List A). leaves xs y.1) (sym (append_assoc front (x ∷ []) y.0))
  regroup front x (Err d) = refl

  pub goes_on : (front : List A) (count i : ℕ) (bytes : List ℕ) (x : A) (after : List ℕ) (total : Read (List A)) → i < count → read bytes ≡ Ok (x, after)
      → with_front front (times_by (count - i) read bytes) ≡ total → with_front (front ++ x ∷ []) (times_by (count - (i + 1)) read after) ≡ total
  goes_on front count i bytes x after total lt h so_far =
      let k : count - i ≡ suc (count - (i + 1)) = omega arith in
      let one : with_front front (times_by (count - i) read bytes) ≡ with_front (front ++ x ∷ []) (times_by (count - (i + 1)) read after) = rw (k, h) (regroup front x (times_by (count - (i + 1)) read after)) in
      sym one ∙ so_far

  pub stops : (s : Undecoded) (front : List A) (count i : ℕ) (bytes : List ℕ) (total : Read (List A)) → i < count → Fails s (read bytes)
      → with_front front (times_by (count - i) read bytes) ≡ total → Fails s total
  stops undecoded.Memory front count i bytes total lt h so_far = tt
  stops (undecoded.Fault f) front count i bytes total lt h so_far =
      let k : count - i ≡ suc (count - (i + 1)) = omega arith in
      let one : with_front front (times_by (count - i) read bytes) ≡ Err f = rw (k, h) refl in
      sym so_far ∙ one

-- ---- in order

pub few_in_order : {X A : Type 0} (before : A → A → Bool) (view : X → A) (xs : List X) → length xs ≤ 1 → in_order before (map view xs) ≡ true
few_in_order before view [] le = refl
few_in_order before view (x ∷ []) le = refl
few_in_order before view (x ∷ y ∷ xs) le = absurd (omega (arith, le))

-- The step that adds a job, and beginnings of one history.
use Rattle.std.proofs.Common.{◌≡◌, ℕ, zero, suc, ◌+◌, ◌<◌, ◌==◌, Bool, true, false, List, [], ◌∷◌, ◌++◌, length, Some, None, refl, ap, sym, subst, arith, inl, length-append}
use Rattle.std.specs.Prelude.{slice_get}
use Rattle.std.proofs.lemmas.List.{append-nil}
use Rattle.std.proofs.lemmas.Bool.Decides.{nat_tests}
use mathlib.Core.List.{IsPrefix}
use prog.Atomic.{either}
use Rattle.logbook.specs.Pages.{Cell, cell, keeps, no_nib, step, Moves, Goes}
use Rattle.pf_queue.specs.Numbers.{IsKept, Adds}

abbrev pub shown : {T : Type 0} → List T → List T
shown log = []

abbrev pub moved : {T : Type 0} → List T → List T → ℕ → Type 0
moved xs ys n = Unit {0}

-- what is added at the end stands there
pub at_end : {T : Type 0} (log : List T) (e : T) (k : ℕ) → length log ≡ k → slice_get (log ++ e ∷ []) k ≡ Some e
at_end [] e zero is = refl
at_end [] e (suc k) is = absurd (omega arith)
at_end (x ∷ xs) e zero is = absurd (omega arith)
at_end (x ∷ xs) e (suc k) is = at_end xs e k (omega arith)

-- what stands in a beginning stands in the whole, at the same place
pub prefix_get : {T : Type 0} (xs ys : List T) (k : ℕ) (x : T) → IsPrefix xs ys → slice_get xs k ≡ Some x → slice_get ys k ≡ Some x
prefix_get [] ys k x p h = absurd cc
prefix_get (y ∷ xs) [] k x p h = absurd (cc (p.1))
prefix_get (y ∷ xs) (z ∷ ys) zero x p h = cc (p.1, h)
prefix_get (y ∷ xs) (z ∷ ys) (suc k) x p h = prefix_get xs ys k x (p.0, cc (p.1)) h

-- two beginnings of one history have the same job at a place
pub same_job : {T : Type 0} (xs ys all : List T) (k n : ℕ) (x y : T) → IsPrefix xs all → IsPrefix ys all → k ≡ n → slice_get xs k ≡ Some x → slice_get ys n ≡ Some y → x ≡ y
same_job xs ys all k n x y p q same at also =
    let one = prefix_get xs all k x p at in
    let other : slice_get all k ≡ Some y = subst (λ (i : ℕ). slice_get all i ≡ Some y) (sym same) (prefix_get ys all n y q also) in
    cc (one, other)

adds_goes : {T : Type 0} (log v : List T) (e : T) (old : ℕ) → (b : Bool) → (length log == old) ≡ b
    → Goes IsKept shown moved 0 (v, (no_nib, None)) (λ n. either (n == old) (old + 1) n) (Adds (step 0 old (old + 1) e) (v, (no_nib, None))) ((length log, true) ∷ (0, true) ∷ []) log
adds_goes log v e old true is =
    let here : length log ≡ old = grind (arith, nat_tests) in
    let n : either (length log == old) (old + 1) (length log) ≡ length (log ++ e ∷ []) = rw is (omega (arith, length-append log (e ∷ []))) in (
      keeps,
      e ∷ [],
      None,
      tt,
      ap (λ (k : ℕ). (k, true) ∷ (0, true) ∷ []) n,
      inl (refl, refl),
      λ _. at_end log e old here,
    )
adds_goes log v e old false is =
    let n : either (length log == old) (old + 1) (length log) ≡ length (log ++ []) = rw is (ap length (sym (append-nil log))) in (
      keeps,
      [],
      None,
      tt,
      ap (λ (k : ℕ). (k, true) ∷ (0, true) ∷ []) n,
      inl (refl, refl),
      λ (found : length log ≡ old). absurd (grind (arith, nat_tests)),
    )

-- whatever the history is, the exchange adds the job under the number that was expected, or finds another
pub adds_moves : {T : Type 0} (v : List T) (e : T) (old : ℕ)
    → Moves IsKept shown moved 0 (v, (no_nib, None)) (λ n. either (n == old) (old + 1) n) (Adds (step 0 old (old + 1) e) (v, (no_nib, None)))
adds_moves {T} v e old cs log kept pre away =
    let P : List Cell → Type 0 = λ c. (0 < length c) × ((cell c 0).1 ≡ true) × Goes IsKept shown moved 0 (v, (no_nib, None)) (λ n. either (n == old) (old + 1) n) (Adds (step 0 old (old + 1) e) (v, (no_nib, None))) c log in
    subst P (sym kept) (omega arith, refl, adds_goes log v e old (length log == old) refl)

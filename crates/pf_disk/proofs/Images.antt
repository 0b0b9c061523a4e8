-- What an image is, where nothing or one range is unsynced.
use Rattle.std.proofs.{Common.{◌≡◌, inl, inr, ℕ, ◌+◌, ◌<◌, ◌≤◌, Bool, false, true, ◌||◌, List, ◌++◌, length, take, drop, refl, sym, ◌∙◌, ap, arith, rules, append_assoc}, lemmas.List.{ext_get_or, places, length-take, length-drop, get_or-take, get_or-drop, drop_at}, lemmas.Bool.{cases_lt, or_parts, Decides.nat_tests}}
use Rattle.pf_disk.specs.Disk.{IsImage, IsSynced, is_within, with_range, overwritten}

-- with nothing unsynced, the read alone
pub only_read : (seen : List ℕ) (set : ℕ → Bool) (c : List ℕ) → IsSynced set → IsImage seen set c → c ≡ seen
only_read seen set c synced image = ext_get_or 0 c seen image.same_length (λ i lt. image.agrees i (synced i))

pub outside_below : (at n i : ℕ) → i < at → is_within at n i ≡ false
outside_below at n i lt = grind (arith, nat_tests)

pub outside_above : (at n i : ℕ) → at + n ≤ i → is_within at n i ≡ false
outside_above at n i le = grind (arith, nat_tests)

pub overwritten_elsewhere : (at : ℕ) (old bytes : List ℕ) → at + length bytes ≤ length old → IsImage old (is_within at (length bytes)) (overwritten old at bytes)
overwritten_elsewhere at old bytes fits = record {
  same_length = search (rules, places);
  agrees = λ i out. elim (cases_lt i at) [
    | inl below ↦ grind (arith, places)
    | inr above ↦ elim (cases_lt i (at + length bytes)) [
      | inl within ↦ absurd (grind (arith, nat_tests))
      | inr following ↦ grind (arith, places)
    ]
  ];
}

-- an image from before a write is one of its start
pub wide_image : (at : ℕ) (old bytes : List ℕ) (set : ℕ → Bool) (c : List ℕ) → at + length bytes ≤ length old → IsImage old set c → IsImage (overwritten old at bytes) (with_range at (length bytes) set) c
wide_image at old bytes set c fits image =
    let elsewhere = overwritten_elsewhere at old bytes fits in
    record {
      same_length = image.same_length ∙ sym elsewhere.same_length;
      agrees = λ i out. image.agrees i (or_parts (set i) (is_within at (length bytes) i) out).0 ∙ sym (elsewhere.agrees i (or_parts (set i) (is_within at (length bytes) i) out).1);
    }

-- a slice that no unsynced place is in
pub slice_same : (k p : ℕ) (old c : List ℕ) (set : ℕ → Bool) → IsImage old set c → ((i : ℕ) → p ≤ i → i < p + k → set i ≡ false) → take k (drop p c) ≡ take k (drop p old)
slice_same k p old c set image out = ext_get_or 0 (take k (drop p c)) (take k (drop p old))
    (omega (arith, length-take k (drop p c), length-take k (drop p old), length-drop p c, length-drop p old, image.same_length))
    (λ i lt.
    let below : i < k = omega (arith, length-take k (drop p c)) in
    get_or-take k (drop p c) i 0 below ∙ get_or-drop p c i 0 ∙ image.agrees (p + i) (out (p + i) (omega arith) (omega arith)) ∙ sym (get_or-drop p old i 0) ∙ sym (get_or-take k (drop p old) i 0 below))

-- from the place of a write on
pub written_there : (at : ℕ) (old bytes : List ℕ) → at ≤ length old → drop at (overwritten old at bytes) ≡ bytes ++ drop (at + length bytes) old
written_there at old bytes within =
    let len : length (take at old) ≡ at = omega (arith, length-take at old) in
    ap (drop at) (append_assoc (take at old) bytes (drop (at + length bytes) old)) ∙ drop_at (take at old) (bytes ++ drop (at + length bytes) old) at len

-- What a fill of the unsynced places makes.
use Rattle.std.proofs.{Common.{◌≡◌, inl, inr, ℕ, ◌<◌, ◌≤◌, Bool, false, true, cond, List, length, get_or, refl, sym, ◌∙◌, ap, subst}, lemmas.{List.{ext_get_or, get_or_past}, Bool.cases_lt}}
use Rattle.pf_disk.specs.declared.{image.Fill.Fill, image.Fill.TheVariants.{Old, New, Zeros, Open, Inverted, Bytes}}
use Rattle.pf_disk.specs.{Calls.State, Disk.IsImage, Filled.{fill_byte, GivesItsBytes, IsFilled}}

-- it is an image
pub filled_image : (fill : Fill) (s : State) (image : List ℕ) → IsFilled fill s image → IsImage s.seen s.unsynced image
filled_image fill s image filled = record {
  same_length = filled.same_length;
  agrees = λ i synced. elim (cases_lt i (length s.seen)) [
    | inl within ↦ filled.each i within ∙ ap (λ (b : Bool). cond b (fill_byte fill i (get_or s.kept i 0) (get_or s.seen i 0)) (get_or s.seen i 0)) synced
    | inr past ↦ get_or_past image i 0 (subst (λ n. n ≤ i) (sym filled.same_length) past) ∙ sym (get_or_past s.seen i 0 past)
  ];
}

-- given bytes that are an image make that one
given_bytes : (s : State) (image bytes : List ℕ) → length image ≡ length s.seen
    → ((i : ℕ) → i < length s.seen → get_or image i 0 ≡ cond (s.unsynced i) (get_or bytes i 0) (get_or s.seen i 0))
    → IsImage s.seen s.unsynced bytes → image ≡ bytes
given_bytes s image bytes long each own =
    ext_get_or 0 image bytes (long ∙ sym own.same_length) (λ i lt. by i (s.unsynced i) refl (each i (subst (λ n. i < n) long lt))) where
      by : (i : ℕ) (b : Bool) → s.unsynced i ≡ b → get_or image i 0 ≡ cond b (get_or bytes i 0) (get_or s.seen i 0) → get_or image i 0 ≡ get_or bytes i 0
      by i true is here = here
      by i false is here = here ∙ sym (own.agrees i is)

pub own_bytes : (fill : Fill) (s : State) (image : List ℕ) → IsFilled fill s image → GivesItsBytes fill (IsImage s.seen s.unsynced) image
own_bytes (Bytes bytes) s image filled = λ own. given_bytes s image bytes.now filled.same_length filled.each own
own_bytes Old s image filled = tt
own_bytes New s image filled = tt
own_bytes Zeros s image filled = tt
own_bytes Open s image filled = tt
own_bytes Inverted s image filled = tt

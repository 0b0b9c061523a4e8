-- Texts that are written one after the other.
use Rattle.std.proofs.{Common.{◌≡◌, ◌∙◌, ℕ, ◌+◌, ◌<◌, length, take, drop, get_or, List, [], ◌∷◌, ◌++◌, Option, sym, ap, append-nil}, lemmas.{Grind.flat_map-append, List.{take_more, take-append-drop}}}
use Rattle.std.specs.{Prelude.flat_map, Io.KnownBytes.Appends}
use Rattle.pf_addr.specs.Writing.{WritesFront, WritesFront-longer, WritesFront-then, Appends-then}

module _ {A : Type 0} (text : A → List ℕ) where
  texts-more : (xs : List A) (i : ℕ) (d : A) → i < length xs → flat_map text (take (i + 1) xs) ≡ flat_map text (take i xs) ++ text (get_or xs i d)
  texts-more xs i d low =
      ap (flat_map text) (take_more xs i d low) ∙ flat_map-append text (take i xs) (get_or xs i d ∷ []) ∙ ap (λ (l : List ℕ). flat_map text (take i xs) ++ l) (append-nil (text (get_or xs i d)))

  texts-all : (xs : List A) (i : ℕ) → flat_map text xs ≡ flat_map text (take i xs) ++ flat_map text (drop i xs)
  texts-all xs i = ap (flat_map text) (sym (take-append-drop i xs)) ∙ flat_map-append text (take i xs) (drop i xs)

  -- a text that was cut short
  pub cut-text : (xs : List A) (i : ℕ) (d : A) (old mid new : Option (List ℕ)) → i < length xs → Appends old mid (flat_map text (take i xs)) → WritesFront mid new (text (get_or xs i d)) → WritesFront old new (flat_map text xs)
  cut-text xs i d old mid new low before front =
      rw (texts-all xs (i + 1)) (WritesFront-longer old new (flat_map text (take (i + 1) xs)) (flat_map text (drop (i + 1) xs))
      (rw (texts-more xs i d low) (WritesFront-then old mid new (flat_map text (take i xs)) (text (get_or xs i d)) before front)))

  -- one text more
  pub one-text-more : (xs : List A) (i : ℕ) (d : A) (old mid new : Option (List ℕ)) → i < length xs → Appends old mid (flat_map text (take i xs)) → Appends mid new (text (get_or xs i d)) → Appends old new (flat_map text (take (i + 1) xs))
  one-text-more xs i d old mid new low before more = rw (texts-more xs i d low) (Appends-then old mid new (flat_map text (take i xs)) (text (get_or xs i d)) before more)

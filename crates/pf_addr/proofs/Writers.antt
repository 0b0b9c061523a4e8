-- Texts that are written part by part.
use Rattle.std.proofs.{Common.{◌≡◌, ℕ, ◌+◌, ◌-◌, ◌<◌, List, ◌∷◌, ◌++◌, length, take, drop, get_or, Option, sym, ap, ◌∙◌}, lemmas.List.{take_rest, take_more, flat_map_more}, Math.Seq.take-add}
use Rattle.std.specs.{Prelude.flat_map, Io.KnownBytes.Appends}
use Rattle.pf_addr.specs.{Spelling.group_text, Writing.Appends-then}

pub appends_more : (old mid new : Option (List ℕ)) (text : List ℕ) (w n : ℕ) → Appends old mid (take w text) → Appends mid new (take n (take (length text - w) (drop w text))) → Appends old new (take (w + n) text)
appends_more old mid new text w n p q = rw (take-add w n text) (Appends-then old mid new (take w text) (take n (drop w text)) p (rw (take_rest text w) at q))

-- ---- the groups of a V6 address: the first, and so many of the others

abbrev colon_and_group : ℕ → ℕ → List ℕ
colon_and_group n end = 58 ∷ group_text n end

abbrev pub groups_to : ℕ → List ℕ → ℕ → List ℕ
groups_to n ends i = group_text n 112 ++ flat_map (colon_and_group n) (take i ends)

pub groups_more : (n : ℕ) (ends : List ℕ) (i : ℕ) → i < length ends → groups_to n ends i ++ 58 ∷ group_text n (get_or ends i 0) ≡ groups_to n ends (i + 1)
groups_more n ends i lt = flat_map_more (colon_and_group n) (group_text n 112) (take i ends) (get_or ends i 0) ∙ ap (λ (l : List ℕ). group_text n 112 ++ flat_map (colon_and_group n) l) (sym (take_more ends i 0 lt))

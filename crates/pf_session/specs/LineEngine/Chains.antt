-- Steps one after the other, each with a text: `Step x old new text` says that this one took the old state to the new one with this text.
use Rattle.std.specs.Prelude.{◌≡◌, ℕ, List, [], ◌∷◌, ◌++◌}

-- these took the old state to the new one, and their texts are this one
abbrev pub Chain : {S L : Type 0} → (L → S → S → List ℕ → Type 0) → S → S → List L → List ℕ → Type 0
Chain Step old new [] text = (new ≡ old) × (text ≡ [])
Chain {S = S} Step old new (x ∷ xs) text =
    (mid : S) × (first rest : List ℕ) × Step x old mid first × Chain Step mid new xs rest × (text ≡ first ++ rest)

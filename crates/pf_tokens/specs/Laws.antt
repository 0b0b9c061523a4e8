-- What the laws of texts and tokens speak of.
use Rattle.std.specs.Prelude.{◌≡◌, ◌⊎◌, ℕ, ◌==◌, ◌&&◌, not, Bool, false, List, [], ◌∷◌, ◌++◌, fold, if◌then◌else◌}
use Rattle.std.specs.List.{list_any, flat_map}
use Rattle.pf_tokens.specs.declared.{place.Place.Place, place.Placed.Placed, token.Token.Token, flat.Macro.Macro, flat.Flat.Flat}
use Rattle.pf_tokens.specs.{Places.{at, place_after}, Words.{is_newline, is_macro}, Flat.{Line, braces, is_definition, is_include}}

-- ---- continued lines

-- the bytes of a text that begins at this place, each where it stands
abbrev pub located : Place → List ℕ → List Placed
located p [] = []
located p (b ∷ bs) = at b p ∷ located (place_after b p) bs

-- where such a text ends
abbrev pub end_of : Place → List ℕ → Place
end_of p [] = p
end_of p (b ∷ bs) = end_of (place_after b p) bs

-- Without each backslash that has a newline behind it, and without that newline. A backslash goes with the byte behind it, whatever that is.
abbrev pub uncontinued : List Placed → List Placed
uncontinued [] = []
uncontinued (c ∷ []) = c ∷ []
uncontinued (c ∷ d ∷ cs) =
    if c.byte == 92 then (if d.byte == 10 then uncontinued cs else c ∷ d ∷ uncontinued cs) else c ∷ uncontinued (d ∷ cs)

-- ---- tokens

-- a text has these bytes in this order, each where it stands in the text, and maybe others before, between and behind them
abbrev pub HasInOrder : List Placed → List Placed → Type 0
HasInOrder text [] = Unit {0}
HasInOrder [] (c ∷ cs) = ⊥
HasInOrder (d ∷ ds) (c ∷ cs) = ((c ≡ d) × HasInOrder ds cs) ⊎ HasInOrder ds (c ∷ cs)

abbrev pub bytes_of : List Token → List Placed
bytes_of ts = flat_map (λ (t : Token). t.text) ts

-- ---- macros

-- No token that is left, and none of a macro's value, uses a macro.
pub record HasNoMacro (s : Flat) : Type 0 where
  pub tokens : list_any is_macro s.tokens ≡ false
  pub values : list_any (λ (m : Macro). list_any is_macro m.value) s.macros ≡ false

-- ---- lines without macros, definitions and includes

abbrev pub is_plain : Line → Bool
is_plain l = is_newline l.1 && (not (list_any is_newline l.0) && (not (list_any is_macro l.0) && (not (is_definition l.0) && not (is_include l.0))))

abbrev pub tokens_of : List Line → List Token
tokens_of ls = flat_map (λ (l : Line). l.0 ++ (l.1 ∷ [])) ls

-- the braces that are open behind these tokens
abbrev pub open_after : List Place → List Token → List Place
open_after opened ts = fold (λ (o : List Place) (t : Token). braces t o) opened ts

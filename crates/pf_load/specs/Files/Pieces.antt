-- What laws say of the bytes of a file: which of them tokens are made of, and which are passed over (pf.conf(5), GRAMMAR).
use Rattle.std.specs.{Prelude.{◌≡◌, ◌==◌, ◌&&◌, ◌||◌, not, ℕ, Bool, true, false, List, [], ◌∷◌, All, if◌then◌else◌}, List.{flat_map, list_all}}
use Rattle.pf_tokens.specs.declared.place.Placed.{Placed}
use Rattle.pf_tokens.specs.Lexing.{is_quote}

-- a space, a tab, a newline, a quote or a "$"
abbrev pub is_passed : ℕ → Bool
is_passed b = (b == 32) || ((b == 9) || ((b == 10) || (is_quote b || (b == 36))))

abbrev pub has_no_newline : List Placed → Bool
has_no_newline cs = list_all (λ (c : Placed). not (c.byte == 10)) cs

-- one such byte, or a comment: a "#" and what stands behind it on its line
abbrev pub may_be_passed : List Placed → Bool
may_be_passed [] = false
may_be_passed (c ∷ []) = is_passed c.byte || (c.byte == 35)
may_be_passed (c ∷ d ∷ cs) = (c.byte == 35) && has_no_newline (d ∷ cs)

-- a piece of a text, and whether a token is made of it
abbrev pub Piece : Type 0
Piece = Bool × List Placed

-- A text is cut into pieces. Of those that aren't passed over these bytes are made, in order.
pub record IsCut (text bytes : List Placed) : Type 0 where
  pub pieces : List Piece
  pub whole : text ≡ flat_map (λ (p : Piece). p.1) pieces
  pub taken : bytes ≡ flat_map (λ (p : Piece). if p.0 then p.1 else []) pieces
  pub passed : All (λ (p : Piece). p.0 ≡ false → may_be_passed p.1 ≡ true) pieces

-- Places in files: lines from 1, columns from 1 in bytes.
use Rattle.std.specs.{Prelude.{ℕ, ◌+◌, ◌==◌, ◌&&◌, not, Bool, List, [], map, length, Some, None, if◌then◌else◌}, List.list_all, Char.is_ascii_digit, Str.is_utf8}
use Rattle.pf_tokens.specs.declared.{place.Place.Place, place.Placed.Placed}

abbrev pub start_of : ℕ → Place
start_of file = record { file = file; line = 1; column = 1; value_of = None }

-- where the tokens of a macro's value stand, by its number: where it is used
abbrev pub used_at : Place → ℕ → Place
used_at p n = record p { value_of = Some n }

abbrev pub next_line : Place → Place
next_line p = record p { line = p.line + 1; column = 1 }

abbrev pub next_column : Place → Place
next_column p = record p { column = p.column + 1 }

-- where the byte behind this one stands
abbrev pub place_after : ℕ → Place → Place
place_after b p = if b == 10 then next_line p else next_column p

abbrev pub at : ℕ → Place → Placed
at b p = record { byte = b; place = p }

-- the bytes without their places
abbrev pub text_of : List Placed → List ℕ
text_of cs = map (λ (c : Placed). c.byte) cs

-- what is told of a word or a name: its bytes, if they are a text
abbrev pub shown : List ℕ → List ℕ
shown bytes = if is_utf8 bytes then bytes else []

abbrev pub each_is_digit : List Placed → Bool
each_is_digit text = list_all (λ (c : Placed). is_ascii_digit c.byte) text

-- there are bytes, and each is a digit
abbrev pub is_digits : List Placed → Bool
is_digits text = not (length text == 0) && each_is_digit text

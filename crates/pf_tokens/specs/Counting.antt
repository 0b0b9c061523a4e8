-- How many words are read: of files, and of what macros stand for. pf.conf(5) has no such limit; it bounds what a small file can ask for.
use Rattle.std.specs.Prelude.{ℕ, ◌+◌, ◌-◌, ◌/◌, nat_le, List, [], ◌∷◌, length, Option, Some, None, Result, Ok, Err, if◌then◌else◌}
use Rattle.std.specs.List.{sum_by}
use Rattle.pf_form.specs.Form.Forms.{◌>>=◌}
use Rattle.pf_tokens.specs.declared.{place.Place.Place, token.Token.Token, counting.TheConstants.TOKEN_LIMIT, fault.TokenStop.TokenStop}
use Rattle.pf_tokens.specs.declared.fault.Mistake.TheVariants.{ManyWords}
use Rattle.pf_tokens.specs.Stops.{faulty}

-- as how many words a token counts: a text of eight bytes or more makes several of it
abbrev pub weight : Token → ℕ
weight t = 1 + length t.text / 8

abbrev pub words_in : List Token → ℕ
words_in ts = sum_by weight ts

-- how many words are read with this token behind so many; or it is past the limit, which is told at this place
unfoldable pub counted : Place → ℕ → Token → Result ℕ TokenStop
counted p n t = if nat_le (weight t) (TOKEN_LIMIT - n) then Ok (n + weight t) else Err (faulty p ManyWords)

-- the same of a token at its own place, if there is one
abbrev pub counted_some : ℕ → Option Token → Result ℕ TokenStop
counted_some n None = Ok n
counted_some n (Some t) = counted t.place n t

-- the same of the tokens that a macro stands for, at the place of its use
unfoldable pub counted_at : Place → ℕ → List Token → Result ℕ TokenStop
counted_at p n [] = Ok n
counted_at p n (t ∷ ts) = counted p n t >>= λ m. counted_at p m ts

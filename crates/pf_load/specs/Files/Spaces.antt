-- What laws say of words with a space between each two.
use Rattle.std.specs.{Prelude.{◌==◌, ◌&&◌, ◌||◌, ℕ, Bool, true, false, List, [], ◌∷◌}, List.list_all}
use Rattle.pf_tokens.specs.declared.{token.Token.Token, token.Kind.TheVariants.Word}
use Rattle.pf_tokens.specs.{Places.text_of, Words.same_kind, Lexing.{is_letter, is_word_byte}}

-- bytes of words, of which the first is a letter, a digit, "_" or ":"
abbrev pub is_plain_word : List ℕ → Bool
is_plain_word [] = false
is_plain_word (b ∷ bs) = (is_letter b || (b == 58)) && list_all is_word_byte bs

-- whether a token is a word, and its bytes
abbrev pub read_as : Token → Bool × List ℕ
read_as t = (same_kind t.kind Word, text_of t.text)

abbrev pub as_word : List ℕ → Bool × List ℕ
as_word w = (true, w)

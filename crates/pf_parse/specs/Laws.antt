-- What the laws of a file's lines say.
use Rattle.std.specs.{Prelude.{◌≡◌, ◌||◌, Bool, true, List, codes}, List.{Contains}}
use Rattle.pf_tokens.specs.declared.{place.Place.Place, token.Token.Token}
use Rattle.pf_tokens.specs.Words.{is_word}
use Rattle.pf_parse.specs.Lines.{is_rule}

-- the word with which a rule begins
abbrev pub begins_rule : Token → Bool
begins_rule t = is_rule t || is_word (codes "anchor") t

-- One of these tokens begins a rule, and stands at this place.
abbrev pub BeginsAt : List Token → Place → Type 0
BeginsAt ts p = (t : Token) × Contains ts t × (t.place ≡ p) × (begins_rule t ≡ true)

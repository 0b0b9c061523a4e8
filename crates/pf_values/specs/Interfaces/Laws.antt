-- What the laws of interfaces say.
use Rattle.std.specs.{Prelude.{◌≡◌, true, List}, List.Contains}
use Rattle.pf_tokens.specs.declared.token.{Token.Token, Kind.TheVariants.Word}
use Rattle.pf_tokens.specs.Words.{same_kind}

-- Each word without quotes among the tokens is one of these.
abbrev pub HasTheWordsOf : List Token → List Token → Type 0
HasTheWordsOf ts us = (t : Token) → Contains us t → same_kind t.kind Word ≡ true → Contains ts t

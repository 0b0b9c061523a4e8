-- What tokens are (pf.conf(5), GRAMMAR; the words that it reserves are those of pfctl's grammar).
use Rattle.std.specs.Prelude.{ℕ, ◌&&◌, ◌||◌, not, Bool, true, false, List, map}
use Rattle.std.specs.{List.list_any, Str.bytes_eq}
use Rattle.pf_tokens.specs.declared.{place.Place.Place, place.Placed.Placed, token.Token.Token, token.Kind.Kind, token.Kind.TheVariants.{Word, Quoted, Symbol, Macro, Newline}, reserved.TheConstants.{STATEMENTS, SETTINGS, TESTS, ANSWERS, STATES, ADDRESSES, QUEUES}}
use Rattle.pf_tokens.specs.Places.{text_of, is_digits, at}

abbrev pub same_kind : Kind → Kind → Bool
same_kind Word Word = true
same_kind Quoted Quoted = true
same_kind Symbol Symbol = true
same_kind Macro Macro = true
same_kind Newline Newline = true
same_kind _ _ = false

abbrev pub has_text : List ℕ → Token → Bool
has_text text t = bytes_eq (text_of t.text) text

-- this word, without quotes
abbrev pub is_word : List ℕ → Token → Bool
is_word text t = same_kind t.kind Word && has_text text t

abbrev pub is_symbol : List ℕ → Token → Bool
is_symbol text t = same_kind t.kind Symbol && has_text text t

abbrev pub is_newline : Token → Bool
is_newline t = same_kind t.kind Newline

abbrev pub is_macro : Token → Bool
is_macro t = same_kind t.kind Macro

-- one of the words that the grammar reserves
unfoldable pub is_keyword : List ℕ → Bool
is_keyword text =
    list_any (λ word. bytes_eq text word.now) STATEMENTS ||
    list_any (λ word. bytes_eq text word.now) SETTINGS ||
    list_any (λ word. bytes_eq text word.now) TESTS ||
    list_any (λ word. bytes_eq text word.now) ANSWERS ||
    list_any (λ word. bytes_eq text word.now) STATES ||
    list_any (λ word. bytes_eq text word.now) ADDRESSES ||
    list_any (λ word. bytes_eq text word.now) QUEUES

abbrev pub is_number : Token → Bool
is_number t = same_kind t.kind Word && is_digits t.text

abbrev pub is_keyword_word : Token → Bool
is_keyword_word t = same_kind t.kind Word && is_keyword (text_of t.text)

-- "string" of the grammar: quoted, or a word that is neither reserved nor a number
abbrev pub is_string : Token → Bool
is_string t = same_kind t.kind Quoted || (same_kind t.kind Word && (not (is_keyword_word t) && not (is_number t)))

-- the same token, at this place with all its bytes
abbrev pub moved : Place → Token → Token
moved p t = record { kind = t.kind; place = p; text = map (λ (c : Placed). at c.byte p) t.text }

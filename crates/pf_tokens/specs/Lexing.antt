-- Tokens of placed bytes: each is the longest run that can stand at the front.
use Rattle.std.specs.Prelude.{ℕ, zero, suc, ◌+◌, ◌==◌, nat_le, nat_lt, ◌&&◌, ◌||◌, not, Bool, false, List, [], ◌∷◌, ◌++◌, take, drop, take_while, length, codes, Some, None, Result, Ok, Err, if◌then◌else◌}
use Rattle.std.specs.{List.list_any, Str.bytes_eq, Char.is_ascii_alphanumeric, Option.option_to_list}
use Rattle.pf_form.specs.Form.Forms.{◌>>=◌}
use Rattle.pf_tokens.specs.declared.{place.Placed.Placed, token.Token.Token, token.Kind.Kind, token.Kind.TheVariants.{Word, Quoted, Symbol, Macro, Newline}, lexing.Source.Source, lexing.Run.Run, lexing.Front.Front, fault.TokenStop.TokenStop}
use Rattle.pf_tokens.specs.declared.fault.Mistake.TheVariants.{Byte, Character, Backslash, OpenQuote, QuoteInWord, DollarInWord, NoMacroName, Joined, MacroInValue, CommentInValue}
use Rattle.pf_tokens.specs.declared.lexing.Source.TheVariants as sources
use Rattle.pf_tokens.specs.declared.lexing.Run.TheVariants as runs
use Rattle.pf_tokens.specs.{Places.text_of, Stops.faulty, Counting.counted_some}

-- ---- bytes

-- letters, digits and "_"
abbrev pub is_letter : ℕ → Bool
is_letter b = is_ascii_alphanumeric b || (b == 95)

-- printable, and no symbol of more than words
abbrev pub is_word_byte : ℕ → Bool
is_word_byte b = nat_lt 32 b && (nat_le b 126 && not (list_any (λ c. c == b) (codes "(){}<>!=/#,")))

abbrev pub goes_on : Run → ℕ → Bool
goes_on runs.Line b = not (b == 10)
goes_on runs.Letters b = is_letter b
goes_on runs.Word b = is_word_byte b

-- the longest run from the front on
abbrev pub run_of : Run → List Placed → List Placed
run_of r cs = take_while (λ (c : Placed). goes_on r c.byte) cs

-- what may stand in quotes
abbrev pub is_text : ℕ → Bool
is_text b = (b == 9) || (nat_le 32 b && nat_le b 126)

abbrev pub is_quote : ℕ → Bool
is_quote b = (b == 34) || (b == 39)

abbrev pub is_symbol_byte : ℕ → Bool
is_symbol_byte b = list_any (λ c. c == b) (codes "{}(),!=/<>-")

abbrev pub is_printable : ℕ → Bool
is_printable b = nat_lt 32 b && nat_le b 126

-- ---- parts of tokens

-- how many bytes stand before the next quote like this one, on the same line
unfoldable pub quoted : Placed → List Placed → Result ℕ TokenStop
quoted quote [] = Err (faulty quote.place OpenQuote)
quoted quote (c ∷ cs) =
    if c.byte == quote.byte then Ok 0
    else if c.byte == 10 then Err (faulty quote.place OpenQuote)
    else if c.byte == 92 then Err (faulty c.place Backslash)
    else if is_text c.byte then (quoted quote cs >>= λ n. Ok (n + 1))
    else Err (faulty c.place (Byte c.byte))

-- a word without bytes that can't stand within one
unfoldable pub word_checked : List Placed → Result (Unit {0}) TokenStop
word_checked [] = Ok tt
word_checked (c ∷ cs) =
    if is_quote c.byte then Err (faulty c.place QuoteInWord)
    else if c.byte == 36 then Err (faulty c.place DollarInWord)
    else if c.byte == 92 then Err (faulty c.place Backslash)
    else word_checked cs

-- what can be asked of an interface, behind its name (pf.conf(5), PARAMETERS, "from": modifiers of interfaces)
abbrev pub is_modifier : List ℕ → Bool
is_modifier text =
    bytes_eq text (codes ":network") || bytes_eq text (codes ":broadcast") || bytes_eq text (codes ":peer") || bytes_eq text (codes ":0")

-- how many bytes directly behind a macro's name belong to its use, given the run of word bytes there: those of a modifier
abbrev pub modifier_more : List Placed → Result ℕ TokenStop
modifier_more [] = Ok 0
modifier_more (c ∷ cs) =
    if is_modifier (text_of (c ∷ cs)) then Ok (length (c ∷ cs)) else Err (faulty c.place (Joined (text_of (c ∷ cs))))

-- two bytes that are one symbol: <> >< ->
abbrev pub is_pair : ℕ → ℕ → Bool
is_pair b c = ((b == 60) && (c == 62)) || ((b == 62) && (c == 60)) || ((b == 45) && (c == 62))

abbrev pub pairs : Placed → List Placed → Bool
pairs b [] = false
pairs b (c ∷ cs) = is_pair b.byte c.byte

-- how many bytes more than one a symbol has
abbrev pub symbol_more : Placed → List Placed → Result ℕ TokenStop
symbol_more c cs =
    if pairs c cs then Ok 1
    else if is_symbol_byte c.byte then Ok 0
    else if c.byte == 92 then Err (faulty c.place Backslash)
    else if is_printable c.byte then Err (faulty c.place (Character c.byte))
    else Err (faulty c.place (Byte c.byte))

-- ---- tokens

abbrev pub skipped : ℕ → Front
skipped more = record { token = None; more = more }

abbrev pub token_of : Kind → Placed → List Placed → ℕ → Front
token_of kind c text more = record { token = Some (record { kind = kind; place = c.place; text = text }); more = more }

-- In a macro's value there are neither comments nor macros.
abbrev pub comment : Source → Placed → List Placed → Result Front TokenStop
comment sources.File c cs = Ok (skipped (length (run_of runs.Line cs)))
comment sources.Value c cs = Err (faulty c.place CommentInValue)

-- the use of a macro, with so many bytes behind the "$"
abbrev pub a_macro : Placed → List Placed → ℕ → Front
a_macro c cs more = token_of Macro c (take more cs) more

-- given the letters behind the "$"
abbrev pub named_macro : Placed → List Placed → List Placed → Result Front TokenStop
named_macro c name cs =
    if length name == 0 then Err (faulty c.place NoMacroName)
    else (modifier_more (run_of runs.Word (drop (length name) cs)) >>= λ n. Ok (a_macro c cs (length name + n)))

abbrev pub macro_use : Source → Placed → List Placed → Result Front TokenStop
macro_use sources.File c cs = named_macro c (run_of runs.Letters cs) cs
macro_use sources.Value c cs = Err (faulty c.place MacroInValue)

abbrev pub word : Placed → List Placed → Result Front TokenStop
word c cs =
    let text : List Placed = c ∷ run_of runs.Word cs in
    word_checked text >>= λ _. Ok (token_of Word c text (length (run_of runs.Word cs)))

abbrev pub a_quoted : Placed → List Placed → Result Front TokenStop
a_quoted c cs = quoted c cs >>= λ n. Ok (token_of Quoted c (take n cs) (n + 1))

abbrev pub a_symbol : Placed → List Placed → Result Front TokenStop
a_symbol c cs = symbol_more c cs >>= λ n. Ok (token_of Symbol c (c ∷ take n cs) n)

-- The token or what is skipped at the front, by its first byte and those behind it, with how many more bytes than one it takes.
unfoldable pub front : Source → Placed → List Placed → Result Front TokenStop
front source c cs =
    if (c.byte == 32) || (c.byte == 9) then Ok (skipped 0)
    else if c.byte == 10 then Ok (token_of Newline c [] 0)
    else if c.byte == 35 then comment source c cs
    else if is_quote c.byte then a_quoted c cs
    else if c.byte == 36 then macro_use source c cs
    else if is_letter c.byte || (c.byte == 58) then word c cs
    else a_symbol c cs

-- The tokens, given how many words were read before, and behind so many bytes that belong to the token before.
unfoldable pub lex : Source → ℕ → ℕ → List Placed → Result (List Token) TokenStop
lex source n more [] = Ok []
lex source n (suc more) (c ∷ cs) = lex source n more cs
lex source n zero (c ∷ cs) =
    front source c cs >>= λ f. counted_some n f.token >>= λ m. lex source m f.more cs >>= λ ts. Ok (option_to_list f.token ++ ts)

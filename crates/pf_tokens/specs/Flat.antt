-- Macros and includes (pf.conf(5), MACROS, and "include" in GRAMMAR): the tokens that are left of a file and of those that it includes.
use Rattle.std.specs.Prelude.{◌≡◌, ◌==◌, ℕ, zero, suc, ◌+◌, ◌-◌, nat_lt, nat_le, ◌&&◌, ◌||◌, not, Bool, true, false, List, [], ◌∷◌, ◌++◌, map, length, take, drop, codes, Option, Some, None, Result, Ok, Err, if◌then◌else◌}
use Rattle.std.specs.List.{list_all, flat_map}
use Rattle.pf_form.specs.Form.Forms.{◌>>=◌}
use Rattle.pf_tokens.specs.declared.{place.Place.Place, place.Placed.Placed, token.Token.Token, flat.Macro.Macro, flat.Flat.Flat, counting.TheConstants.TOKEN_LIMIT, flat.TheConstants.VALUE_LIMIT, files.File.File, fault.TokenStop.TokenStop, fault.TokenStop.TheVariants.{Faulty, Needs, Memory}}
use Rattle.pf_tokens.specs.declared.token.Kind.TheVariants as kinds
use Rattle.pf_tokens.specs.declared.fault.Mistake.TheVariants as mistakes
use Rattle.pf_tokens.specs.declared.lexing.Source.TheVariants as sources
use Rattle.pf_tokens.specs.declared.lexing.Run.TheVariants as runs
use Rattle.pf_tokens.specs.{Places.{start_of, used_at, at, text_of}, Stops.faulty, Words.{same_kind, is_word, is_symbol, is_newline, is_macro, is_keyword_word, is_number, is_string, moved}, Counting.{words_in, counted_at}, Files.text_of_file, Latest.{latest, value_of, is_word_at}, Placed.placed, Lexing.{is_letter, run_of, lex}}

-- ---- what a macro's use stands for

-- The name of a macro that is used, and the modifier that stands directly behind it, as in "$int_if:network".
abbrev pub name_of : Token → List Placed
name_of t = run_of runs.Letters t.text

abbrev pub modifier_of : Token → List Placed
modifier_of t = drop (length (name_of t)) t.text

-- A modifier goes on with the value's word (pf.conf(5), MACROS: a macro's value stands in place of its name), so the value has to be one.
abbrev pub modifier_checked : Bool → List Placed → Result (Unit {0}) TokenStop
modifier_checked is_word [] = Ok tt
modifier_checked is_word (c ∷ cs) = if is_word then Ok tt else Err (faulty c.place (mistakes.InterfaceAddress (text_of (c ∷ cs))))

-- a word of a value, with a modifier, at the place of the macro's use
abbrev pub used : Place → List Placed → Token → Token
used p modifier t = moved p (record t { text = t.text ++ modifier })

abbrev pub value_at : Token → List Macro → Option ℕ → Result (List Token) TokenStop
value_at t ms None = Err (faulty t.place (mistakes.Undefined (text_of (name_of t))))
value_at t ms (Some n) =
    modifier_checked (is_word_at ms n) (modifier_of t) >>= λ _. Ok (map (used (used_at t.place n) (modifier_of t)) (value_of ms n))

-- what a token stands for: itself, unless it is the use of a macro
unfoldable pub parts_of : List Macro → Token → Result (List Token) TokenStop
parts_of ms t = if is_macro t then value_at t ms (latest (text_of (name_of t)) ms) else Ok (t ∷ [])

-- these tokens, and behind them what a token stands for
unfoldable pub with_parts : List Macro → Token → List Token → Result (List Token) TokenStop
with_parts ms t ts = parts_of ms t >>= λ ps. Ok (ts ++ ps)

-- How many words are read with what a token stands for. A token that uses no macro was counted when it was read.
abbrev pub counted_value : ℕ → Token → List Macro → Option ℕ → Result ℕ TokenStop
counted_value n t ms None = Ok n
counted_value n t ms (Some k) = counted_at (used_at t.place k) n (value_of ms k)

unfoldable pub counted_use : List Macro → ℕ → Token → Result ℕ TokenStop
counted_use ms n t = if is_macro t then counted_value n t ms (latest (text_of (name_of t)) ms) else Ok n

-- the same of a line's tokens
unfoldable pub counted_uses : List Macro → ℕ → List Token → Result ℕ TokenStop
counted_uses ms n [] = Ok n
counted_uses ms n (t ∷ ts) = counted_use ms n t >>= λ m. counted_uses ms m ts

unfoldable pub replaced : List Macro → List Token → Result (List Token) TokenStop
replaced ms [] = Ok []
replaced ms (t ∷ ts) = parts_of ms t >>= λ ps. replaced ms ts >>= λ qs. Ok (ps ++ qs)

-- ---- NAME = PARTS

abbrev pub is_definition : List Token → Bool
is_definition [] = false
is_definition (t ∷ []) = false
is_definition (t ∷ u ∷ ts) = same_kind t.kind kinds.Word && is_symbol (codes "=") u

abbrev pub has_letters_alone : List Placed → Bool
has_letters_alone text = list_all (λ (c : Placed). is_letter c.byte) text

abbrev pub name_checked : Token → Result (Unit {0}) TokenStop
name_checked t =
    if is_keyword_word t then Err (faulty t.place (mistakes.ReservedName (text_of t.text)))
    else if is_number t || not (has_letters_alone t.text) then Err (faulty t.place mistakes.MacroName)
    else Ok tt

abbrev pub part_checked : Token → Result (Unit {0}) TokenStop
part_checked t =
    if same_kind t.kind kinds.Symbol then Err (faulty t.place (mistakes.SymbolInValue (text_of t.text)))
    else if is_keyword_word t then Err (faulty t.place (mistakes.ReservedInValue (text_of t.text)))
    else Ok tt

abbrev pub parts_checked : List Token → Result (Unit {0}) TokenStop
parts_checked [] = Ok tt
parts_checked (t ∷ ts) = part_checked t >>= λ _. parts_checked ts

-- a part behind others: a space at its place, and its text
abbrev pub spaced : Token → List Placed
spaced t = at 32 t.place ∷ t.text

abbrev pub has_bytes : List Placed → Bool
has_bytes [] = false
has_bytes (c ∷ cs) = true

-- The texts of the parts with a space between each two. Nothing stands before the first byte of a text.
abbrev pub value_text : List Token → List Placed
value_text [] = []
value_text (t ∷ ts) = if has_bytes t.text then t.text ++ flat_map spaced ts else value_text ts

-- a value with one more part
abbrev pub with_part : List Placed → Token → List Placed
with_part value t = if length value == 0 then t.text else value ++ spaced t

unfoldable pub joined : List Token → Result (List Placed) TokenStop
joined ts = parts_checked ts >>= λ _. Ok (value_text ts)

abbrev pub short : Place → List Placed → Result (List Placed) TokenStop
short first value = if nat_le (length value) VALUE_LIMIT then Ok value else Err (faulty first mistakes.LongValue)

-- the text of a value, given its parts, where what stands behind "=" begins, and where the line ends
abbrev pub text_of_value : Place → Place → List Token → Result (List Placed) TokenStop
text_of_value first end_place parts =
    if length parts == 0 then Err (faulty end_place mistakes.NoValue) else (joined parts >>= short first)

-- whether a value's text is one word, without a blank before or behind it
abbrev pub is_one_word : List Placed → List Token → Bool
is_one_word text [] = false
is_one_word text (t ∷ []) = same_kind t.kind kinds.Word && (length t.text == length text)
is_one_word text (t ∷ u ∷ ts) = false

-- the macro of this name with this value, given how many words were read before
abbrev pub macro_of : ℕ → List ℕ → List Placed → Result Macro TokenStop
macro_of n name text =
    lex sources.Value n 0 text >>= λ value. Ok (record { name = name; is_word = is_one_word text value; value = value })

-- where the first of these stands, or else the line's end
abbrev pub first_place : List Token → Place → Place
first_place [] end_place = end_place
first_place (t ∷ ts) end_place = t.place

-- what a macro is defined as, by its name and what stands behind "="
unfoldable pub defined : ℕ → List Macro → Token → List Token → Place → Result Macro TokenStop
defined n ms name following end_place =
    name_checked name >>= λ _. replaced ms following >>= text_of_value (first_place following end_place) end_place
    >>= macro_of n (text_of name.text)

-- the same, by the line's tokens
abbrev pub defined_by : ℕ → List Macro → List Token → Place → Result Macro TokenStop
defined_by n ms [] end_place = Err (faulty end_place mistakes.NoValue)
defined_by n ms (name ∷ []) end_place = Err (faulty end_place mistakes.NoValue)
defined_by n ms (name ∷ equals ∷ following) end_place = defined n ms name following end_place

-- ---- include FILE

abbrev pub is_include : List Token → Bool
is_include [] = false
is_include (t ∷ ts) = is_word (codes "include") t

abbrev pub only_string : Place → List Token → Result Token TokenStop
only_string p [] = Err (faulty p mistakes.NoFileName)
only_string p (t ∷ []) = if is_string t then Ok t else Err (faulty p mistakes.NoFileName)
only_string p (t ∷ u ∷ ts) = Err (faulty p mistakes.NoFileName)

-- the token that names the file of a line that begins with the word "include"
abbrev pub file_name : List Macro → List Token → Place → Result Token TokenStop
file_name ms [] end_place = Err (faulty end_place mistakes.NoFileName)
file_name ms (word ∷ following) end_place = replaced ms following >>= only_string word.place

-- ---- tokens that are left, and the places of the braces that are open, the innermost last

-- the open braces, and the tokens
abbrev pub Left : Type 0
Left = List Place × List Token

abbrev pub braces : Token → List Place → List Place
braces t opened =
    if is_symbol (codes "{") t then opened ++ (t.place ∷ [])
    else if is_symbol (codes "}") t then take (length opened - 1) opened
    else opened

unfoldable pub put : Token → Left → Result Left TokenStop
put t x =
    if nat_lt (length x.1) TOKEN_LIMIT then Ok (braces t x.0, x.1 ++ (t ∷ [])) else Err (faulty t.place mistakes.ManyWords)

unfoldable pub put_each : List Token → Left → Result Left TokenStop
put_each [] x = Ok x
put_each (t ∷ ts) x = put t x >>= put_each ts

-- the tokens of a line, each replaced by what it stands for
unfoldable pub put_line : List Macro → List Token → Left → Result Left TokenStop
put_line ms [] x = Ok x
put_line ms (t ∷ ts) x = parts_of ms t >>= λ ps. put_each ps x >>= put_line ms ts

abbrev pub last_of : Place → List Place → Place
last_of p [] = p
last_of p (q ∷ qs) = last_of q qs

-- ---- files

-- why reading stops, and the macros that were defined before
abbrev pub Stopped : Type 0
Stopped = TokenStop × List Macro

abbrev pub leaving : {A : Type 0} → List Macro → Result A TokenStop → Result A Stopped
leaving ms (Ok x) = Ok x
leaving ms (Err e) = Err (e, ms)

-- What a function leaves is what is wanted, unless memory runs out; and so are the macros where it stops.
abbrev pub Reaches : {A : Type 0} → Result A TokenStop → Flat → Result Flat Stopped → Type 0
Reaches (Ok x) s wanted = wanted ≡ Ok s
Reaches (Err (Faulty f)) s wanted = wanted ≡ Err (Faulty f, s.macros)
Reaches (Err (Needs name)) s wanted = wanted ≡ Err (Needs name, s.macros)
Reaches (Err Memory) s wanted = Unit {0}

-- the open braces of a file, and what reading has come to
abbrev pub State : Type 0
State = List Place × Flat

-- the same of a line
abbrev pub ReachesLine : {A : Type 0} → Result A TokenStop → State → Result State Stopped → Type 0
ReachesLine (Ok done) x wanted = wanted ≡ Ok x
ReachesLine (Err (Faulty f)) x wanted = wanted ≡ Err (Faulty f, x.1.macros)
ReachesLine (Err (Needs name)) x wanted = wanted ≡ Err (Needs name, x.1.macros)
ReachesLine (Err Memory) x wanted = Unit {0}

-- What a line does that includes a file, which this token names.
abbrev pub Including : Type 0
Including = Token → Flat → Result Flat Stopped

abbrev pub is_closed : List Place → Bool
is_closed opened = length opened == 0

abbrev pub all_closed : List Place → Result (Unit {0}) TokenStop
all_closed [] = Ok tt
all_closed (p ∷ ps) = Err (faulty (last_of p ps) mistakes.OpenBrace)

abbrev pub closed : List Place → Flat → Result Flat Stopped
closed opened s = leaving s.macros (all_closed opened) >>= λ _. Ok s

abbrev pub define : Flat → Macro → Flat
define s m = record s { macros = s.macros ++ (m ∷ []); words_read = s.words_read + words_in m.value }

abbrev pub with_left : Flat → Left → State
with_left s x = (x.0, record s { tokens = x.1 })

-- a line that defines a macro, whose value's words are read
abbrev pub defining : Flat → List Token → Place → Result Flat Stopped
defining s line end_place = leaving s.macros (defined_by s.words_read s.macros line end_place) >>= λ m. Ok (define s m)

-- a line, by its tokens and its newline, when what it stands for was counted: only outside braces are macros defined and files included
unfoldable pub read_counted : Including → List Token → Token → State → Result State Stopped
read_counted include line newline x =
    if is_closed x.0 && is_definition line then (defining x.1 line newline.place >>= λ t. Ok (x.0, t))
    else if is_closed x.0 && is_include line
    then (leaving x.1.macros (file_name x.1.macros line newline.place) >>= λ name. include name x.1 >>= λ t. Ok (x.0, t))
    else (leaving x.1.macros (put_line x.1.macros line (x.0, x.1.tokens) >>= put newline) >>= λ left. Ok (with_left x.1 left))

abbrev pub with_words : State → ℕ → State
with_words x n = (x.0, record x.1 { words_read = n })

unfoldable pub read_line : Including → List Token → Token → State → Result State Stopped
read_line include line newline x =
    leaving x.1.macros (counted_uses x.1.macros x.1.words_read line) >>= λ n. read_counted include line newline (with_words x n)

-- Lines: the tokens before each newline, with that newline.
abbrev pub Line : Type 0
Line = List Token × Token

abbrev pub longer : Token → List Line → List Line
longer t [] = []
longer t (l ∷ ls) = (t ∷ l.0, l.1) ∷ ls

unfoldable pub lines : List Token → List Line
lines [] = []
lines (t ∷ ts) = if is_newline t then ([], t) ∷ lines ts else longer t (lines ts)

unfoldable pub read_lines : Including → List Line → State → Result Flat Stopped
read_lines include [] x = closed x.0 x.1
read_lines include (l ∷ ls) x = read_line include l.0 l.1 x >>= read_lines include ls

-- behind one more file, of these tokens
abbrev pub begun : Flat → List Token → Flat
begun s ts = record s { files_read = s.files_read + 1; words_read = s.words_read + words_in ts }

-- the file of this number, which has this text
abbrev pub read_text : Including → ℕ → List ℕ → Flat → Result Flat Stopped
read_text include number text s =
    leaving s.macros (lex sources.File s.words_read 0 (placed (start_of number) text))
    >>= λ ts. read_lines include (lines ts) ([], begun s ts)

-- files that are included at most so deep
unfoldable pub including : List File → ℕ → Including
including files zero name s = Err (faulty name.place mistakes.DeepInclude, s.macros)
including files (suc deep) name s =
    leaving s.macros (text_of_file files s.files_read name.place (text_of name.text)) >>= λ found. read_text (including files deep) found.0 found.1 s

-- a file, and what it includes, at most so deep
abbrev pub read_file : List File → ℕ → ℕ → List ℕ → Flat → Result Flat Stopped
read_file files deep number text s = read_text (including files deep) number text s

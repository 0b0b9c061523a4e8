-- How many files were read: each mention of a file counts, and there are no more than may be.
use Rattle.std.proofs.Common.{◌≡◌, ℕ, zero, suc, ◌+◌, ◌<◌, ◌≤◌, ◌&&◌, Bool, true, false, nat_lt, List, [], ◌∷◌, Result, Ok, Err, refl, ap, arith, if◌then◌else◌}
use Rattle.std.proofs.lemmas.Bool.Decides.{Decides-ltb}
use Rattle.pf_form.specs.Form.Forms.{◌>>=◌}
use Rattle.pf_tokens.specs.declared.{place.Place.Place, token.Token.Token, files.File.File, files.TheConstants.READING_LIMIT, flat.Macro.Macro, flat.Flat.Flat, fault.TokenStop.TokenStop}
use Rattle.pf_tokens.specs.declared.fault.Mistake.TheVariants as mistakes
use Rattle.pf_tokens.specs.declared.lexing.Source.TheVariants as sources
use Rattle.pf_tokens.specs.{Places.{start_of, text_of}, Stops.faulty, Placed.placed, Lexing.lex, Files.{contents_at, file_from, text_of_file}}
use Rattle.pf_tokens.specs.Flat.{State, Left, Including, Line, put, put_line, defined_by, defining, define, file_name, leaving, lines, counted_uses, begun, with_left, with_words, read_counted, read_line, read_lines, read_text, including, read_file, all_closed, is_closed, is_definition, is_include}
use Rattle.pf_tokens.proofs.Binds.{then_all, or_else, ok_all, err_all}

-- at least so many files were read, and no more than may be
abbrev pub Within : ℕ → ℕ → Type 0
Within low n = (low ≤ n) × (n ≤ READING_LIMIT)

-- ---- one file

room_by : {A : Type 0} (n : ℕ) (b : Bool) (q : Result A TokenStop) (e : TokenStop) (x : A) → nat_lt n READING_LIMIT ≡ b → (if b then q else Err e) ≡ Ok x → n < READING_LIMIT
room_by n true q e x is from = (Decides-ltb n READING_LIMIT).0 is
room_by n false q e x is from = absurd (cc)

pub file_counts : (files : List File) (n : ℕ) (p : Place) (name : List ℕ) (found : ℕ × List ℕ) → text_of_file files n p name ≡ Ok found → n < READING_LIMIT
unfolding text_of_file
file_counts files n p name found from =
    room_by n (nat_lt n READING_LIMIT) (contents_at p name (file_from 0 name files)) (faulty p mistakes.ManyFiles) found refl from

left_ok : {A : Type 0} (ms : List Macro) (r : Result A TokenStop) (x : A) → leaving ms r ≡ Ok x → r ≡ Ok x
left_ok ms (Ok y) x is = let same : y ≡ x = cc in ap (λ z. Ok z) same
left_ok ms (Err e) x is = absurd (cc)

-- ---- its lines

abbrev LineWithin : ℕ → State → Type 0
LineWithin low y = Within low y.1.files_read

abbrev FlatWithin : ℕ → Flat → Type 0
FlatWithin low t = Within low t.files_read

-- a line that includes a file reads more
abbrev Raises : ℕ → Including → Type 0
Raises low include = (name : Token) (s t : Flat) → FlatWithin low s → include name s ≡ Ok t → FlatWithin low t

defining_within : (low : ℕ) (s t : Flat) (line : List Token) (p : Place) → FlatWithin low s → defining s line p ≡ Ok t → FlatWithin low t
defining_within low s t line p known is =
    then_all (FlatWithin low) (leaving s.macros (defined_by s.words_read s.macros line p)) (λ (m : Macro). Ok (define s m)) t
    (λ m defines here. ok_all (FlatWithin low) (define s m) t known here) is

define_within : (low : ℕ) (s : Flat) (line : List Token) (p : Place) (opened : List Place) (y : State) → FlatWithin low s → (defining s line p >>= λ t. Ok (opened, t)) ≡ Ok y → LineWithin low y
define_within low s line p opened y known is =
    then_all (LineWithin low) (defining s line p) (λ (t : Flat). Ok (opened, t)) y (λ t defines here. ok_all (LineWithin low) (opened, t) y (defining_within low s t line p known defines) here) is

include_within : (low : ℕ) (include : Including) → Raises low include → (s : Flat) (line : List Token) (p : Place) (opened : List Place) (y : State) → FlatWithin low s → (leaving s.macros (file_name s.macros line p) >>= λ name. include name s >>= λ t. Ok (opened, t)) ≡ Ok y → LineWithin low y
include_within low include raises s line p opened y known is =
    then_all (LineWithin low) (leaving s.macros (file_name s.macros line p)) (λ (name : Token). include name s >>= λ t. Ok (opened, t)) y
    (λ name named here. then_all (LineWithin low) (include name s) (λ (t : Flat). Ok (opened, t)) y (λ t within last. ok_all (LineWithin low) (opened, t) y (raises name s t known within) last) here) is

put_within : (low : ℕ) (s : Flat) (line : List Token) (newline : Token) (opened : List Place) (y : State) → FlatWithin low s → (leaving s.macros (put_line s.macros line (opened, s.tokens) >>= put newline) >>= λ left. Ok (with_left s left)) ≡ Ok y → LineWithin low y
put_within low s line newline opened y known is =
    then_all (LineWithin low) (leaving s.macros (put_line s.macros line (opened, s.tokens) >>= put newline)) (λ (left : Left). Ok (with_left s left)) y
    (λ x puts here. ok_all (LineWithin low) (with_left s x) y known here) is

counted_within : (low : ℕ) (include : Including) → Raises low include → (line : List Token) (newline : Token) (x y : State) → LineWithin low x → read_counted include line newline x ≡ Ok y → LineWithin low y
unfolding read_counted
counted_within low include raises line newline x y known is =
    or_else (LineWithin low) (is_closed x.0 && is_definition line) y (define_within low x.1 line newline.place x.0 y known)
    (or_else (LineWithin low) (is_closed x.0 && is_include line) y (include_within low include raises x.1 line newline.place x.0 y known) (put_within low x.1 line newline x.0 y known)) is

line_within : (low : ℕ) (include : Including) → Raises low include → (line : List Token) (newline : Token) (x y : State) → LineWithin low x → read_line include line newline x ≡ Ok y → LineWithin low y
unfolding read_line
line_within low include raises line newline x y known is =
    then_all (LineWithin low) (leaving x.1.macros (counted_uses x.1.macros x.1.words_read line)) (λ (n : ℕ). read_counted include line newline (with_words x n)) y
    (λ n counts here. counted_within low include raises line newline (with_words x n) y known here) is

lines_within : (low : ℕ) (include : Including) → Raises low include → (ls : List Line) (x : State) (t : Flat) → LineWithin low x → read_lines include ls x ≡ Ok t → FlatWithin low t
unfolding read_lines
lines_within low include raises [] x t known is =
    then_all (FlatWithin low) (leaving x.1.macros (all_closed x.0)) (λ _. Ok x.1) t (λ u closes here. ok_all (FlatWithin low) x.1 t known here) is
lines_within low include raises (l ∷ ls) x t known is =
    then_all (FlatWithin low) (read_line include l.0 l.1 x) (read_lines include ls) t
    (λ y here following. lines_within low include raises ls y t (line_within low include raises l.0 l.1 x y known here) following) is

text_within : (low : ℕ) (include : Including) → Raises low include → (number : ℕ) (text : List ℕ) (s t : Flat) → Within low (s.files_read + 1) → read_text include number text s ≡ Ok t → FlatWithin low t
text_within low include raises number text s t known is =
    then_all (FlatWithin low) (leaving s.macros (lex sources.File s.words_read 0 (placed (start_of number) text))) (λ (ts : List Token). read_lines include (lines ts) ([], begun s ts)) t
    (λ ts tokens following. lines_within low include raises (lines ts) ([], begun s ts) t known following) is

-- ---- files that are included

raised : (low n : ℕ) → Within low n → n < READING_LIMIT → Within low (n + 1)
raised low n known room = (omega (arith, known.0), omega (arith, room))

including_raises : (low : ℕ) (files : List File) (deep : ℕ) → Raises low (including files deep)
unfolding including
including_raises low files zero name s t known is = err_all (FlatWithin low) (faulty name.place mistakes.DeepInclude, s.macros) t is
including_raises low files (suc deep) name s t known is =
    then_all (FlatWithin low) (leaving s.macros (text_of_file files s.files_read name.place (text_of name.text))) (λ (found : ℕ × List ℕ). read_text (including files deep) found.0 found.1 s) t
    (λ found named following. text_within low (including files deep) (including_raises low files deep) found.0 found.1 s t
    (raised low s.files_read known (file_counts files s.files_read name.place (text_of name.text) found (left_ok s.macros (text_of_file files s.files_read name.place (text_of name.text)) found named))) following) is

pub file_within : (low : ℕ) (files : List File) (deep number : ℕ) (text : List ℕ) (s t : Flat) → Within low (s.files_read + 1) → read_file files deep number text s ≡ Ok t → FlatWithin low t
file_within low files deep number text s t known is = text_within low (including files deep) (including_raises low files deep) number text s t known is

-- How files are read line by line.
use Rattle.std.proofs.Common.{◌≡◌, ◌≢◌, ℕ, zero, suc, ◌+◌, ◌-◌, ◌<◌, ◌≤◌, ◌&&◌, ◌||◌, Bool, true, false, List, [], ◌∷◌, ◌++◌, Result, Ok, Err, length, get_or, take, drop, refl, sym, ap, ◌∙◌, arith, if◌then◌else◌}
use Rattle.std.specs.List.{list_any}
use Rattle.std.proofs.lemmas.{List.{take-append-drop, take_all}, List.Folds.list_any-append}
use Rattle.pf_form.specs.Form.Forms.{◌>>=◌}
use Rattle.pf_tokens.specs.declared.{place.Place.Place, token.Token.Token, files.File.File, flat.Flat.Flat, fault.TokenStop.TokenStop}
use Rattle.pf_tokens.specs.declared.fault.Mistake.TheVariants.{DeepInclude}
use Rattle.pf_tokens.specs.{Words.is_newline, Places.text_of, Stops.faulty, Files.text_of_file}
use Rattle.pf_tokens.specs.Flat.{State, Including, Line, longer, lines, counted_uses, with_words, read_counted, read_line, read_lines, read_text, read_file, including, leaving, closed, is_definition, is_include, put_line, put, is_closed, with_left}
use Rattle.pf_tokens.proofs.Steps.{drop_item, take_item}

-- ---- lines

-- a token before others, given the same of these
lines-longer : (b : Bool) (u : Token) (us ls : List Token) (t : Token) (all : List Line) → (b || list_any is_newline us) ≡ false → (list_any is_newline us ≡ false → all ≡ (us, t) ∷ lines ls) → (if b then ([], u) ∷ all else longer u all) ≡ (u ∷ us, t) ∷ lines ls
lines-longer true u us ls t all none rest = cc
lines-longer false u us ls t all none rest = ap (λ (ms : List Line). longer u ms) (rest none)

pub lines-cons : (line : List Token) (t : Token) (ts : List Token) → list_any is_newline line ≡ false → is_newline t ≡ true → lines (line ++ t ∷ ts) ≡ (line, t) ∷ lines ts
unfolding lines
lines-cons [] t ts none is = rw is refl
lines-cons (u ∷ us) t ts none is = lines-longer (is_newline u) u us ts t (lines (us ++ t ∷ ts)) none (λ no. lines-cons us t ts no is)

longer-none : (b : Bool) (u : Token) (us : List Token) (all : List Line) → (b || list_any is_newline us) ≡ false → (list_any is_newline us ≡ false → all ≡ []) → (if b then ([], u) ∷ all else longer u all) ≡ []
longer-none true u us all none rest = cc
longer-none false u us all none rest = ap (λ (ms : List Line). longer u ms) (rest none)

pub lines-none : (line : List Token) → list_any is_newline line ≡ false → lines line ≡ []
unfolding lines
lines-none [] none = refl
lines-none (u ∷ us) none = longer-none (is_newline u) u us (lines us) none (λ no. lines-none us no)

pub read_lines_first : (include : Including) (l : Line) (ls : List Line) (x : State) → read_lines include (l ∷ ls) x ≡ (read_line include l.0 l.1 x >>= read_lines include ls)
unfolding read_lines
read_lines_first include l ls x = refl

pub read_lines-end : (include : Including) (opened : List Place) (s : Flat) → read_lines include [] (opened, s) ≡ closed opened s
unfolding read_lines
read_lines-end include opened s = refl

-- ---- the first line

pub first_line_is : (ts : List Token) (end : ℕ) (t : Token) → end < length ts → t ≡ get_or ts end t → list_any is_newline (take end ts) ≡ false → is_newline t ≡ true → lines ts ≡ (take end ts, t) ∷ lines (drop (end + 1) ts)
first_line_is ts end t in_list here none is =
    ap (λ (us : List Token). lines us) (sym (take-append-drop end ts) ∙ ap (λ (us : List Token). take end ts ++ us) (drop_item ts end t in_list here))
    ∙ lines-cons (take end ts) t (drop (end + 1) ts) none is

pub no_newline_more : (ts : List Token) (end : ℕ) (t : Token) → end < length ts → t ≡ get_or ts end t → list_any is_newline (take end ts) ≡ false → is_newline t ≡ false → list_any is_newline (take (end + 1) ts) ≡ false
no_newline_more ts end t in_list here none is =
    ap (λ (us : List Token). list_any is_newline us) (take_item ts end t in_list here)
    ∙ list_any-append is_newline (take end ts) (t ∷ [])
    ∙ rw (none, is) refl

pub no_line : (ts : List Token) (end : ℕ) → length ts ≤ end → list_any is_newline (take end ts) ≡ false → lines ts ≡ []
no_line ts end is_end none = lines-none ts (ap (λ (us : List Token). list_any is_newline us) (sym (take_all end ts is_end)) ∙ none)

-- ---- what a line does

pub read_counted_puts : (include : Including) (line : List Token) (newline : Token) (opened : List Place) (s : Flat) → (is_closed opened && is_definition line) ≡ false → (is_closed opened && is_include line) ≡ false → read_counted include line newline (opened, s) ≡ (leaving s.macros (put_line s.macros line (opened, s.tokens) >>= put newline) >>= λ x. Ok (with_left s x))
unfolding read_counted
read_counted_puts include line newline opened s defines includes = rw (defines, includes) refl

pub read_line_first : (include : Including) (line : List Token) (newline : Token) (x : State) (n : ℕ) → counted_uses x.1.macros x.1.words_read line ≡ Ok n → read_line include line newline x ≡ read_counted include line newline (with_words x n)
unfolding read_line
read_line_first include line newline x n counts = rw counts refl

pub read_line_past : (include : Including) (line : List Token) (newline : Token) (x : State) (e : TokenStop) → counted_uses x.1.macros x.1.words_read line ≡ Err e → read_line include line newline x ≡ Err (e, x.1.macros)
unfolding read_line
read_line_past include line newline x e past = rw past refl

-- ---- included files

pub including_deeper : (files : List File) (deep : ℕ) (name : Token) (s : Flat) → deep ≢ 0 → including files deep name s ≡ (leaving s.macros (text_of_file files s.files_read name.place (text_of name.text)) >>= λ (found : ℕ × List ℕ). read_text (including files (deep - 1)) found.0 found.1 s)
unfolding including
including_deeper files zero name s deep = absurd (deep refl)
including_deeper files (suc n) name s deep = ap (λ (k : ℕ). leaving s.macros (text_of_file files s.files_read name.place (text_of name.text)) >>= λ (found : ℕ × List ℕ). read_text (including files k) found.0 found.1 s) (omega arith)

pub including_too_deep : (files : List File) (deep : ℕ) (name : Token) (s : Flat) → deep ≡ 0 → including files deep name s ≡ Err (faulty name.place DeepInclude, s.macros)
unfolding including
including_too_deep files deep name s none = rw none refl

pub including_stops : (files : List File) (deep : ℕ) (name : Token) (s : Flat) (d : TokenStop) → deep ≢ 0 → text_of_file files s.files_read name.place (text_of name.text) ≡ Err d → including files deep name s ≡ Err (d, s.macros)
including_stops files deep name s d some stops =
    including_deeper files deep name s some
    ∙ ap (λ (r : Result (ℕ × List ℕ) TokenStop). leaving s.macros r >>= λ (found : ℕ × List ℕ). read_text (including files (deep - 1)) found.0 found.1 s) stops

pub including_goes_on : (files : List File) (deep : ℕ) (name : Token) (s : Flat) (number : ℕ) (text : List ℕ) → deep ≢ 0 → text_of_file files s.files_read name.place (text_of name.text) ≡ Ok (number, text) → including files deep name s ≡ read_file files (deep - 1) number text s
including_goes_on files deep name s number text some found =
    including_deeper files deep name s some
    ∙ ap (λ (r : Result (ℕ × List ℕ) TokenStop). leaving s.macros r >>= λ (found : ℕ × List ℕ). read_text (including files (deep - 1)) found.0 found.1 s) found

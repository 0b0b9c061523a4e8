-- No use of a macro is left.
use Rattle.std.proofs.Common.{◌≡◌, ℕ, zero, suc, ◌+◌, ◌==◌, ◌&&◌, ◌||◌, Bool, true, false, nat_lt, Option, Some, None, List, [], ◌∷◌, ◌++◌, map, length, take, Result, Ok, Err, refl, ap, ◌∙◌, if◌then◌else◌}
use Rattle.std.specs.{List.{list_any, list_all}, Option.{option_to_list}}
use Rattle.std.proofs.lemmas.List.Folds.{list_any-append}
use Rattle.pf_form.specs.Form.Forms.{◌>>=◌}
use Rattle.pf_tokens.specs.declared.{place.Place.Place, place.Placed.Placed, token.Token.Token, token.Kind.Kind, files.File.File, flat.Macro.Macro, flat.Flat.Flat, counting.TheConstants.TOKEN_LIMIT, lexing.Front.Front, fault.TokenStop.TokenStop}
use Rattle.pf_tokens.specs.declared.token.Kind.TheVariants.{Word, Quoted, Symbol, Macro as Use, Newline}
use Rattle.pf_tokens.specs.declared.fault.Mistake.TheVariants.{CommentInValue, MacroInValue}
use Rattle.pf_tokens.specs.declared.fault.Mistake.TheVariants as mistakes
use Rattle.pf_tokens.specs.declared.lexing.Source.TheVariants as sources
use Rattle.pf_tokens.specs.declared.lexing.Run.TheVariants as runs
use Rattle.pf_tokens.specs.{Places.{start_of, used_at, text_of}, Counting.counted_some, Stops.faulty, Words.{is_newline, is_macro, same_kind}, Placed.placed, Laws.HasNoMacro}
use Rattle.pf_tokens.specs.Lexing.{front, lex, token_of, skipped, word, a_quoted, a_symbol, symbol_more, quoted, word_checked, run_of, is_quote, is_letter}
use Rattle.pf_tokens.specs.Files.{text_of_file}
use Rattle.pf_tokens.proofs.Binds.{then_all, or_else, ok_all, err_all}
use Rattle.pf_tokens.specs.{Latest.{latest, value_of, is_word_at}, Flat.{name_of, modifier_of, modifier_checked, used, State, parts_of, value_at, replaced, Left, put, put_each, put_line, braces, text_of_value, is_one_word, macro_of, defined, defined_by, defining, name_checked, first_place, file_name, leaving, Including, Line, longer, lines, define, counted_uses, begun, with_left, with_words, read_counted, read_line, read_lines, read_text, including, read_file, all_closed, is_closed, is_definition, is_include}}

abbrev Free : List Token → Type 0
Free ts = list_any is_macro ts ≡ false

free-append : (ts us : List Token) → Free ts → Free us → Free (ts ++ us)
free-append ts us a b = list_any-append is_macro ts us ∙ rw (a, b) refl

pub or-false_left : (a b : Bool) → (a || b) ≡ false → a ≡ false
or-false_left true b is = is
or-false_left false b is = refl

pub or-false_right : (a b : Bool) → (a || b) ≡ false → b ≡ false
or-false_right true b is = cc
or-false_right false b is = is

free-head : (t : Token) (ts : List Token) → Free (t ∷ ts) → is_macro t ≡ false
free-head t ts is = or-false_left (is_macro t) (list_any is_macro ts) is

free-tail : (t : Token) (ts : List Token) → Free (t ∷ ts) → Free ts
free-tail t ts is = or-false_right (is_macro t) (list_any is_macro ts) is

free-cons : (t : Token) (ts : List Token) → is_macro t ≡ false → Free ts → Free (t ∷ ts)
free-cons t ts a b = rw (a, b) refl

-- ---- a value's tokens

abbrev FreeFront : Front → Type 0
FreeFront f = Free (option_to_list f.token)

quoted-free : (c : Placed) (cs : List Placed) (f : Front) → a_quoted c cs ≡ Ok f → FreeFront f
quoted-free c cs f is = then_all FreeFront (quoted c cs) (λ n. Ok (token_of Quoted c (take n cs) (n + 1))) f (λ n count. ok_all FreeFront (token_of Quoted c (take n cs) (n + 1)) f refl) is

word-free : (c : Placed) (cs : List Placed) (f : Front) → word c cs ≡ Ok f → FreeFront f
word-free c cs f is =
    let text : List Placed = c ∷ run_of runs.Word cs in
    let made : Front = token_of Word c text (length (run_of runs.Word cs)) in
    then_all FreeFront (word_checked text) (λ _. Ok made) f (λ u checked. ok_all FreeFront made f refl) is

symbol-free : (c : Placed) (cs : List Placed) (f : Front) → a_symbol c cs ≡ Ok f → FreeFront f
symbol-free c cs f is = then_all FreeFront (symbol_more c cs) (λ n. Ok (token_of Symbol c (c ∷ take n cs) n)) f (λ n more. ok_all FreeFront (token_of Symbol c (c ∷ take n cs) n) f refl) is

front-free : (c : Placed) (cs : List Placed) (f : Front) → front sources.Value c cs ≡ Ok f → FreeFront f
unfolding front
front-free c cs f is =
    or_else FreeFront ((c.byte == 32) || (c.byte == 9)) f (ok_all FreeFront (skipped 0) f refl)
    (or_else FreeFront (c.byte == 10) f (ok_all FreeFront (token_of Newline c [] 0) f refl)
    (or_else FreeFront (c.byte == 35) f (err_all FreeFront (faulty c.place CommentInValue) f)
    (or_else FreeFront (is_quote c.byte) f (quoted-free c cs f)
    (or_else FreeFront (c.byte == 36) f (err_all FreeFront (faulty c.place MacroInValue) f)
    (or_else FreeFront (is_letter c.byte || (c.byte == 58)) f (word-free c cs f) (symbol-free c cs f)))))) is

lex-free : (n more : ℕ) (cs : List Placed) (ts : List Token) → lex sources.Value n more cs ≡ Ok ts → Free ts
unfolding lex
lex-free n more [] ts is = ok_all Free [] ts refl is
lex-free n (suc more) (c ∷ cs) ts is = lex-free n more cs ts is
lex-free n zero (c ∷ cs) ts is =
    then_all Free (front sources.Value c cs) (λ (f : Front). counted_some n f.token >>= λ m. lex sources.Value m f.more cs >>= λ us. Ok (option_to_list f.token ++ us)) ts
    (λ f at_front counts. then_all Free (counted_some n f.token) (λ (m : ℕ). lex sources.Value m f.more cs >>= λ us. Ok (option_to_list f.token ++ us)) ts
    (λ m fits following. then_all Free (lex sources.Value m f.more cs) (λ (us : List Token). Ok (option_to_list f.token ++ us)) ts
    (λ us others. ok_all Free (option_to_list f.token ++ us) ts (free-append (option_to_list f.token) us (front-free c cs f at_front) (lex-free m f.more cs us others))) following) counts) is

-- ---- what tokens stand for

abbrev Values : List Macro → Type 0
Values ms = list_any (λ (m : Macro). list_any is_macro m.value) ms ≡ false

used-free : (p : Place) (modifier : List Placed) (ts : List Token) → Free ts → Free (map (used p modifier) ts)
used-free p modifier [] is = refl
used-free p modifier (t ∷ ts) is = free-cons (used p modifier t) (map (used p modifier) ts) (free-head t ts is)
    (used-free p modifier ts (free-tail t ts is))

values-head : (m : Macro) (ms : List Macro) → Values (m ∷ ms) → Free m.value
values-head m ms is = or-false_left (list_any is_macro m.value) (list_any (λ (n : Macro). list_any is_macro n.value) ms) is

values-tail : (m : Macro) (ms : List Macro) → Values (m ∷ ms) → Values ms
values-tail m ms is = or-false_right (list_any is_macro m.value) (list_any (λ (n : Macro). list_any is_macro n.value) ms) is

value_of-free : (ms : List Macro) (n : ℕ) → Values ms → Free (value_of ms n)
value_of-free [] n is = refl
value_of-free (m ∷ ms) zero is = values-head m ms is
value_of-free (m ∷ ms) (suc n) is = value_of-free ms n (values-tail m ms is)

value_at-free : (t : Token) (ms : List Macro) (o : Option ℕ) (ps : List Token) → Values ms → value_at t ms o ≡ Ok ps → Free ps
value_at-free t ms None ps values is = err_all Free (faulty t.place (mistakes.Undefined (text_of (name_of t)))) ps is
value_at-free t ms (Some n) ps values is =
    let there : Place = used_at t.place n in
    let made : List Token = map (used there (modifier_of t)) (value_of ms n) in
    then_all Free (modifier_checked (is_word_at ms n) (modifier_of t)) (λ _. Ok made) ps
    (λ u checked. ok_all Free made ps (used-free there (modifier_of t) (value_of ms n) (value_of-free ms n values))) is

parts-free_by : (b : Bool) (ms : List Macro) (t : Token) (ps : List Token) → is_macro t ≡ b → Values ms
    → (if b then value_at t ms (latest (text_of (name_of t)) ms) else Ok (t ∷ [])) ≡ Ok ps → Free ps
parts-free_by true ms t ps is values here = value_at-free t ms (latest (text_of (name_of t)) ms) ps values here
parts-free_by false ms t ps is values here = ok_all Free (t ∷ []) ps (free-cons t [] is refl) here

parts_of-free : (ms : List Macro) (t : Token) (ps : List Token) → Values ms → parts_of ms t ≡ Ok ps → Free ps
unfolding parts_of
parts_of-free ms t ps values is = parts-free_by (is_macro t) ms t ps refl values is

-- ---- tokens that are left

abbrev LeftFree : Left → Type 0
LeftFree x = Free x.1

put-free : (t : Token) (x y : Left) → is_macro t ≡ false → LeftFree x → put t x ≡ Ok y → LeftFree y
unfolding put
put-free t x y e free is =
    or_else LeftFree (nat_lt (length x.1) TOKEN_LIMIT) y
    (ok_all LeftFree (braces t x.0, x.1 ++ (t ∷ [])) y (free-append x.1 (t ∷ []) free (free-cons t [] e refl)))
    (err_all LeftFree (faulty t.place mistakes.ManyWords) y) is

put_each-free : (ts : List Token) (x y : Left) → Free ts → LeftFree x → put_each ts x ≡ Ok y → LeftFree y
unfolding put_each
put_each-free [] x y all free is = ok_all LeftFree x y free is
put_each-free (t ∷ ts) x y all free is =
    then_all LeftFree (put t x) (put_each ts) y (λ z at_first following. put_each-free ts z y (free-tail t ts all) (put-free t x z (free-head t ts all) free at_first) following) is

put_line-free : (ms : List Macro) (ts : List Token) (x y : Left) → Values ms → LeftFree x → put_line ms ts x ≡ Ok y → LeftFree y
unfolding put_line
put_line-free ms [] x y values free is = ok_all LeftFree x y free is
put_line-free ms (t ∷ ts) x y values free is =
    then_all LeftFree (parts_of ms t) (λ (ps : List Token). put_each ps x >>= put_line ms ts) y
    (λ ps parts following. then_all LeftFree (put_each ps x) (put_line ms ts) y
    (λ z here others. put_line-free ms ts z y values (put_each-free ps x z (parts_of-free ms t ps values parts) free here) others) following) is

-- ---- definitions

abbrev MacroFree : Macro → Type 0
MacroFree m = Free m.value

macro_of-free : (n : ℕ) (name : List ℕ) (text : List Placed) (m : Macro) → macro_of n name text ≡ Ok m → MacroFree m
macro_of-free n name text m is =
    then_all MacroFree (lex sources.Value n 0 text)
    (λ (value : List Token). Ok (record { name = name; is_word = is_one_word text value; value = value })) m
    (λ value read here. ok_all MacroFree (record { name = name; is_word = is_one_word text value; value = value }) m
    (lex-free n 0 text value read) here) is

defined-free : (n : ℕ) (ms : List Macro) (name : Token) (following : List Token) (p : Place) (m : Macro) → defined n ms name following p ≡ Ok m → MacroFree m
unfolding defined
defined-free n ms name following p m is =
    then_all MacroFree (name_checked name) (λ _. replaced ms following >>= text_of_value (first_place following p) p
    >>= macro_of n (text_of name.text)) m
    (λ u checked whole. then_all MacroFree (replaced ms following >>= text_of_value (first_place following p) p)
    (macro_of n (text_of name.text)) m
    (λ text read here. macro_of-free n (text_of name.text) text m here) whole) is

defined_by-free : (n : ℕ) (ms : List Macro) (line : List Token) (p : Place) (m : Macro) → defined_by n ms line p ≡ Ok m → MacroFree m
defined_by-free n ms [] p m is = err_all MacroFree (faulty p mistakes.NoValue) m is
defined_by-free n ms (name ∷ []) p m is = err_all MacroFree (faulty p mistakes.NoValue) m is
defined_by-free n ms (name ∷ equals ∷ following) p m is = defined-free n ms name following p m is

-- ---- files

left_all : {A : Type 0} (P : A → Type 0) (ms : List Macro) (r : Result A TokenStop) (y : A) → (r ≡ Ok y → P y) → leaving ms r ≡ Ok y → P y
left_all {A} P ms (Ok x) y all is = let same : x ≡ y = cc in all (ap (λ (z : A). Ok z) same)
left_all P ms (Err e) y all is = err_all P (e, ms) y is

abbrev LineFree : State → Type 0
LineFree x = HasNoMacro x.1

-- an included file leaves none
abbrev Keeps : Including → Type 0
Keeps include = (name : Token) (s t : Flat) → HasNoMacro s → include name s ≡ Ok t → HasNoMacro t

newline-no_use : (k : Kind) → same_kind k Newline ≡ true → same_kind k Use ≡ false
newline-no_use Word is = refl
newline-no_use Quoted is = refl
newline-no_use Symbol is = refl
newline-no_use Use is = cc
newline-no_use Newline is = refl

pub newline-no_macro : (t : Token) → is_newline t ≡ true → is_macro t ≡ false
newline-no_macro t is = newline-no_use t.kind is

-- ---- a line

defining-free : (s t : Flat) (line : List Token) (p : Place) → HasNoMacro s → defining s line p ≡ Ok t → HasNoMacro t
defining-free s t line p free is =
    then_all HasNoMacro (leaving s.macros (defined_by s.words_read s.macros line p)) (λ (m : Macro). Ok (define s m)) t
    (λ m defines here. ok_all HasNoMacro (define s m) t (record {
      tokens = free.tokens;
      values = list_any-append (λ (n : Macro). list_any is_macro n.value) s.macros (m ∷ []) ∙ rw (free.values, left_all MacroFree s.macros (defined_by s.words_read s.macros line p) m (defined_by-free s.words_read s.macros line p m) defines) refl;
    }) here) is

define-free : (s : Flat) (line : List Token) (p : Place) (opened : List Place) (y : State) → HasNoMacro s → (defining s line p >>= λ t. Ok (opened, t)) ≡ Ok y → LineFree y
define-free s line p opened y free is =
    then_all LineFree (defining s line p) (λ (t : Flat). Ok (opened, t)) y (λ t defines here. ok_all LineFree (opened, t) y (defining-free s t line p free defines) here) is

include-free : (include : Including) → Keeps include → (s : Flat) (line : List Token) (p : Place) (opened : List Place) (y : State) → HasNoMacro s → (leaving s.macros (file_name s.macros line p) >>= λ name. include name s >>= λ t. Ok (opened, t)) ≡ Ok y → LineFree y
include-free include keeps s line p opened y free is =
    then_all LineFree (leaving s.macros (file_name s.macros line p)) (λ (name : Token). include name s >>= λ t. Ok (opened, t)) y
    (λ name named here. then_all LineFree (include name s) (λ (t : Flat). Ok (opened, t)) y (λ t within last. ok_all LineFree (opened, t) y (keeps name s t free within) last) here) is

left_line-free : (s : Flat) (line : List Token) (newline : Token) (opened : List Place) (x : Left) → is_newline newline ≡ true → HasNoMacro s → (put_line s.macros line (opened, s.tokens) >>= put newline) ≡ Ok x → LeftFree x
left_line-free s line newline opened x is_end free is =
    then_all LeftFree (put_line s.macros line (opened, s.tokens)) (put newline) x (λ z before last. put-free newline z x (newline-no_macro newline is_end) (put_line-free s.macros line (opened, s.tokens) z free.values free.tokens before) last) is

put-line_free : (s : Flat) (line : List Token) (newline : Token) (opened : List Place) (y : State) → is_newline newline ≡ true → HasNoMacro s → (leaving s.macros (put_line s.macros line (opened, s.tokens) >>= put newline) >>= λ left. Ok (with_left s left)) ≡ Ok y → LineFree y
put-line_free s line newline opened y is_end free is =
    then_all LineFree (leaving s.macros (put_line s.macros line (opened, s.tokens) >>= put newline)) (λ (left : Left). Ok (with_left s left)) y
    (λ x puts here. ok_all LineFree (with_left s x) y (record {
      tokens = left_all LeftFree s.macros (put_line s.macros line (opened, s.tokens) >>= put newline) x (left_line-free s line newline opened x is_end free) puts;
      values = free.values;
    }) here) is

read_counted-free : (include : Including) → Keeps include → (line : List Token) (newline : Token) (x y : State) → is_newline newline ≡ true → HasNoMacro x.1 → read_counted include line newline x ≡ Ok y → LineFree y
unfolding read_counted
read_counted-free include keeps line newline x y is_end free is =
    or_else LineFree (is_closed x.0 && is_definition line) y (define-free x.1 line newline.place x.0 y free)
    (or_else LineFree (is_closed x.0 && is_include line) y (include-free include keeps x.1 line newline.place x.0 y free) (put-line_free x.1 line newline x.0 y is_end free)) is

read_line-free : (include : Including) → Keeps include → (line : List Token) (newline : Token) (x y : State) → is_newline newline ≡ true → HasNoMacro x.1 → read_line include line newline x ≡ Ok y → LineFree y
unfolding read_line
read_line-free include keeps line newline x y is_end free is =
    then_all LineFree (leaving x.1.macros (counted_uses x.1.macros x.1.words_read line)) (λ (n : ℕ). read_counted include line newline (with_words x n)) y
    (λ n counts here. read_counted-free include keeps line newline (with_words x n) y is_end (record { tokens = free.tokens; values = free.values }) here) is

-- each line ends with a newline
abbrev Ended : List Line → Type 0
Ended ls = list_all (λ (l : Line). is_newline l.1) ls ≡ true

pub and-left : (a b : Bool) → (a && b) ≡ true → a ≡ true
and-left true b is = refl
and-left false b is = is

pub and-right : (a b : Bool) → (a && b) ≡ true → b ≡ true
and-right true b is = is
and-right false b is = cc

longer-ended : (t : Token) (ls : List Line) → Ended ls → Ended (longer t ls)
longer-ended t [] is = refl
longer-ended t (l ∷ ls) is = is

line-ended : (b : Bool) (t : Token) (ls : List Line) → is_newline t ≡ b → Ended ls → Ended (if b then ([], t) ∷ ls else longer t ls)
line-ended true t ls is ended = rw (is, ended) refl
line-ended false t ls is ended = longer-ended t ls ended

lines-ended : (ts : List Token) → Ended (lines ts)
unfolding lines
lines-ended [] = refl
lines-ended (t ∷ ts) = line-ended (is_newline t) t (lines ts) refl (lines-ended ts)

read_lines-free : (include : Including) → Keeps include → (ls : List Line) (x : State) (t : Flat) → Ended ls → LineFree x → read_lines include ls x ≡ Ok t → HasNoMacro t
unfolding read_lines
read_lines-free include keeps [] x t ended free is =
    then_all HasNoMacro (leaving x.1.macros (all_closed x.0)) (λ _. Ok x.1) t (λ u closes here. ok_all HasNoMacro x.1 t free here) is
read_lines-free include keeps (l ∷ ls) x t ended free is =
    then_all HasNoMacro (read_line include l.0 l.1 x) (read_lines include ls) t
    (λ y here following. read_lines-free include keeps ls y t (and-right (is_newline l.1) (list_all (λ (m : Line). is_newline m.1) ls) ended) (read_line-free include keeps l.0 l.1 x y (and-left (is_newline l.1) (list_all (λ (m : Line). is_newline m.1) ls) ended) free here) following) is

read_text-free : (include : Including) → Keeps include → (number : ℕ) (text : List ℕ) (s t : Flat) → HasNoMacro s → read_text include number text s ≡ Ok t → HasNoMacro t
read_text-free include keeps number text s t free is =
    then_all HasNoMacro (leaving s.macros (lex sources.File s.words_read 0 (placed (start_of number) text))) (λ (ts : List Token). read_lines include (lines ts) ([], begun s ts)) t
    (λ ts tokens following. read_lines-free include keeps (lines ts) ([], begun s ts) t (lines-ended ts) (record { tokens = free.tokens; values = free.values }) following) is

including-free : (files : List File) (deep : ℕ) → Keeps (including files deep)
unfolding including
including-free files zero name s t free is = err_all HasNoMacro (faulty name.place mistakes.DeepInclude, s.macros) t is
including-free files (suc deep) name s t free is =
    then_all HasNoMacro (leaving s.macros (text_of_file files s.files_read name.place (text_of name.text))) (λ (found : ℕ × List ℕ). read_text (including files deep) found.0 found.1 s) t
    (λ found named following. read_text-free (including files deep) (including-free files deep) found.0 found.1 s t free following) is

pub read_file_free : (files : List File) (deep number : ℕ) (text : List ℕ) (s t : Flat) → HasNoMacro s → read_file files deep number text s ≡ Ok t → HasNoMacro t
read_file_free files deep number text s t free is = read_text-free (including files deep) (including-free files deep) number text s t free is

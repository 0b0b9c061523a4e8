-- Lines without macros, definitions and includes are left as they are.
use Rattle.std.proofs.Common.{◌≡◌, ℕ, ◌+◌, ◌<◌, ◌≤◌, ◌&&◌, not, Bool, true, false, List, [], ◌∷◌, ◌++◌, length, Result, Ok, refl, sym, ap, ◌∙◌, append_assoc, length-append, arith}
use Rattle.std.specs.List.{list_any, list_all}
use Rattle.std.proofs.lemmas.{List.append-nil, Bool.lt-ltb, Grind.fold-append}
use Rattle.pf_form.specs.Form.Forms.{◌>>=◌}
use Rattle.pf_tokens.specs.declared.{place.Place.Place, token.Token.Token, files.File.File, flat.Macro.Macro, flat.Flat.Flat, counting.TheConstants.TOKEN_LIMIT, fault.TokenStop.TokenStop}
use Rattle.pf_tokens.specs.declared.lexing.Source.TheVariants as sources
use Rattle.pf_tokens.specs.{Places.start_of, Words.{is_newline, is_macro}, Placed.placed, Lexing.lex, Laws.{is_plain, tokens_of, open_after}}
use Rattle.pf_tokens.specs.Flat.{State, parts_of, Left, put, put_each, put_line, braces, leaving, Stopped, Including, Line, lines, begun, counted_use, counted_uses, with_left, read_line, read_lines, including, read_file, closed, is_definition, is_include, is_closed}
use Rattle.pf_tokens.proofs.{Lines.{lines-cons, read_lines_first, read_lines-end, read_line_first, read_counted_puts}, MacroFree.{and-left, and-right, or-false_left, or-false_right}}

not-false : (b : Bool) → not b ≡ true → b ≡ false
not-false true is = cc
not-false false is = refl

-- a token that uses no macro is put as it is, if there is room
parts-plain : (ms : List Macro) (t : Token) → is_macro t ≡ false → parts_of ms t ≡ Ok (t ∷ [])
unfolding parts_of
parts-plain ms t is = rw is refl

put-fits : (t : Token) (opened : List Place) (ts : List Token) → length ts < TOKEN_LIMIT → put t (opened, ts) ≡ Ok (braces t opened, ts ++ (t ∷ []))
unfolding put
put-fits t opened ts fits = rw (lt-ltb (length ts) TOKEN_LIMIT fits) refl

put_first : (ms : List Macro) (t : Token) (line : List Token) (opened : List Place) (ts : List Token) → is_macro t ≡ false → length ts < TOKEN_LIMIT → put_line ms (t ∷ line) (opened, ts) ≡ put_line ms line (braces t opened, ts ++ (t ∷ []))
unfolding put_line put_each
put_first ms t line opened ts plain fits = rw (parts-plain ms t plain, put-fits t opened ts fits) refl

put_line-plain : (ms : List Macro) (line : List Token) (opened : List Place) (ts : List Token) → list_any is_macro line ≡ false → length ts + length line ≤ TOKEN_LIMIT → put_line ms line (opened, ts) ≡ Ok (open_after opened line, ts ++ line)
unfolding put_line
put_line-plain ms [] opened ts plain fits = ap (λ (us : List Token). Ok (opened, us)) (sym (append-nil ts))
put_line-plain ms (t ∷ line) opened ts plain fits =
    put_first ms t line opened ts (or-false_left (is_macro t) (list_any is_macro line) plain) (omega arith)
    ∙ put_line-plain ms line (braces t opened) (ts ++ (t ∷ [])) (or-false_right (is_macro t) (list_any is_macro line) plain) (simp length-append (omega arith))
    ∙ ap (λ (us : List Token). Ok (open_after (braces t opened) line, us)) (append_assoc ts (t ∷ []) line)

-- nothing is counted of a line without macros
counted-plain : (ms : List Macro) (n : ℕ) (line : List Token) → list_any is_macro line ≡ false → counted_uses ms n line ≡ Ok n
unfolding counted_uses counted_use
counted-plain ms n [] plain = refl
counted-plain ms n (t ∷ line) plain =
    rw (or-false_left (is_macro t) (list_any is_macro line) plain) (counted-plain ms n line (or-false_right (is_macro t) (list_any is_macro line) plain))

-- ---- a plain line, by its parts

module _ (l : Line) (plain : is_plain l ≡ true) where
  ends : is_newline l.1 ≡ true
  ends = and-left (is_newline l.1) _ plain

  others : (not (list_any is_newline l.0) && (not (list_any is_macro l.0) && (not (is_definition l.0) && not (is_include l.0)))) ≡ true
  others = and-right (is_newline l.1) _ plain

  one_line : list_any is_newline l.0 ≡ false
  one_line = not-false (list_any is_newline l.0) (and-left (not (list_any is_newline l.0)) _ others)

  no_macro : list_any is_macro l.0 ≡ false
  no_macro = not-false (list_any is_macro l.0) (and-left (not (list_any is_macro l.0)) _ (and-right (not (list_any is_newline l.0)) _ others))

  neither : (not (is_definition l.0) && not (is_include l.0)) ≡ true
  neither = and-right (not (list_any is_macro l.0)) _ (and-right (not (list_any is_newline l.0)) _ others)

  no_definition : is_definition l.0 ≡ false
  no_definition = not-false (is_definition l.0) (and-left (not (is_definition l.0)) _ neither)

  no_include : is_include l.0 ≡ false
  no_include = not-false (is_include l.0) (and-right (not (is_definition l.0)) _ neither)

and_false : (a b : Bool) → b ≡ false → (a && b) ≡ false
and_false true b is = is
and_false false b is = refl

abbrev after_line : Line → List Place → Flat → State
after_line l opened s = (open_after opened (l.0 ++ (l.1 ∷ [])), record s { tokens = s.tokens ++ (l.0 ++ (l.1 ∷ [])) })

put_plain : (l : Line) (ms : List Macro) (opened : List Place) (ts : List Token) → is_plain l ≡ true → length ts + length (l.0 ++ (l.1 ∷ [])) ≤ TOKEN_LIMIT → (put_line ms l.0 (opened, ts) >>= put l.1) ≡ Ok (open_after opened (l.0 ++ (l.1 ∷ [])), ts ++ (l.0 ++ (l.1 ∷ [])))
put_plain l ms opened ts plain fits =
    let room : length ts + (length l.0 + 1) ≤ TOKEN_LIMIT = simp length-append at fits in
    let room' : length (ts ++ l.0) < TOKEN_LIMIT = simp length-append (omega arith) in
    ap (λ (r : Result Left TokenStop). r >>= put l.1) (put_line-plain ms l.0 opened ts (no_macro l plain) (omega arith))
    ∙ put-fits l.1 (open_after opened l.0) (ts ++ l.0) room'
    ∙ ap (λ (o : List Place). Ok (o, (ts ++ l.0) ++ (l.1 ∷ []))) (sym (fold-append (λ (o : List Place) (t : Token). braces t o) opened l.0 (l.1 ∷ [])))
    ∙ ap (λ (us : List Token). Ok (open_after opened (l.0 ++ (l.1 ∷ [])), us)) (append_assoc ts l.0 (l.1 ∷ []))

read_line-plain : (include : Including) (l : Line) (opened : List Place) (s : Flat) → is_plain l ≡ true → length s.tokens + length (l.0 ++ (l.1 ∷ [])) ≤ TOKEN_LIMIT → read_line include l.0 l.1 (opened, s) ≡ Ok (after_line l opened s)
read_line-plain include l opened s plain fits =
    read_line_first include l.0 l.1 (opened, s) s.words_read (counted-plain s.macros s.words_read l.0 (no_macro l plain))
    ∙ read_counted_puts include l.0 l.1 opened s (and_false (is_closed opened) (is_definition l.0) (no_definition l plain)) (and_false (is_closed opened) (is_include l.0) (no_include l plain))
    ∙ ap (λ (r : Result Left TokenStop). leaving s.macros r >>= λ x. Ok (with_left s x)) (put_plain l s.macros opened s.tokens plain fits)

read_lines-plain : (include : Including) (ls : List Line) (opened : List Place) (s : Flat) → list_all is_plain ls ≡ true → open_after opened (tokens_of ls) ≡ [] → length s.tokens + length (tokens_of ls) ≤ TOKEN_LIMIT → read_lines include ls (opened, s) ≡ Ok (record s { tokens = s.tokens ++ tokens_of ls })
read_lines-plain include [] opened s plain closes fits =
    read_lines-end include opened s ∙ ap (λ (o : List Place). closed o s) closes ∙ ap (λ (ts : List Token). Ok (record s { tokens = ts })) (sym (append-nil s.tokens))
read_lines-plain include (l ∷ ls) opened s plain closes fits =
    let line : List Token = l.0 ++ (l.1 ∷ []) in
    let all : length (tokens_of (l ∷ ls)) ≡ length line + length (tokens_of ls) = length-append line (tokens_of ls) in
    let room : length s.tokens + (length line + length (tokens_of ls)) ≤ TOKEN_LIMIT = omega (arith, all, fits) in
    let room' : length (s.tokens ++ line) + length (tokens_of ls) ≤ TOKEN_LIMIT = omega (arith, length-append s.tokens line, room) in
    read_lines_first include l ls (opened, s)
    ∙ ap (λ (r : Result State Stopped). r >>= read_lines include ls) (read_line-plain include l opened s (and-left (is_plain l) _ plain) (omega arith))
    ∙ read_lines-plain include ls (open_after opened line) (record s { tokens = s.tokens ++ line }) (and-right (is_plain l) _ plain) (sym (fold-append (λ (o : List Place) (t : Token). braces t o) opened line (tokens_of ls)) ∙ closes) room'
    ∙ ap (λ (ts : List Token). Ok (record s { tokens = ts })) (append_assoc s.tokens line (tokens_of ls))

lines-plain : (ls : List Line) → list_all is_plain ls ≡ true → lines (tokens_of ls) ≡ ls
unfolding lines
lines-plain [] plain = refl
lines-plain (l ∷ ls) plain =
    ap (λ (ts : List Token). lines ts) (append_assoc l.0 (l.1 ∷ []) (tokens_of ls))
    ∙ lines-cons l.0 l.1 (tokens_of ls) (one_line l (and-left (is_plain l) _ plain)) (ends l (and-left (is_plain l) _ plain))
    ∙ ap (λ (ms : List Line). l ∷ ms) (lines-plain ls (and-right (is_plain l) _ plain))

pub read_file_plain : (files : List File) (deep number : ℕ) (text : List ℕ) (ls : List Line) (s : Flat) → list_all is_plain ls ≡ true → lex sources.File s.words_read 0 (placed (start_of number) text) ≡ Ok (tokens_of ls) → open_after [] (tokens_of ls) ≡ [] → length s.tokens + length (tokens_of ls) ≤ TOKEN_LIMIT → read_file files deep number text s ≡ Ok (record (begun s (tokens_of ls)) { tokens = s.tokens ++ tokens_of ls })
read_file_plain files deep number text ls s plain is closes fits =
    ap (λ (r : Result (List Token) TokenStop). leaving s.macros r >>= λ ts. read_lines (including files deep) (lines ts) ([], begun s ts)) is
    ∙ ap (λ (ms : List Line). read_lines (including files deep) ms ([], begun s (tokens_of ls))) (lines-plain ls plain)
    ∙ read_lines-plain (including files deep) ls [] (begun s (tokens_of ls)) plain closes fits

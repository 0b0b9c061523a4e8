-- What tokens are made of stands in their text.
use Rattle.std.proofs.Common.{◌≡◌, ℕ, zero, suc, ◌+◌, ◌==◌, ◌≤◌, ◌||◌, List, [], ◌∷◌, ◌++◌, length, take, drop, Ok, refl, sym, subst, inl, inr, arith}
use Rattle.std.specs.Option.{option_to_list}
use Rattle.std.proofs.lemmas.{List.{take-append-drop, append-nil}, List.Concat.flat_map-append}
use Rattle.pf_form.specs.Form.Forms.{◌>>=◌}
use Rattle.pf_tokens.specs.declared.{place.Placed.Placed, token.Token.Token, token.Kind.Kind, token.Kind.TheVariants.{Word, Quoted, Symbol, Macro, Newline}, lexing.Source.Source, lexing.Front.Front}
use Rattle.pf_tokens.specs.declared.fault.Mistake.TheVariants.{CommentInValue, MacroInValue, NoMacroName}
use Rattle.pf_tokens.specs.declared.lexing.Source.TheVariants as sources
use Rattle.pf_tokens.specs.declared.lexing.Run.TheVariants as runs
use Rattle.pf_tokens.specs.{Stops.faulty, Counting.counted_some, Laws.{HasInOrder, bytes_of}}
use Rattle.pf_tokens.specs.Lexing.{front, lex, token_of, skipped, comment, named_macro, a_macro, macro_use, modifier_more, word, a_quoted, a_symbol, symbol_more, quoted, word_checked, run_of, is_quote, is_letter}
use Rattle.pf_tokens.proofs.{Binds.{then_all, or_else, ok_all, err_all}, Runs.take_run}

none : (text : List Placed) → HasInOrder text []
none [] = tt
none (d ∷ ds) = tt

later : (d : Placed) (ds cs : List Placed) → HasInOrder ds cs → HasInOrder (d ∷ ds) cs
later d ds [] has = tt
later d ds (c ∷ cs) has = inr has

front_of : (n m : ℕ) (cs : List Placed) → n ≤ m → HasInOrder (take m cs) (take n cs)
front_of zero m cs fits = none (take m cs)
front_of (suc n) zero cs fits = absurd (omega arith)
front_of (suc n) (suc m) [] fits = tt
front_of (suc n) (suc m) (c ∷ cs) fits = inl (refl, front_of n m cs (omega arith))

all_of : (cs : List Placed) → HasInOrder cs cs
all_of [] = tt
all_of (c ∷ cs) = inl (refl, all_of cs)

-- one text behind another
both : (ds es cs bs : List Placed) → HasInOrder ds cs → HasInOrder es bs → HasInOrder (ds ++ es) (cs ++ bs)
both [] es [] bs first second = second
both [] es (c ∷ cs) bs first second = absurd first
both (d ∷ ds) es [] bs first second = later d (ds ++ es) bs (both ds es [] bs (none ds) second)
both (d ∷ ds) es (c ∷ cs) bs first second =
    elim first [ inl here ↦ inl (here.0, both ds es cs bs here.1 second) | inr there ↦ inr (both ds es (c ∷ cs) bs there second) ]

-- ---- the front

abbrev InFront : Placed → List Placed → Front → Type 0
InFront c cs f = HasInOrder (c ∷ take f.more cs) (bytes_of (option_to_list f.token))

one_token : (k : Kind) (c : Placed) (cs text : List Placed) (more : ℕ) → HasInOrder (c ∷ take more cs) text → InFront c cs (token_of k c text more)
one_token k c cs text more has = let P : List Placed → Type 0 = λ bs. HasInOrder (c ∷ take more cs) bs in subst P (sym (append-nil text)) has

quoted-in_front : (c : Placed) (cs : List Placed) (f : Front) → a_quoted c cs ≡ Ok f → InFront c cs f
quoted-in_front c cs f is =
    then_all (InFront c cs) (quoted c cs) (λ n. Ok (token_of Quoted c (take n cs) (n + 1))) f
    (λ n count. ok_all (InFront c cs) (token_of Quoted c (take n cs) (n + 1)) f (one_token Quoted c cs (take n cs) (n + 1) (later c (take (n + 1) cs) (take n cs) (front_of n (n + 1) cs (omega arith))))) is

word-in_front : (c : Placed) (cs : List Placed) (f : Front) → word c cs ≡ Ok f → InFront c cs f
word-in_front c cs f is =
    let following : List Placed = run_of runs.Word cs in
    let made : Front = token_of Word c (c ∷ following) (length following) in
    let P : List Placed → Type 0 = λ bs. HasInOrder (c ∷ bs) (c ∷ following) in
    let has : HasInOrder (c ∷ take (length following) cs) (c ∷ following) = subst P (sym (take_run runs.Word cs)) (all_of (c ∷ following)) in
    then_all (InFront c cs) (word_checked (c ∷ following)) (λ _. Ok made) f (λ u checked. ok_all (InFront c cs) made f (one_token Word c cs (c ∷ following) (length following) has)) is

symbol-in_front : (c : Placed) (cs : List Placed) (f : Front) → a_symbol c cs ≡ Ok f → InFront c cs f
symbol-in_front c cs f is =
    then_all (InFront c cs) (symbol_more c cs) (λ n. Ok (token_of Symbol c (c ∷ take n cs) n)) f
    (λ n more. ok_all (InFront c cs) (token_of Symbol c (c ∷ take n cs) n) f (one_token Symbol c cs (c ∷ take n cs) n (all_of (c ∷ take n cs)))) is

macro-in_front : (c : Placed) (cs : List Placed) (f : Front) → named_macro c (run_of runs.Letters cs) cs ≡ Ok f → InFront c cs f
macro-in_front c cs f is =
    let name : List Placed = run_of runs.Letters cs in
    or_else (InFront c cs) (length name == 0) f (err_all (InFront c cs) (faulty c.place NoMacroName) f)
    (then_all (InFront c cs) (modifier_more (run_of runs.Word (drop (length name) cs))) (λ n. Ok (a_macro c cs (length name + n))) f
    (λ n more.
    let text : List Placed = take (length name + n) cs in
    ok_all (InFront c cs) (a_macro c cs (length name + n)) f
    (one_token Macro c cs text (length name + n) (later c text text (all_of text))))) is

use-in_front : (s : Source) (c : Placed) (cs : List Placed) (f : Front) → macro_use s c cs ≡ Ok f → InFront c cs f
use-in_front sources.File c cs f is = macro-in_front c cs f is
use-in_front sources.Value c cs f is = err_all (InFront c cs) (faulty c.place MacroInValue) f is

comment-in_front : (s : Source) (c : Placed) (cs : List Placed) (f : Front) → comment s c cs ≡ Ok f → InFront c cs f
comment-in_front sources.File c cs f is = ok_all (InFront c cs) (skipped (length (run_of runs.Line cs))) f tt is
comment-in_front sources.Value c cs f is = err_all (InFront c cs) (faulty c.place CommentInValue) f is

front-in_front : (s : Source) (c : Placed) (cs : List Placed) (f : Front) → front s c cs ≡ Ok f → InFront c cs f
unfolding front
front-in_front s c cs f is =
    or_else (InFront c cs) ((c.byte == 32) || (c.byte == 9)) f (ok_all (InFront c cs) (skipped 0) f tt)
    (or_else (InFront c cs) (c.byte == 10) f (ok_all (InFront c cs) (token_of Newline c [] 0) f tt)
    (or_else (InFront c cs) (c.byte == 35) f (comment-in_front s c cs f)
    (or_else (InFront c cs) (is_quote c.byte) f (quoted-in_front c cs f)
    (or_else (InFront c cs) (c.byte == 36) f (use-in_front s c cs f)
    (or_else (InFront c cs) (is_letter c.byte || (c.byte == 58)) f (word-in_front c cs f) (symbol-in_front c cs f)))))) is

-- ---- all tokens

-- the front, and what is behind it
joined : (c : Placed) (cs : List Placed) (f : Front) (us : List Token) → InFront c cs f → HasInOrder (drop f.more cs) (bytes_of us) → HasInOrder (c ∷ cs) (bytes_of (option_to_list f.token ++ us))
joined c cs f us first others =
    let of_all : HasInOrder ((c ∷ take f.more cs) ++ drop f.more cs) (bytes_of (option_to_list f.token) ++ bytes_of us) = both (c ∷ take f.more cs) (drop f.more cs) (bytes_of (option_to_list f.token)) (bytes_of us) first others in
    let P : List Placed → Type 0 = λ ds. HasInOrder (c ∷ ds) (bytes_of (option_to_list f.token) ++ bytes_of us) in
    let Q : List Placed → Type 0 = λ bs. HasInOrder (c ∷ cs) bs in
    subst Q (sym (flat_map-append (λ (t : Token). t.text) (option_to_list f.token) us)) (subst P (take-append-drop f.more cs) of_all)

pub lex-in_order : (s : Source) (n more : ℕ) (cs : List Placed) (ts : List Token) → lex s n more cs ≡ Ok ts → HasInOrder (drop more cs) (bytes_of ts)
unfolding lex
lex-in_order s n zero [] ts is = ok_all (λ us. HasInOrder [] (bytes_of us)) [] ts tt is
lex-in_order s n (suc more) [] ts is = ok_all (λ us. HasInOrder [] (bytes_of us)) [] ts tt is
lex-in_order s n (suc more) (c ∷ cs) ts is = lex-in_order s n more cs ts is
lex-in_order s n zero (c ∷ cs) ts is =
    let P : List Token → Type 0 = λ us. HasInOrder (c ∷ cs) (bytes_of us) in
    then_all P (front s c cs) (λ f. counted_some n f.token >>= λ m. lex s m f.more cs >>= λ us. Ok (option_to_list f.token ++ us)) ts
    (λ f at_front counts. then_all P (counted_some n f.token) (λ m. lex s m f.more cs >>= λ us. Ok (option_to_list f.token ++ us)) ts
    (λ m fits following. then_all P (lex s m f.more cs) (λ us. Ok (option_to_list f.token ++ us)) ts
    (λ us others. ok_all P (option_to_list f.token ++ us) ts (joined c cs f us (front-in_front s c cs f at_front) (lex-in_order s m f.more cs us others))) following) counts) is

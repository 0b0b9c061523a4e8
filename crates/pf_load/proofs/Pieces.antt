-- Of a text nothing is passed over but blanks, newlines, quotes, "$" and comments.
use Rattle.std.proofs.Common.{◌≡◌, ℕ, zero, suc, ◌+◌, ◌==◌, ◌||◌, not, cond, Bool, true, false, List, [], ◌∷◌, ◌++◌, length, take, drop, Result, Ok, refl, sym, ap, ◌∙◌, subst, append-nil, arith, if◌then◌else◌}
use Rattle.std.specs.{Prelude.All, List.{flat_map, list_all, prefix_len, take_while}, Option.option_to_list}
use Rattle.std.proofs.lemmas.{Bool.{eqb-true, or_left, or_right}, List.take-append-drop, List.Concat.flat_map-append, List.Folds.length-prefix_len, List.Elements.{All-nil, All-append, All-push}}
use Rattle.pf_form.specs.Form.Forms.{◌>>=◌}
use Rattle.pf_tokens.specs.declared.{place.Placed.Placed, token.Token.Token, token.Kind.Kind, token.Kind.TheVariants.{Word, Quoted, Symbol, Macro, Newline}, lexing.Source.Source, fault.TokenStop.TokenStop}
use Rattle.pf_tokens.specs.declared.fault.Mistake.TheVariants.{CommentInValue, MacroInValue, NoMacroName}
use Rattle.pf_tokens.specs.declared.lexing.Source.TheVariants as sources
use Rattle.pf_tokens.specs.{Stops.faulty, Counting.counted_some, Laws.bytes_of}
use Rattle.pf_tokens.specs.Lexing.{front, lex, token_of, skipped, comment, named_macro, a_macro, macro_use, modifier_more, word, a_quoted, a_symbol, symbol_more, quoted, word_checked, is_quote, is_letter, is_word_byte, is_text}
use Rattle.pf_tokens.proofs.Binds.{then_all, or_else, ok_all, err_all}
use Rattle.pf_load.specs.Files.Types.{second_of}
use Rattle.pf_load.specs.Files.Pieces.{is_passed, has_no_newline, may_be_passed, Piece, IsCut}

-- ---- runs, as the definition has them

abbrev Front : Type 0
Front = second_of skipped

abbrev run : (ℕ → Bool) → List Placed → List Placed
run p cs = take_while (λ (c : Placed). p c.byte) cs

abbrev no_newline : ℕ → Bool
no_newline b = not (b == 10)

take_run : (p : ℕ → Bool) (cs : List Placed) → take (length (run p cs)) cs ≡ run p cs
take_run p cs = ap (λ (n : ℕ). take n cs) (length-prefix_len (λ (c : Placed). p c.byte) cs)

-- ---- pieces

abbrev bytes_in : Piece → List Placed
bytes_in p = p.1

abbrev taken_in : Piece → List Placed
taken_in p = if p.0 then p.1 else []

abbrev Passes : Piece → Type 0
Passes p = p.0 ≡ false → may_be_passed p.1 ≡ true

one_passes : (p : Piece) → Passes p → All Passes (p ∷ [])
one_passes p so = All-push Passes [] p (All-nil Passes) so

taken : (w : List Placed) → IsCut w w
taken w = record { pieces = (true, w) ∷ []; whole = sym (append-nil w); taken = sym (append-nil w); passed = one_passes (true, w) (λ no. absurd (cc (no))) }

passed : (w : List Placed) → may_be_passed w ≡ true → IsCut w []
passed w so = record { pieces = (false, w) ∷ []; whole = sym (append-nil w); taken = refl; passed = one_passes (false, w) (λ _. so) }

nothing : IsCut [] []
nothing = record { pieces = []; whole = refl; taken = refl; passed = All-nil Passes }

-- one text behind another
both : (a b x y : List Placed) → IsCut a x → IsCut b y → IsCut (a ++ b) (x ++ y)
both a b x y p q = record {
  pieces = p.pieces ++ q.pieces;
  whole = ap (λ (t : List Placed). t ++ b) p.whole ∙ ap (λ (t : List Placed). flat_map bytes_in p.pieces ++ t) q.whole ∙ sym (flat_map-append bytes_in p.pieces q.pieces);
  taken = ap (λ (t : List Placed). t ++ y) p.taken ∙ ap (λ (t : List Placed). flat_map taken_in p.pieces ++ t) q.taken ∙ sym (flat_map-append taken_in p.pieces q.pieces);
  passed = All-append Passes p.pieces q.pieces p.passed q.passed;
}

-- ---- the front

abbrev InFront : Placed → List Placed → Front → Type 0
InFront c cs f = IsCut (c ∷ take f.more cs) (bytes_of (option_to_list f.token))

one_token : (k : Kind) (c : Placed) (cs text : List Placed) (more : ℕ) → IsCut (c ∷ take more cs) text → InFront c cs (token_of k c text more)
one_token k c cs text more has = subst (IsCut (c ∷ take more cs)) (sym (append-nil text)) has

if_case : {A : Type 0} (P : A → Type 0) (b : Bool) (r s : Result A TokenStop) (y : A) → (b ≡ true → r ≡ Ok y → P y) → (s ≡ Ok y → P y) → (if b then r else s) ≡ Ok y → P y
if_case P true r s y first other is = first refl is
if_case P false r s y first other is = other is

blank_passed : (b : ℕ) → ((b == 32) || (b == 9)) ≡ true → (is_passed b || (b == 35)) ≡ true
blank_passed b is = or_left (is_passed b) (b == 35) (by (b == 32) (b == 9) _ is) where
  by : (x y z : Bool) → (x || y) ≡ true → (x || (y || z)) ≡ true
  by true y z is = refl
  by false true z is = refl
  by false false z is = absurd (cc (is))

newline_passed : (b : ℕ) → (b == 10) ≡ true → (is_passed b || (b == 35)) ≡ true
newline_passed b is = or_left (is_passed b) (b == 35) (or_right (b == 32) _ (or_right (b == 9) _ (or_left (b == 10) _ is)))

quote_passed : (b : ℕ) → is_quote b ≡ true → (is_passed b || (b == 35)) ≡ true
quote_passed b is = or_left (is_passed b) (b == 35) (or_right (b == 32) _ (or_right (b == 9) _ (or_right (b == 10) _ (or_left (is_quote b) (b == 36) is))))

dollar_passed : (b : ℕ) → (b == 36) ≡ true → (is_passed b || (b == 35)) ≡ true
dollar_passed b is = or_left (is_passed b) (b == 35) (or_right (b == 32) _ (or_right (b == 9) _ (or_right (b == 10) _ (or_right (is_quote b) (b == 36) is))))

-- ---- comments

passes_by : (p : Placed → Bool) (c : Placed) (cs : List Placed) (b : Bool) → p c ≡ b → list_all p (take (prefix_len p cs) cs) ≡ true → list_all p (take (cond b (1 + prefix_len p cs) 0) (c ∷ cs)) ≡ true
passes_by p c cs true is others =
    let one : 1 + prefix_len p cs ≡ suc (prefix_len p cs) = omega arith in
    ap (λ (n : ℕ). list_all p (take n (c ∷ cs))) one ∙ rw (is, others) refl
passes_by p c cs false is others = refl

front_passes : (p : Placed → Bool) (cs : List Placed) → list_all p (take (prefix_len p cs) cs) ≡ true
front_passes p [] = refl
front_passes p (c ∷ cs) = passes_by p c cs (p c) refl (front_passes p cs)

comment_passes : (c : Placed) (cs : List Placed) → (c.byte == 35) ≡ true → has_no_newline cs ≡ true → may_be_passed (c ∷ cs) ≡ true
comment_passes c [] is none = or_right (is_passed c.byte) (c.byte == 35) is
comment_passes c (d ∷ cs) is none = rw (is, none) refl

comment_cut : (s : Source) (c : Placed) (cs : List Placed) (f : Front) → (c.byte == 35) ≡ true → comment s c cs ≡ Ok f → InFront c cs f
comment_cut sources.File c cs f hash is =
    let line : List Placed = run no_newline cs in
    let cut : IsCut (c ∷ line) [] = passed (c ∷ line) (comment_passes c line hash (front_passes (λ (d : Placed). not (d.byte == 10)) cs)) in
    ok_all (InFront c cs) (skipped (length line)) f (subst (λ (t : List Placed). IsCut (c ∷ t) []) (sym (take_run no_newline cs)) cut) is
comment_cut sources.Value c cs f hash is = err_all (InFront c cs) (faulty c.place CommentInValue) f is

-- ---- quotes

-- the quote that closes a text
abbrev Closes : Placed → List Placed → ℕ → Type 0
Closes quote cs n = (q : Placed) × (take (n + 1) cs ≡ take n cs ++ q ∷ []) × (q.byte ≡ quote.byte)

closes_later : (quote d : Placed) (ds : List Placed) (n : ℕ) → Closes quote ds n → Closes quote (d ∷ ds) (n + 1)
closes_later quote d ds n (q, is, same) =
    let long : n + 1 + 1 ≡ suc (n + 1) = omega arith in
    let short : n + 1 ≡ suc n = omega arith in
    (q, ap (λ (k : ℕ). take k (d ∷ ds)) long ∙ ap (λ (t : List Placed). d ∷ t) is ∙ ap (λ (k : ℕ). take k (d ∷ ds) ++ q ∷ []) (sym short), same)

closed : (quote : Placed) (cs : List Placed) (n : ℕ) → quoted quote cs ≡ Ok n → Closes quote cs n
unfolding quoted
closed quote [] n is = absurd (cc)
closed quote (d ∷ ds) n is =
    if_case (Closes quote (d ∷ ds)) (d.byte == quote.byte) (Ok 0) _ n
    (λ here zero_is. ok_all (Closes quote (d ∷ ds)) 0 n (d, refl, eqb-true d.byte quote.byte here) zero_is)
    (or_else (Closes quote (d ∷ ds)) (d.byte == 10) n (err_all (Closes quote (d ∷ ds)) _ n)
    (or_else (Closes quote (d ∷ ds)) (d.byte == 92) n (err_all (Closes quote (d ∷ ds)) _ n)
    (or_else (Closes quote (d ∷ ds)) (is_text d.byte) n
    (then_all (Closes quote (d ∷ ds)) (quoted quote ds) (λ (k : ℕ). Ok (k + 1)) n (λ k one last. ok_all (Closes quote (d ∷ ds)) (k + 1) n (closes_later quote d ds k (closed quote ds k one)) last))
    (err_all (Closes quote (d ∷ ds)) _ n)))) is

quoted_cut : (c : Placed) (cs : List Placed) (f : Front) → is_quote c.byte ≡ true → a_quoted c cs ≡ Ok f → InFront c cs f
quoted_cut c cs f quote is =
    then_all (InFront c cs) (quoted c cs) (λ n. Ok (token_of Quoted c (take n cs) (n + 1))) f
    (λ n count last. ok_all (InFront c cs) (token_of Quoted c (take n cs) (n + 1)) f (one_token Quoted c cs (take n cs) (n + 1) (quotes_cut n (closed c cs n count))) last) is where
      quotes_cut : (n : ℕ) → Closes c cs n → IsCut (c ∷ take (n + 1) cs) (take n cs)
      quotes_cut n (q, all, same) =
          let first : IsCut (c ∷ []) [] = passed (c ∷ []) (quote_passed c.byte quote) in
          let last : IsCut (q ∷ []) [] = passed (q ∷ []) (quote_passed q.byte (ap is_quote same ∙ quote)) in
          let text : IsCut (take n cs ++ q ∷ []) (take n cs ++ []) = both (take n cs) (q ∷ []) (take n cs) [] (taken (take n cs)) last in
          let cut : IsCut (c ∷ (take n cs ++ q ∷ [])) (take n cs ++ []) = both (c ∷ []) (take n cs ++ q ∷ []) [] (take n cs ++ []) first text in
          subst (IsCut (c ∷ take (n + 1) cs)) (append-nil (take n cs)) (subst (λ (t : List Placed). IsCut (c ∷ t) (take n cs ++ [])) (sym all) cut)

-- ---- words, symbols and macros

word_cut : (c : Placed) (cs : List Placed) (f : Front) → word c cs ≡ Ok f → InFront c cs f
word_cut c cs f is =
    let following : List Placed = run is_word_byte cs in
    let made : Front = token_of Word c (c ∷ following) (length following) in
    let cut : IsCut (c ∷ take (length following) cs) (c ∷ following) = subst (λ (t : List Placed). IsCut (c ∷ t) (c ∷ following)) (sym (take_run is_word_byte cs)) (taken (c ∷ following)) in
    then_all (InFront c cs) (word_checked (c ∷ following)) (λ _. Ok made) f (λ u checked last. ok_all (InFront c cs) made f (one_token Word c cs (c ∷ following) (length following) cut) last) is

symbol_cut : (c : Placed) (cs : List Placed) (f : Front) → a_symbol c cs ≡ Ok f → InFront c cs f
symbol_cut c cs f is =
    then_all (InFront c cs) (symbol_more c cs) (λ n. Ok (token_of Symbol c (c ∷ take n cs) n)) f
    (λ n more last. ok_all (InFront c cs) (token_of Symbol c (c ∷ take n cs) n) f (one_token Symbol c cs (c ∷ take n cs) n (taken (c ∷ take n cs))) last) is

macro_cut : (c : Placed) (cs : List Placed) (f : Front) → (c.byte == 36) ≡ true → named_macro c (run is_letter cs) cs ≡ Ok f → InFront c cs f
macro_cut c cs f dollar is =
    let name : List Placed = run is_letter cs in
    or_else (InFront c cs) (length name == 0) f (err_all (InFront c cs) (faulty c.place NoMacroName) f)
    (then_all (InFront c cs) (modifier_more (run is_word_byte (drop (length name) cs))) (λ n. Ok (a_macro c cs (length name + n))) f
    (λ n more last.
    let text : List Placed = take (length name + n) cs in
    let cut : IsCut (c ∷ text) text = both (c ∷ []) text [] text (passed (c ∷ []) (dollar_passed c.byte dollar)) (taken text) in
    ok_all (InFront c cs) (a_macro c cs (length name + n)) f (one_token Macro c cs text (length name + n) cut) last)) is

use_cut : (s : Source) (c : Placed) (cs : List Placed) (f : Front) → (c.byte == 36) ≡ true → macro_use s c cs ≡ Ok f → InFront c cs f
use_cut sources.File c cs f dollar is = macro_cut c cs f dollar is
use_cut sources.Value c cs f dollar is = err_all (InFront c cs) (faulty c.place MacroInValue) f is

byte_cut : (c : Placed) → (is_passed c.byte || (c.byte == 35)) ≡ true → IsCut (c ∷ []) []
byte_cut c so = passed (c ∷ []) so

front_cut : (s : Source) (c : Placed) (cs : List Placed) (f : Front) → front s c cs ≡ Ok f → InFront c cs f
unfolding front
front_cut s c cs f is =
    if_case (InFront c cs) ((c.byte == 32) || (c.byte == 9)) (Ok (skipped 0)) _ f (λ blank. ok_all (InFront c cs) (skipped 0) f (byte_cut c (blank_passed c.byte blank)))
    (if_case (InFront c cs) (c.byte == 10) (Ok (token_of Newline c [] 0)) _ f (λ newline. ok_all (InFront c cs) (token_of Newline c [] 0) f (byte_cut c (newline_passed c.byte newline)))
    (if_case (InFront c cs) (c.byte == 35) (comment s c cs) _ f (comment_cut s c cs f)
    (if_case (InFront c cs) (is_quote c.byte) (a_quoted c cs) _ f (quoted_cut c cs f)
    (if_case (InFront c cs) (c.byte == 36) (macro_use s c cs) _ f (use_cut s c cs f)
    (or_else (InFront c cs) (is_letter c.byte || (c.byte == 58)) f (word_cut c cs f) (symbol_cut c cs f)))))) is

-- ---- all tokens

joined : (c : Placed) (cs : List Placed) (f : Front) (us : List Token) → InFront c cs f → IsCut (drop f.more cs) (bytes_of us) → IsCut (c ∷ cs) (bytes_of (option_to_list f.token ++ us))
joined c cs f us first others =
    let of_all : IsCut ((c ∷ take f.more cs) ++ drop f.more cs) (bytes_of (option_to_list f.token) ++ bytes_of us) = both (c ∷ take f.more cs) (drop f.more cs) (bytes_of (option_to_list f.token)) (bytes_of us) first others in
    let P : List Placed → Type 0 = λ ds. IsCut (c ∷ ds) (bytes_of (option_to_list f.token) ++ bytes_of us) in
    subst (IsCut (c ∷ cs)) (sym (flat_map-append (λ (t : Token). t.text) (option_to_list f.token) us)) (subst P (take-append-drop f.more cs) of_all)

lex_cut : (s : Source) (n more : ℕ) (cs : List Placed) (ts : List Token) → lex s n more cs ≡ Ok ts → IsCut (drop more cs) (bytes_of ts)
unfolding lex
lex_cut s n zero [] ts is = ok_all (λ us. IsCut [] (bytes_of us)) [] ts nothing is
lex_cut s n (suc more) [] ts is = ok_all (λ us. IsCut [] (bytes_of us)) [] ts nothing is
lex_cut s n (suc more) (c ∷ cs) ts is = lex_cut s n more cs ts is
lex_cut s n zero (c ∷ cs) ts is =
    let P : List Token → Type 0 = λ us. IsCut (c ∷ cs) (bytes_of us) in
    then_all P (front s c cs) (λ f. counted_some n f.token >>= λ m. lex s m f.more cs >>= λ us. Ok (option_to_list f.token ++ us)) ts
    (λ f at_front counts. then_all P (counted_some n f.token) (λ m. lex s m f.more cs >>= λ us. Ok (option_to_list f.token ++ us)) ts
    (λ m fits following. then_all P (lex s m f.more cs) (λ us. Ok (option_to_list f.token ++ us)) ts
    (λ us others last. ok_all P (option_to_list f.token ++ us) ts (joined c cs f us (front_cut s c cs f at_front) (lex_cut s m f.more cs us others)) last) following) counts) is

pub nothing_is_lost : (s : Source) (n : ℕ) (text : List Placed) (ts : List Token) → lex s n 0 text ≡ Ok ts → IsCut text (bytes_of ts)
nothing_is_lost s n text ts is = lex_cut s n 0 text ts is

-- Words with spaces between them are lexed to themselves.
use Rattle.std.proofs.Common.{◌≡◌, ℕ, suc, ◌+◌, ◌==◌, ◌||◌, cond, Bool, true, false, List, [], ◌∷◌, ◌++◌, map, length, take, drop, Ok, refl, sym, ap, ◌∙◌, append-nil, arith}
use Rattle.std.specs.{List.{list_all, prefix_len, join_with_byte}, Option.option_to_list}
use Rattle.std.proofs.lemmas.{Bool.{eqb-true, and_parts}, List.Folds.length-prefix_len}
use Rattle.pf_form.specs.Form.Forms.{◌>>=◌}
use Rattle.pf_tokens.specs.declared.{place.Placed.Placed, token.Token.Token, token.Kind.TheVariants.Word}
use Rattle.pf_tokens.specs.declared.lexing.Source.TheVariants as sources
use Rattle.pf_tokens.specs.{Places.text_of, Counting.counted_some}
use Rattle.pf_tokens.specs.Lexing.{front, lex, token_of, skipped, word, word_checked, is_letter, is_word_byte}
use Rattle.pf_tokens.proofs.Tokens.{lex-more}
use Rattle.pf_conf.proofs.Kept.{both}
use Rattle.pf_load.specs.Files.Types.{second_of}
use Rattle.pf_load.specs.Files.Spaces.{is_plain_word, read_as, as_word}

abbrev Front : Type 0
Front = second_of skipped

abbrev is_first : ℕ → Bool
is_first b = is_letter b || (b == 58)

-- ---- bytes

other_by : (k b : ℕ) (t : Bool) → (b == k) ≡ t → is_first k ≡ false → is_first b ≡ true → t ≡ false
other_by k b true same none first =
    let is : b ≡ k = eqb-true b k same in
    absurd (let no : is_first k ≡ true = sym (ap is_first is) ∙ first in cc (no, none))
other_by k b false same none first = refl

other : (k b : ℕ) → is_first k ≡ false → is_first b ≡ true → (b == k) ≡ false
other k b none first = other_by k b (b == k) refl none first

-- what begins a word is no blank, no comment, no quote and no macro
is_a_word : (c : Placed) (cs : List Placed) → is_first c.byte ≡ true → front sources.File c cs ≡ word c cs
unfolding front
is_a_word c cs first =
    let space = other 32 c.byte refl first in
    let tab = other 9 c.byte refl first in
    let newline = other 10 c.byte refl first in
    let hash = other 35 c.byte refl first in
    let double = other 34 c.byte refl first in
    let single = other 39 c.byte refl first in
    let dollar = other 36 c.byte refl first in
    rw (space, tab, newline, hash, double, single, dollar, first) refl

-- ---- a word's bytes

-- nothing, or a space and more
abbrev Ends : List ℕ → Type 0
Ends [] = Unit {0}
Ends (b ∷ bs) = b ≡ 32

abbrev goes : Placed → Bool
goes c = is_word_byte c.byte

long_by : (c : Placed) (cs : List Placed) (k : ℕ) (b : Bool) → goes c ≡ b → b ≡ true → prefix_len goes cs ≡ k → cond b (1 + prefix_len goes cs) 0 ≡ suc k
long_by c cs k true is more same = omega (arith, same)
long_by c cs k false is more same = absurd (cc (more))

run_long : (bs r : List ℕ) (cs : List Placed) → text_of cs ≡ bs ++ r → list_all is_word_byte bs ≡ true → Ends r → prefix_len goes cs ≡ length bs
run_long [] r [] is all ends = refl
run_long [] [] (c ∷ cs) is all ends = absurd (cc (is))
run_long [] (b ∷ r) (c ∷ cs) is all ends =
    let byte : c.byte ≡ b = cc (is) in
    let blank : c.byte ≡ 32 = byte ∙ ends in
    ap (λ (k : ℕ). cond (is_word_byte k) (1 + prefix_len goes cs) 0) blank
run_long (b ∷ bs) r [] is all ends = absurd (cc (is))
run_long (b ∷ bs) r (c ∷ cs) is all ends =
    let byte : c.byte ≡ b = cc (is) in
    let rest : text_of cs ≡ bs ++ r = cc (is) in
    let parts = and_parts (is_word_byte b) (list_all is_word_byte bs) all in
    long_by c cs (length bs) (goes c) refl (ap is_word_byte byte ∙ parts.0) (run_long bs r cs rest parts.1 ends)

front_text : (bs r : List ℕ) (cs : List Placed) → text_of cs ≡ bs ++ r → text_of (take (length bs) cs) ≡ bs
front_text [] r cs is = refl
front_text (b ∷ bs) r [] is = absurd (cc (is))
front_text (b ∷ bs) r (c ∷ cs) is =
    let byte : c.byte ≡ b = cc (is) in
    let rest : text_of cs ≡ bs ++ r = cc (is) in
    ap (λ (k : ℕ). k ∷ text_of (take (length bs) cs)) byte ∙ ap (λ (t : List ℕ). b ∷ t) (front_text bs r cs rest)

back_text : (bs r : List ℕ) (cs : List Placed) → text_of cs ≡ bs ++ r → text_of (drop (length bs) cs) ≡ r
back_text [] r cs is = is
back_text (b ∷ bs) r [] is = absurd (cc (is))
back_text (b ∷ bs) r (c ∷ cs) is = let rest : text_of cs ≡ bs ++ r = cc (is) in back_text bs r cs rest

-- ---- a word, and then the others

-- the first token is the word, and the others are those of what is left
record First (w r : List ℕ) (ts : List Token) : Type 0 where
  first : Token
  others : List Token
  text : List Placed
  words : ℕ
  are : ts ≡ first ∷ others
  read : read_as first ≡ as_word w
  left : text_of text ≡ r
  lexed : lex sources.File words 0 text ≡ Ok others

first_by : (b : ℕ) (bs r : List ℕ) (c : Placed) (cs : List Placed) (f : Front) (m : ℕ) (us ts : List Token) → c.byte ≡ b → text_of cs ≡ bs ++ r → list_all is_word_byte bs ≡ true → Ends r
    → word c cs ≡ Ok f → lex sources.File m f.more cs ≡ Ok us → option_to_list f.token ++ us ≡ ts → First (b ∷ bs) r ts
first_by b bs r c cs f m us ts byte text all ends at_front following joined =
    let run : List Placed = take (prefix_len goes cs) cs in
    let long : prefix_len goes cs ≡ length bs = run_long bs r cs text all ends in
    let size : length run ≡ length bs = length-prefix_len goes cs ∙ long in
    let made : Front = token_of Word c (c ∷ run) (length run) in
    let x = both (word_checked (c ∷ run)) (λ (u : Unit {0}). Ok made) f at_front in
    let is : made ≡ f = cc (x.2) in
    let token : Token = record { kind = Word; place = c.place; text = c ∷ run } in
    let cut : text_of run ≡ bs = ap (λ (k : ℕ). text_of (take k cs)) long ∙ front_text bs r cs text in
    record {
      first = token;
      others = us;
      text = drop (length bs) cs;
      words = m;
      are = sym joined ∙ ap (λ (g : Front). option_to_list g.token ++ us) (sym is);
      read = ap (λ (k : ℕ). as_word (k ∷ text_of run)) byte ∙ ap (λ (t : List ℕ). as_word (b ∷ t)) cut;
      left = back_text bs r cs text;
      lexed = sym (lex-more sources.File m (length bs) cs) ∙ ap (λ (k : ℕ). lex sources.File m k cs) (sym size ∙ ap (λ (g : Front). g.more) is) ∙ following;
    }

first_word : (b : ℕ) (bs r : List ℕ) (n : ℕ) (text : List Placed) (ts : List Token) → is_plain_word (b ∷ bs) ≡ true → Ends r → text_of text ≡ (b ∷ bs) ++ r → lex sources.File n 0 text ≡ Ok ts → First (b ∷ bs) r ts
unfolding lex
first_word b bs r n [] ts plain ends is lexed = absurd (cc (is))
first_word b bs r n (c ∷ cs) ts plain ends is lexed =
    let parts = and_parts (is_first b) (list_all is_word_byte bs) plain in
    let byte : c.byte ≡ b = cc (is) in
    let rest : text_of cs ≡ bs ++ r = cc (is) in
    let x = both (front sources.File c cs) (λ (f : Front). counted_some n f.token >>= λ m. lex sources.File m f.more cs >>= λ us. Ok (option_to_list f.token ++ us)) ts lexed in
    let f : Front = x.0 in
    let y = both (counted_some n f.token) (λ (m : ℕ). lex sources.File m f.more cs >>= λ us. Ok (option_to_list f.token ++ us)) ts x.2 in
    let z = both (lex sources.File y.0 f.more cs) (λ (us : List Token). Ok (option_to_list f.token ++ us)) ts y.2 in
    let joined : option_to_list f.token ++ z.0 ≡ ts = cc (z.2) in
    first_by b bs r c cs f y.0 z.0 ts byte rest parts.1 ends (sym (is_a_word c cs (ap is_first byte ∙ parts.0)) ∙ x.1) z.1 joined

-- a space
after_space : (n : ℕ) (c : Placed) (cs : List Placed) (ts : List Token) → c.byte ≡ 32 → lex sources.File n 0 (c ∷ cs) ≡ Ok ts → lex sources.File n 0 cs ≡ Ok ts
unfolding lex front
after_space n c cs ts blank lexed =
    let test : (c.byte == 32) ≡ true = ap (λ (k : ℕ). k == 32) blank in
    let x : (us : List Token) × (lex sources.File n 0 cs ≡ Ok us) × (Ok ([] ++ us) ≡ Ok ts) = both (lex sources.File n 0 cs) (λ (us : List Token). Ok ([] ++ us)) ts (rw test at lexed) in
    let same : x.0 ≡ ts = cc (x.2) in
    x.1 ∙ ap (λ (us : List Token). Ok us) same

-- ---- all words

none_lexed : (n : ℕ) (text : List Placed) (ts : List Token) → text_of text ≡ [] → lex sources.File n 0 text ≡ Ok ts → ts ≡ []
unfolding lex
none_lexed n [] ts is lexed = let same : [] ≡ ts = cc (lexed) in sym same
none_lexed n (c ∷ cs) ts is lexed = absurd (cc (is))

abbrev AreWords : List (List ℕ) → List Token → Type 0
AreWords ws ts = map read_as ts ≡ map as_word ws

one_more : (w r : List ℕ) (ws : List (List ℕ)) (ts : List Token) (f : First w r ts) → AreWords ws f.others → AreWords (w ∷ ws) ts
one_more w r ws ts f are =
    ap (map read_as) f.are ∙ ap (λ x. x ∷ map read_as f.others) f.read ∙ ap (λ xs. as_word w ∷ xs) are

after_by : (n : ℕ) (text : List Placed) (r : List ℕ) (ts : List Token) → text_of text ≡ 32 ∷ r → lex sources.File n 0 text ≡ Ok ts → (cs : List Placed) × (text_of cs ≡ r) × (lex sources.File n 0 cs ≡ Ok ts)
after_by n [] r ts is lexed = absurd (cc (is))
after_by n (c ∷ cs) r ts is lexed =
    let byte : c.byte ≡ 32 = cc (is) in
    let rest : text_of cs ≡ r = cc (is) in
    (cs, rest, after_space n c cs ts byte lexed)

pub words_are_read : (n : ℕ) (ws : List (List ℕ)) (text : List Placed) (ts : List Token) → list_all is_plain_word ws ≡ true → text_of text ≡ join_with_byte 32 ws → lex sources.File n 0 text ≡ Ok ts → AreWords ws ts
words_are_read n [] text ts plain is lexed = ap (map read_as) (none_lexed n text ts is lexed)
words_are_read n ([] ∷ ws) text ts plain is lexed = absurd (cc (plain))
words_are_read n ((b ∷ bs) ∷ []) text ts plain is lexed =
    let parts = and_parts (is_plain_word (b ∷ bs)) true plain in
    let f : First (b ∷ bs) [] ts = first_word b bs [] n text ts parts.0 tt (is ∙ sym (append-nil (b ∷ bs))) lexed in
    one_more (b ∷ bs) [] [] ts f (ap (map read_as) (none_lexed f.words f.text f.others f.left f.lexed))
words_are_read n ((b ∷ bs) ∷ v ∷ vs) text ts plain is lexed =
    let parts = and_parts (is_plain_word (b ∷ bs)) (list_all is_plain_word (v ∷ vs)) plain in
    let more : List ℕ = join_with_byte 32 (v ∷ vs) in
    let f : First (b ∷ bs) (32 ∷ more) ts = first_word b bs (32 ∷ more) n text ts parts.0 refl is lexed in
    let x = after_by f.words f.text more f.others f.left f.lexed in
    one_more (b ∷ bs) (32 ∷ more) (v ∷ vs) ts f (words_are_read f.words (v ∷ vs) x.0 f.others parts.1 x.1 x.2)

-- How bytes are read as tokens behind the first ones.
use Rattle.std.proofs.Common.{◌≡◌, ℕ, zero, suc, ◌+◌, ◌-◌, ◌<◌, ◌≤◌, nat_le, List, [], ◌∷◌, ◌++◌, Option, Some, None, Result, Ok, Err, length, get_or, drop, refl, sym, ap, ◌∙◌, append_assoc, arith}
use Rattle.std.specs.Option.{option_to_list}
use Rattle.pf_form.specs.Form.Forms.{◌>>=◌}
use Rattle.pf_tokens.specs.declared.{place.Place.Place, place.Placed.Placed, token.Token.Token, counting.TheConstants.TOKEN_LIMIT, lexing.Source.Source, lexing.Front.Front, fault.TokenStop.TokenStop}
use Rattle.pf_tokens.specs.declared.fault.Mistake.TheVariants.{ManyWords}
use Rattle.pf_tokens.specs.{Stops.faulty, Counting.{weight, words_in, counted, counted_some}, Lexing.{front, lex}}
use Rattle.pf_tokens.proofs.{Binds.{bind_assoc, bind_same, or_else, ok_all, err_all}}
use Rattle.std.proofs.lemmas.{List.{drop-drop, drop_more, drop_all, append-nil}, List.Sums.sum_by-append}

-- ---- tokens

-- bytes that belong to the token before are passed
pub lex-more : (s : Source) (w n : ℕ) (cs : List Placed) → lex s w n cs ≡ lex s w 0 (drop n cs)
unfolding lex
lex-more s w zero cs = refl
lex-more s w (suc n) [] = refl
lex-more s w (suc n) (c ∷ cs) = lex-more s w n cs

pub lex-cons : (s : Source) (w : ℕ) (c : Placed) (cs : List Placed) → lex s w 0 (c ∷ cs) ≡ (front s c cs >>= λ f. counted_some w f.token >>= λ m. lex s m f.more cs >>= λ ts. Ok (option_to_list f.token ++ ts))
unfolding lex
lex-cons s w c cs = refl

pub lex-end : (s : Source) (w n : ℕ) → lex s w n [] ≡ Ok []
unfolding lex
lex-end s w zero = refl
lex-end s w (suc n) = refl

-- what is left behind a front, of which so many words were read, is what is left of the whole
lex_front : (s : Source) (w w' : ℕ) (cs : List Placed) (ts : List Token) (f : Front) (r : Result Front TokenStop) → r ≡ Ok f → counted_some w f.token ≡ Ok w' → ((r >>= λ g. counted_some w g.token >>= λ m. lex s m g.more cs >>= λ us. Ok (option_to_list g.token ++ us)) >>= λ us. Ok (ts ++ us)) ≡ (lex s w' 0 (drop f.more cs) >>= λ us. Ok ((ts ++ option_to_list f.token) ++ us))
lex_front s w w' cs ts f r is counts =
    rw (is, counts) (
    bind_assoc (lex s w' f.more cs) (λ us. Ok (option_to_list f.token ++ us)) (λ us. Ok (ts ++ us))
    ∙ bind_same (lex s w' f.more cs) (λ us. Ok (ts ++ (option_to_list f.token ++ us))) (λ us. Ok ((ts ++ option_to_list f.token) ++ us)) (λ us. ap (λ (vs : List Token). Ok vs) (sym (append_assoc ts (option_to_list f.token) us)))
    ∙ ap (λ (r : Result (List Token) TokenStop). r >>= λ us. Ok ((ts ++ option_to_list f.token) ++ us)) (lex-more s w' f.more cs))

-- the first byte that is left, and those behind it
module _ (s : Source) (w : ℕ) (cs following : List Placed) (i : ℕ) (d : Placed) (in_text : i < length cs) (rest : following ≡ drop (i + 1) cs) where
  lex-drop : lex s w 0 (drop i cs) ≡ (front s (get_or cs i d) following >>= λ f. counted_some w f.token >>= λ m. lex s m f.more following >>= λ ts. Ok (option_to_list f.token ++ ts))
  lex-drop = ap (λ (xs : List Placed). lex s w 0 xs) (drop_more cs i d in_text ∙ ap (λ (xs : List Placed). get_or cs i d ∷ xs) (sym rest)) ∙ lex-cons s w (get_or cs i d) following

  -- one more token, or nothing, is taken and counted
  pub lex-step : (w' : ℕ) (ts ts' : List Token) (f : Front) → front s (get_or cs i d) following ≡ Ok f → counted_some w f.token ≡ Ok w' → ts' ≡ ts ++ option_to_list f.token → (lex s w 0 (drop i cs) >>= λ us. Ok (ts ++ us)) ≡ (lex s w' 0 (drop (i + (f.more + 1)) cs) >>= λ us. Ok (ts' ++ us))
  lex-step w' ts ts' f is counts more =
      ap (λ (r : Result (List Token) TokenStop). r >>= λ us. Ok (ts ++ us)) lex-drop
      ∙ lex_front s w w' following ts f (front s (get_or cs i d) following) is counts
      ∙ ap (λ (xs : List Placed). lex s w' 0 xs >>= λ us. Ok ((ts ++ option_to_list f.token) ++ us)) (ap (λ (xs : List Placed). drop f.more xs) rest ∙ drop-drop f.more (i + 1) cs ∙ ap (λ (n : ℕ). drop n cs) (omega arith))
      ∙ ap (λ (vs : List Token). lex s w' 0 (drop (i + (f.more + 1)) cs) >>= λ us. Ok (vs ++ us)) (sym more)

  -- a fault at the front is the whole's
  pub lex-fault : (ts : List Token) (e : TokenStop) → front s (get_or cs i d) following ≡ Err e → (lex s w 0 (drop i cs) >>= λ us. Ok (ts ++ us)) ≡ Err e
  lex-fault ts e is = rw (lex-drop, is) refl

  -- and so is that of one token too many
  pub lex-past : (ts : List Token) (f : Front) (e : TokenStop) → front s (get_or cs i d) following ≡ Ok f → counted_some w f.token ≡ Err e → (lex s w 0 (drop i cs) >>= λ us. Ok (ts ++ us)) ≡ Err e
  lex-past ts f e is past = rw (lex-drop, is, past) refl

-- all bytes were taken
pub lex-last : (s : Source) (w : ℕ) (cs : List Placed) (i : ℕ) (ts : List Token) → length cs ≤ i → (lex s w 0 (drop i cs) >>= λ us. Ok (ts ++ us)) ≡ Ok ts
lex-last s w cs i ts at_end =
    ap (λ (xs : List Placed). lex s w 0 xs >>= λ us. Ok (ts ++ us)) (drop_all i cs at_end) ∙ ap (λ (r : Result (List Token) TokenStop). r >>= λ us. Ok (ts ++ us)) (lex-end s w 0)
    ∙ ap (λ (us : List Token). Ok us) (append-nil ts)

-- ---- counted words

counted-adds : (p : Place) (n m : ℕ) (t : Token) → counted p n t ≡ Ok m → m ≡ n + weight t
unfolding counted
counted-adds p n m t is =
    or_else (λ (k : ℕ). k ≡ n + weight t) (nat_le (weight t) (TOKEN_LIMIT - n)) m (ok_all (λ (k : ℕ). k ≡ n + weight t) (n + weight t) m refl) (err_all (λ (k : ℕ). k ≡ n + weight t) (faulty p ManyWords) m) is

-- what was counted so far, and one more token or none
pub counted-step : (whole n m : ℕ) (ts ts' : List Token) (o : Option Token) → n ≡ whole + words_in ts → counted_some n o ≡ Ok m → ts' ≡ ts ++ option_to_list o → m ≡ whole + words_in ts'
counted-step whole n m ts ts' None was is more =
    let same : n ≡ m = cc in sym same ∙ was ∙ ap (λ (us : List Token). whole + words_in us) (sym (more ∙ append-nil ts))
counted-step whole n m ts ts' (Some t) was is more =
    let all : words_in ts' ≡ words_in ts + (0 + weight t) = ap (λ (us : List Token). words_in us) more ∙ sum_by-append weight ts (t ∷ []) in
    omega (arith, counted-adds t.place n m t is, was, all)

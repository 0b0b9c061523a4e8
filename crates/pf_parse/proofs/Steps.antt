-- What is left of tokens, one on.
use Rattle.std.proofs.Common.{◌≡◌, ℕ, suc, ◌+◌, ◌<◌, ◌≤◌, ◌==◌, true, false, cond, Some, None, arith, List, [], ◌∷◌, ◌++◌, length, get_or, take, drop, refl, sym, ap, ◌∙◌, add-one}
use Rattle.std.proofs.{Math.Seq.drop-cons, lemmas.List.{take_more, map-append, drop-drop, drop_all, at_drop_all, length-drop}, lemmas.Bool.Decides.nat_tests}
use denote.Ref.{Bor}
use Rattle.pf_form.specs.Form.Words.{texts}
use Rattle.pf_tokens.specs.{declared.token.Token.Token, Words.is_word}
use Rattle.pf_parse.specs.declared.fault.Reason.{Reason}
use Rattle.pf_parse.specs.Reading.{Word, first_or, rest_of, refusals_in, reason_in}
use Rattle.pf_parse.specs.Criteria.{interface_word, interface_words}

pub drop_item : {X : Type 0} → (xs : List X) (i : ℕ) (x : X) → i < length xs → x ≡ get_or xs i x → drop i xs ≡ x ∷ drop (i + 1) xs
drop_item {X} xs i x in_list here =
    drop-cons xs i x in_list ∙ ap (λ (y : X). y ∷ drop (suc i) xs) (sym here) ∙ ap (λ (n : ℕ). x ∷ drop n xs) (sym (add-one i))

-- the first of the tokens from this place on, and those behind it
pub first_at : (t : Token) (ts : List Token) (i : ℕ) (u : Token) → i < length ts → u ≡ get_or ts i u → first_or t (drop i ts) ≡ u
first_at t ts i u within here = ap (first_or t) (drop_item ts i u within here)

pub first_past : (t : Token) (ts : List Token) (i : ℕ) → length ts ≤ i → first_or t (drop i ts) ≡ t
first_past t ts i past = at_drop_all (first_or t) ts i past

tail_is : (ts : List Token) → rest_of ts ≡ drop 1 ts
tail_is [] = refl
tail_is (t ∷ ts) = refl

pub rest_at : (ts : List Token) (i : ℕ) → rest_of (drop i ts) ≡ drop (i + 1) ts
rest_at ts i = tail_is (drop i ts) ∙ drop-drop 1 i ts

pub rest_past : (ts : List Token) (i : ℕ) → length ts ≤ i → rest_of (drop i ts) ≡ drop i ts
rest_past ts i past = ap rest_of (drop_all i ts past) ∙ sym (drop_all i ts past)

pub none_left : (ts : List Token) (i : ℕ) → length ts ≤ i → (length (drop i ts) == 0) ≡ true
none_left ts i past = ap (λ (us : List Token). length us == 0) (drop_all i ts past)

pub some_left : (ts : List Token) (i : ℕ) → i < length ts → (length (drop i ts) == 0) ≡ false
some_left ts i within = grind (arith, nat_tests, length-drop)

-- one word more
pub texts_item : (words : List (Bor Word)) (i : ℕ) (r : Bor Word) → i < length words → r ≡ get_or words i r → texts (take (i + 1) words) ≡ texts (take i words) ++ r.now ∷ []
texts_item words i r within here =
    ap texts (take_more words i r within ∙ ap (λ (x : Bor Word). take i words ++ x ∷ []) (sym here)) ∙ map-append (λ (x : Bor Word). x.now) (take i words) (r ∷ [])

-- ---- a reason in a table, from a row on

reason_from : (table : List (Bor Word × Reason)) (i : ℕ) (d : Bor Word × Reason) (t : Token) → i < length table → reason_in (refusals_in (drop i table)) t ≡ cond (is_word (get_or table i d).0.now t) (Some (get_or table i d).1) (reason_in (refusals_in (drop (i + 1) table)) t)
unfolding reason_in
reason_from table i d t within =
    ap (λ (rest : List (Bor Word × Reason)). reason_in (refusals_in rest) t) (drop-cons table i d within)
    ∙ ap (λ (n : ℕ). reason_in (refusals_in (get_or table i d ∷ drop n table)) t) (sym (add-one i))

pub reason_next : (table : List (Bor Word × Reason)) (i : ℕ) (d : Bor Word × Reason) (t : Token) → i < length table → is_word (get_or table i d).0.now t ≡ false → reason_in (refusals_in (drop (i + 1) table)) t ≡ reason_in (refusals_in (drop i table)) t
reason_next table i d t within other =
    sym (reason_from table i d t within ∙ ap (λ b. cond b (Some (get_or table i d).1) (reason_in (refusals_in (drop (i + 1) table)) t)) other)

pub reason_here : (table : List (Bor Word × Reason)) (i : ℕ) (d : Bor Word × Reason) (t : Token) → i < length table → is_word (get_or table i d).0.now t ≡ true → Some (get_or table i d).1 ≡ reason_in (refusals_in (drop i table)) t
reason_here table i d t within same =
    sym (reason_from table i d t within ∙ ap (λ b. cond b (Some (get_or table i d).1) (reason_in (refusals_in (drop (i + 1) table)) t)) same)

pub no_reason : (table : List (Bor Word × Reason)) (i : ℕ) (t : Token) → length table ≤ i → reason_in (refusals_in (drop i table)) t ≡ None
unfolding reason_in
no_reason table i t past = ap (λ (rest : List (Bor Word × Reason)). reason_in (refusals_in rest) t) (drop_all i table past)

-- one interface more
pub interface_item : (interfaces : List Token) (i : ℕ) (t : Token) → i < length interfaces → t ≡ get_or interfaces i t → interface_words (take (i + 1) interfaces) ≡ interface_words (take i interfaces) ++ interface_word t ∷ []
interface_item interfaces i t within here =
    ap interface_words (take_more interfaces i t within ∙ ap (λ (u : Token). take i interfaces ++ u ∷ []) (sym here))
    ∙ map-append interface_word (take i interfaces) (t ∷ [])

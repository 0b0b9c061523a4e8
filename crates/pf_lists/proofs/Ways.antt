-- The ways of taking one item of each list, and their rules.
use Rattle.std.proofs.Common.{◌≡◌, ℕ, zero, suc, ◌+◌, ◌*◌, ◌/◌, ◌%◌, ◌<◌, min, cond, List, [], ◌∷◌, ◌++◌, length, get_or, take, map, Option, Some, None, Result, Ok, Err, refl, sym, ap, ◌∙◌, arith, length-append, append_assoc, inl, inr}
use Rattle.std.proofs.lemmas.{Bool.cases_lt, Nat.{div_below, mod_below, div-add-mod', div-mul-add}, List.{length-map, length-take-le, get_or-map}, List.Concat.get_or-flat_map, List.Sums.sum_by-cons}
use Rattle.std.specs.{List.{flat_map, count_by}, Option.option_to_list}
use Rattle.pf_form.specs.Form.Forms.{◌>>=◌}
use Rattle.pf_rule.specs.Rules.{PlainRule}
use Rattle.pf_lists.specs.declared.rules.Mistake.{Mistake}
use Rattle.pf_lists.specs.{Product.{Word, spelled, count, numbered}, Multiplied.{rule_of, rules_of, leaves_out, is_left_out}}

-- ---- pieces of one length

length_pieces : {X A : Type 0} (f : X → List A) (n : ℕ) → ((x : X) → length (f x) ≡ n) → (xs : List X) → length (flat_map f xs) ≡ length xs * n
length_pieces f n same [] = omega arith
length_pieces f n same (x ∷ xs) = omega (arith, length-append (f x) (flat_map f xs), same x, length_pieces f n same xs)

right_positive : (k n i : ℕ) → i < k * n → 0 < n
right_positive k zero i below = omega arith
right_positive k (suc n) i below = omega arith

left_positive : (k n i : ℕ) → i < k * n → 0 < k
left_positive zero n i below = omega arith
left_positive (suc k) n i below = omega arith

-- the place i is the place i % n of the piece i / n
at_piece : {X A : Type 0} (f : X → List A) (n : ℕ) → ((x : X) → length (f x) ≡ n) → (xs : List X) (i : ℕ) (e : X) (d : A) → i < length xs * n → get_or (flat_map f xs) i d ≡ get_or (f (get_or xs (i / n) e)) (i % n) d
at_piece f n same xs i e d below =
    let some : 0 < n = right_positive (length xs) n i below in
    let row : i / n < length xs = div_below i n (length xs) some below in
    let column : i % n < n = mod_below i n some in
    let within : i % n < length (f (get_or xs (i / n) e)) = omega (arith, same (get_or xs (i / n) e)) in
    let front : length (flat_map f (take (i / n) xs)) ≡ i / n * n =
    length_pieces f n same (take (i / n) xs) ∙ ap (λ k. k * n) (length-take-le (i / n) xs (omega arith)) in
    let place : i ≡ length (flat_map f (take (i / n) xs)) + i % n = sym (div-add-mod' i n) ∙ ap (λ k. k + i % n) (sym front) in
    ap (λ k. get_or (flat_map f xs) k d) place ∙ get_or-flat_map f xs (i / n) (i % n) e d row within

-- ---- the product

pub spelled_count : (lists : List (List (List Word))) → length (spelled lists) ≡ count lists
unfolding spelled count
spelled_count [] = refl
spelled_count (items ∷ lists) =
    length_pieces (λ (item : List Word). map (λ (ws : List Word). item ++ ws) (spelled lists)) (count lists)
    (λ item. length-map (spelled lists) (λ (ws : List Word). item ++ ws) ∙ spelled_count lists) items

pub spelled_digits : (lists : List (List (List Word))) (n : ℕ) → n < count lists → get_or (spelled lists) n [] ≡ numbered lists n
unfolding spelled count numbered
spelled_digits [] zero below = refl
spelled_digits [] (suc n) below = absurd (omega arith)
spelled_digits (items ∷ lists) n below =
    let f = λ (item : List Word). map (λ (ws : List Word). item ++ ws) (spelled lists) in
    let some : 0 < count lists = right_positive (length items) (count lists) n below in
    let column : n % count lists < count lists = mod_below n (count lists) some in
    let item : List Word = get_or items (n / count lists) [] in
    at_piece f (count lists) (λ item. length-map (spelled lists) (λ (ws : List Word). item ++ ws) ∙ spelled_count lists) items n [] [] below
    ∙ get_or-map (λ (ws : List Word). item ++ ws) (spelled lists) (n % count lists) [] [] (omega (arith, spelled_count lists))
    ∙ ap (λ (ws : List Word). item ++ ws) (spelled_digits lists (n % count lists) column)

-- ---- one digit after another

-- what the first list's digit is, and what is left for the others
pub record Digit (list : List (List Word)) (lists : List (List (List Word))) (left : ℕ) : Type 0 where
  pub some : 0 < length list
  pub rest : count (list ∷ lists) / length list ≡ count lists
  pub others : 0 < count lists
  pub within : left / count lists < length list
  pub below : left % count lists < count lists
  pub words : numbered (list ∷ lists) left ≡ get_or list (left / count lists) [] ++ numbered lists (left % count lists)

pub digit : (list : List (List Word)) (lists : List (List (List Word))) (left : ℕ) → left < count (list ∷ lists) → Digit list lists left
unfolding count numbered
digit list lists left inside =
    let others : 0 < count lists = right_positive (length list) (count lists) left inside in
    let some : 0 < length list = left_positive (length list) (count lists) left inside in
    let turned : length list * count lists ≡ count lists * length list + 0 = omega arith in
    record {
      some = some;
      rest = ap (λ k. k / length list) turned ∙ div-mul-add (count lists) (length list) 0 some;
      others = others;
      within = div_below left (count lists) (length list) others inside;
      below = mod_below left (count lists) others;
      words = refl;
    }

-- ---- how many there are, up to a greatest number

pub capped_product : (a b m : ℕ) → min (min a m * b) m ≡ min (a * b) m
capped_product a zero m = omega arith
capped_product a (suc b) m =
    elim (cases_lt m a) [
      | inl over ↦ let same : min a m ≡ m = omega arith in rw same (omega arith)
      | inr within ↦ let same : min a m ≡ a = omega arith in rw same refl
    ]

-- ---- rules

-- one way more has one rule more, or none, or stops all
pub one_way : (front : List PlainRule) (ws : List Word) (wss : List (List Word)) (r : Option PlainRule) → rule_of ws ≡ Ok r → (rules_of (ws ∷ wss) >>= λ rs. Ok (front ++ rs)) ≡ (rules_of wss >>= λ rs. Ok ((front ++ option_to_list r) ++ rs))
unfolding rules_of
one_way front ws wss r is =
    ap (λ (q : Result (Option PlainRule) Mistake). (q >>= λ o. rules_of wss >>= λ rs. Ok (option_to_list o ++ rs)) >>= λ rs. Ok (front ++ rs)) is
    ∙ elim (rules_of wss) as (λ q. ((q >>= λ rs. Ok (option_to_list r ++ rs)) >>= λ rs. Ok (front ++ rs)) ≡ (q >>= λ rs. Ok ((front ++ option_to_list r) ++ rs)))
    [ Ok rs ↦ ap (λ (all : List PlainRule). Ok all) (sym (append_assoc front (option_to_list r) rs)) | Err m ↦ refl ]

pub no_way : (front : List PlainRule) (ws : List Word) (wss : List (List Word)) (m : Mistake) → rule_of ws ≡ Err m → (rules_of (ws ∷ wss) >>= λ rs. Ok (front ++ rs)) ≡ Err m
unfolding rules_of
no_way front ws wss m is =
    ap (λ (q : Result (Option PlainRule) Mistake). (q >>= λ o. rules_of wss >>= λ rs. Ok (option_to_list o ++ rs)) >>= λ rs. Ok (front ++ rs)) is

count_step : (r : Result (Option PlainRule) Mistake) (q : Result (List PlainRule) Mistake) (c n : ℕ) → ((rs : List PlainRule) → q ≡ Ok rs → length rs + c ≡ n) → (rules : List PlainRule) → (r >>= λ o. q >>= λ rs. Ok (option_to_list o ++ rs)) ≡ Ok rules → length rules + (cond (leaves_out r) 1 0 + c) ≡ suc n
count_step (Err m) q c n others rules e = cc
count_step (Ok o) (Err m) c n others rules e = cc
count_step (Ok None) (Ok rs) c n others rules e = let same : rs ≡ rules = cc in omega (arith, ap length same, others rs refl)
count_step (Ok (Some r)) (Ok rs) c n others rules e = let same : r ∷ rs ≡ rules = cc in omega (arith, ap length same, others rs refl)

pub rules_count : (ways : List (List Word)) (rules : List PlainRule) → rules_of ways ≡ Ok rules → length rules + count_by is_left_out ways ≡ length ways
unfolding rules_of
rules_count [] rules e = let same : rules ≡ [] = cc in omega (arith, ap length same)
rules_count (ws ∷ wss) rules e =
    omega (arith, count_step (rule_of ws) (rules_of wss) (count_by is_left_out wss) (length wss) (λ rs h. rules_count wss rs h) rules e, sum_by-cons (λ (v : List Word). cond (is_left_out v) 1 0) ws wss)

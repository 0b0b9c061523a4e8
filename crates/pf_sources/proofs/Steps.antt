-- Steps one after another, where they go on, stop and end.
use Rattle.std.proofs.Common.{◌≡◌, ℕ, suc, ◌+◌, ◌<◌, ◌≤◌, List, [], ◌∷◌, ◌++◌, length, get_or, take, drop, map, Result, Ok, Err, refl, sym, ap, ◌∙◌, add-one}
use Rattle.std.proofs.{Math.Seq.drop-cons, lemmas.List.{take_more, drop_all, map-append}}
use Rattle.pf_form.specs.Form.Forms.{◌>>=◌}
use Rattle.pf_parse.specs.declared.{fault.Stop.Stop, fault.Stop.TheVariants.{Faulty, Needs, Memory}}
use Rattle.pf_parse.specs.Stops.{Gives}
use Rattle.pf_sources.specs.Steps.{each, Leaves}

pub drop_item : {X : Type 0} → (xs : List X) (i : ℕ) (x : X) → i < length xs → x ≡ get_or xs i x → drop i xs ≡ x ∷ drop (i + 1) xs
drop_item {X} xs i x in_list here =
    drop-cons xs i x in_list ∙ ap (λ (y : X). y ∷ drop (suc i) xs) (sym here) ∙ ap (λ (n : ℕ). x ∷ drop n xs) (sym (add-one i))

pub take_item : {X : Type 0} → (xs : List X) (i : ℕ) (x : X) → i < length xs → x ≡ get_or xs i x → take (i + 1) xs ≡ take i xs ++ x ∷ []
take_item {X} xs i x in_list here = take_more xs i x in_list ∙ ap (λ (y : X). take i xs ++ y ∷ []) (sym here)

pub map_item : {X Y : Type 0} → (f : X → Y) (xs : List X) (i : ℕ) (x : X) → i < length xs → x ≡ get_or xs i x → map f (take (i + 1) xs) ≡ map f (take i xs) ++ f x ∷ []
map_item {X} f xs i x in_list here = ap (λ (ys : List X). map f ys) (take_item xs i x in_list here) ∙ map-append f (take i xs) (x ∷ [])

-- ---- each

-- the first of those that are left is done
pub each_on : {A S E : Type 0} → (step : A → S → Result S E) (xs : List A) (i : ℕ) (x : A) (s t : S) (all : Result S E) → all ≡ each step (drop i xs) s → i < length xs → x ≡ get_or xs i x → step x s ≡ Ok t → all ≡ each step (drop (i + 1) xs) t
unfolding each
each_on {A} step xs i x s t all known within here is =
    known ∙ ap (λ (ys : List A). each step ys s) (drop_item xs i x within here) ∙ rw is refl

pub each_fails : {A S E : Type 0} → (step : A → S → Result S E) (xs : List A) (i : ℕ) (x : A) (s : S) (e : E) (all : Result S E) → all ≡ each step (drop i xs) s → i < length xs → x ≡ get_or xs i x → step x s ≡ Err e → all ≡ Err e
unfolding each
each_fails {A} step xs i x s e all known within here is =
    known ∙ ap (λ (ys : List A). each step ys s) (drop_item xs i x within here) ∙ rw is refl

-- what it leaves doesn't matter where it stops
pub each_stops : {A S : Type 0} → (step : A → S → Result S Stop) (xs : List A) (i : ℕ) (x : A) (s t u : S) (e : Stop) (all : Result S Stop) → all ≡ each step (drop i xs) s → i < length xs → x ≡ get_or xs i x → Leaves (Err e) t (step x s) → Leaves (Err e) u all
each_stops step xs i x s t u (Faulty f) all known within here is = each_fails step xs i x s (Faulty f) all known within here is
each_stops step xs i x s t u (Needs n) all known within here is = each_fails step xs i x s (Needs n) all known within here is
each_stops step xs i x s t u Memory all known within here is = tt

-- the same where a value is given
pub each_stops_giving : {A S : Type 0} → (step : A → S → Result S Stop) (xs : List A) (i : ℕ) (x : A) (s t : S) (e : Stop) (all : Result S Stop) → all ≡ each step (drop i xs) s → i < length xs → x ≡ get_or xs i x → Leaves (Err e) t (step x s) → Gives {A = S} (Err e) all
each_stops_giving step xs i x s t (Faulty f) all known within here is = each_fails step xs i x s (Faulty f) all known within here is
each_stops_giving step xs i x s t (Needs n) all known within here is = each_fails step xs i x s (Needs n) all known within here is
each_stops_giving step xs i x s t Memory all known within here is = tt

pub each_ends : {A S E : Type 0} → (step : A → S → Result S E) (xs : List A) (i : ℕ) (s : S) (all : Result S E) → all ≡ each step (drop i xs) s → length xs ≤ i → all ≡ Ok s
unfolding each
each_ends {A} step xs i s all known past = known ∙ ap (λ (ys : List A). each step ys s) (drop_all i xs past)

pub each_none : {A S E : Type 0} → (step : A → S → Result S E) (s : S) → each step [] s ≡ Ok s
unfolding each
each_none step s = refl

-- one alone
pub each_one : {A S E : Type 0} → (step : A → S → Result S E) (x : A) (s : S) → each step (x ∷ []) s ≡ step x s
unfolding each
each_one step x s = elim (step x s) as (λ r. (r >>= λ t. Ok t) ≡ r) [ Ok t ↦ refl | Err e ↦ refl ]

-- some, and then the others
pub each_append : {A S E : Type 0} → (step : A → S → Result S E) (xs ys : List A) (s : S) → each step (xs ++ ys) s ≡ (each step xs s >>= λ t. each step ys t)
unfolding each
each_append step [] ys s = refl
each_append {A} {S} {E} step (x ∷ xs) ys s =
    elim (step x s) as (λ r. (r >>= λ t. each step (xs ++ ys) t) ≡ ((r >>= λ t. each step xs t) >>= λ t. each step ys t)) [
      | Ok t ↦ each_append step xs ys t
      | Err e ↦ refl
    ]

-- What is done again and again, as long as more follows.
use Rattle.std.proofs.Common.{◌≡◌, ℕ, zero, suc, ◌+◌, ◌-◌, ◌<◌, ◌≤◌, Bool, true, false, List, [], length, Result, Ok, Err, refl, sym, ap, ◌∙◌, arith}
use Rattle.pf_parse.specs.declared.fault.{Mistake.TheVariants.DeepList, Stop.Stop, Stop.TheVariants.{Faulty, Needs, Memory}}
use Rattle.pf_parse.specs.Stops.{fault_at}
use Rattle.pf_parse.specs.States.{State}
use Rattle.pf_parse.specs.Reading.{Reads, Takes, TakesOn, next, after_token, token, unexpected_at, repeating}
use Rattle.pf_parse.specs.Lists.{begin_list, item_more, list, listed_hosts, hosts_in}

turned : {A : Type 0} → (again : A → Reads (A × Bool)) (n : ℕ) (x y : A) (s t : State) → again x s ≡ Ok ((y, true), t) → repeating again (suc n) x s ≡ repeating again n y t
unfolding repeating
turned again n x y s t is = rw is refl

ended : {A : Type 0} → (again : A → Reads (A × Bool)) (n : ℕ) (x y : A) (s t : State) → again x s ≡ Ok ((y, false), t) → repeating again (suc n) x s ≡ Ok (y, t)
unfolding repeating
ended again n x y s t is = rw is refl

stopped : {A : Type 0} → (again : A → Reads (A × Bool)) (n : ℕ) (x : A) (s : State) (e : Stop) → again x s ≡ Err e → repeating again (suc n) x s ≡ Err e
unfolding repeating
stopped again n x s e is = rw is refl

none_left : {A : Type 0} → (again : A → Reads (A × Bool)) (x : A) (s : State) → repeating again 0 x s ≡ Err (unexpected_at (next s))
unfolding repeating
none_left again x s = refl

-- ---- of so many turns, this one

pub turn_on : {A : Type 0} → (again : A → Reads (A × Bool)) (all i : ℕ) (x y : A) (s t : State) → i < all → again x s ≡ Ok ((y, true), t) → repeating again (all - (i + 1)) y t ≡ repeating again (all - i) x s
turn_on again all i x y s t within is =
    let left : all - i ≡ suc (all - (i + 1)) = omega arith in
    sym (ap (λ (n : ℕ). repeating again n x s) left ∙ turned again (all - (i + 1)) x y s t is)

pub turn_ends : {A : Type 0} → (again : A → Reads (A × Bool)) (all i : ℕ) (x y : A) (s t : State) → i < all → again x s ≡ Ok ((y, false), t) → repeating again (all - i) x s ≡ Ok (y, t)
turn_ends again all i x y s t within is =
    let left : all - i ≡ suc (all - (i + 1)) = omega arith in
    ap (λ (n : ℕ). repeating again n x s) left ∙ ended again (all - (i + 1)) x y s t is

pub turn_stops : {A : Type 0} → (again : A → Reads (A × Bool)) (all i : ℕ) (x : A) (s : State) (e : Stop) → i < all → again x s ≡ Err e → repeating again (all - i) x s ≡ Err e
turn_stops again all i x s e within is =
    let left : all - i ≡ suc (all - (i + 1)) = omega arith in
    ap (λ (n : ℕ). repeating again n x s) left ∙ stopped again (all - (i + 1)) x s e is

pub no_turn : {A : Type 0} → (again : A → Reads (A × Bool)) (all i : ℕ) (x : A) (s : State) → all ≤ i → repeating again (all - i) x s ≡ Err (unexpected_at (next s))
no_turn again all i x s past =
    let left : all - i ≡ 0 = omega arith in
    ap (λ (n : ℕ). repeating again n x s) left ∙ none_left again x s

-- ---- a step's stop is the whole's

pub stops_on : {A : Type 0} → (B : Type 0) (e : Stop) (x : A) (s t : State) (r : Result ((A × Bool) × State) Stop) (wanted : Result (B × State) Stop) → TakesOn (Err e) x s r → ((d : Stop) → r ≡ Err d → wanted ≡ Err d) → Takes {A = B} (Err e) t wanted
stops_on B (Faulty f) x s t r wanted is step = step (Faulty f) is
stops_on B (Needs f) x s t r wanted is step = step (Needs f) is
stops_on B Memory x s t r wanted is step = tt

pub stops_at : (A B : Type 0) (e : Stop) (s t : State) (r : Result (A × State) Stop) (wanted : Result (B × State) Stop) → Takes {A = A} (Err e) s r → ((d : Stop) → r ≡ Err d → wanted ≡ Err d) → Takes {A = B} (Err e) t wanted
stops_at A B (Faulty f) s t r wanted is step = step (Faulty f) is
stops_at A B (Needs f) s t r wanted is step = step (Needs f) is
stops_at A B Memory s t r wanted is step = tt

-- ---- lists

pub list_begun : {A : Type 0} → (item : Reads (List A)) (s t : State) → begin_list s ≡ Ok (tt, t) → list item s ≡ repeating (item_more item) (length t.left + 1) [] t
list_begun item s t is = rw is refl

pub too_deep : (deep : ℕ) (s : State) → deep ≡ 0 → hosts_in deep s ≡ Err (fault_at (next s).place DeepList)
unfolding hosts_in
too_deep zero s is = refl
too_deep (suc deep) s is = absurd (omega arith)

pub hosts_stop : (deep : ℕ) (s : State) (e : Stop) → 0 < deep → begin_list (after_token s) ≡ Err e → hosts_in deep s ≡ Err e
unfolding hosts_in token
hosts_stop zero s e some is = absurd (omega arith)
hosts_stop (suc deep) s e some is = rw is refl

pub hosts_begun : (deep : ℕ) (s t : State) → 0 < deep → begin_list (after_token s) ≡ Ok (tt, t) → hosts_in deep s ≡ repeating (item_more (listed_hosts (hosts_in (deep - 1)))) (length t.left + 1) [] t
unfolding hosts_in token
hosts_begun zero s t some is = absurd (omega arith)
hosts_begun (suc deep) s t some is =
    let same : suc deep - 1 ≡ deep = omega arith in
    rw same (rw is refl)

-- The order of expiries has exactly the states that have one, also after a change; and its first says whether any is due.
use Rattle.std.proofs.{Common.{◌≡◌, ℕ, ◌+◌, ◌<◌, ◌≤◌, Bool, true, false, not, ◌&&◌, ◌||◌, cond, T, List, [], ◌∷◌, ◌++◌, Option, Some, None, option_map, length, take, drop, get_or, refl, sym, ap, ◌∙◌, subst, arith}, lemmas.{Cmp.{nat_cmp_total, tied_itself}, Bool.{and_parts, or_parts, eqb-true, eq-eqb, Decides.nat_tests}, List.{take_more, take-append-drop}}}
use Rattle.std.specs.{Prelude.{◌==◌, nat_lt}, declared.{cmp.Ordering.TheVariants.Less, cmp.Ordering.TheVariants.Greater}, FinMap.{find, is_sorted, nat_cmp-IsAntisymmetric}, FinMap.Entries.below_all, Option.option_map_or, Ordering.{ordering_reverse, nat_cmp, eq_by_cmp, is_eq, is_lt}}
use Rattle.pf_map.specs.{Maps.{with_value, without, entry_at}, MapParts.first_of as first_entry}
use Rattle.pf_map.proofs.{Maps.{replaces_the_key, stays_sorted}, Ordered.{put_last, sorted_front}}
use Rattle.pf_state.specs.{declared.{dues.Due.Due, state.Held.Held, state.StateName.StateName}, Dues.{due_order, due_of, PlainDues, with_place, without_place, is_listed, AreDues, IsDueAt}, Orders.{name_total, due_total, dues_rise}, Peer.Written.Each, States.{PlainState, name_order, held_at, stands, all_stand, none_expires}, Steps.without_state}
use Rattle.pf_state.proofs.{Leaves.{reads_put, reads_delete}, Names.one_name, Tables.{no, nothing_is}, TakenOver.{all_held}, Ticks.held_passes}
use Rattle.pf_map.proofs.Tests.{first_of, second_of, less_of, equal_of, same_entry}
use Rattle.std.specs.Cmp.{tied_then}

-- ---- two places are one exactly if the expiries and the names are

number_ties : (m n : ℕ) → is_eq (nat_cmp m n) ≡ (m == n)
number_ties m n = by (is_eq (nat_cmp m n)) refl (m == n) refl where
  by : (a : Bool) → is_eq (nat_cmp m n) ≡ a → (b : Bool) → (m == n) ≡ b → a ≡ b
  by true tied true same = refl
  by true tied false other = sym (eq-eqb m n (nat_cmp-IsAntisymmetric m n (equal_of (nat_cmp m n) tied))) ∙ other
  by false apart true same = sym apart ∙ subst (λ (k : ℕ). is_eq (nat_cmp m k) ≡ true) (eqb-true m n same) (ap is_eq (tied_itself nat_cmp_total m))
  by false apart false other = refl

turned_eq : (m n : ℕ) → (m == n) ≡ (n == m)
turned_eq m n = by (m == n) refl (n == m) refl where
  by : (a : Bool) → (m == n) ≡ a → (b : Bool) → (n == m) ≡ b → a ≡ b
  by true p true q = refl
  by true p false q = sym (eq-eqb n m (sym (eqb-true m n p))) ∙ q
  by false p true q = sym p ∙ eq-eqb m n (sym (eqb-true n m q))
  by false p false q = refl

-- 0 isn't a number that isn't 0
zero_apart : (m n : ℕ) → (m == 0) ≡ true → (n == 0) ≡ false → (m == n) ≡ false
zero_apart m n zero some = by (m == n) refl where
  by : (t : Bool) → (m == n) ≡ t → t ≡ false
  by true same = sym (subst (λ (k : ℕ). (k == 0) ≡ true) (eqb-true m n same) zero) ∙ some
  by false other = refl

pub place_ties : (a b : Due) → eq_by_cmp due_order a b ≡ ((a.expiry == b.expiry) && eq_by_cmp name_order a.name b.name)
place_ties a b = sym (tied_then (nat_cmp a.expiry b.expiry) (name_order a.name b.name)) ∙ ap (λ (t : Bool). t && eq_by_cmp name_order a.name b.name) (number_ties a.expiry b.expiry)

-- ---- one state's place taken out

-- what is listed at a place whose name holds this
abbrev pub listed_by : Option Held → Due → Bool
listed_by o d = not (d.expiry == 0) && option_map_or (λ held. held.expiry == d.expiry) o false

abbrev pub found_by : Bool → Option (Unit {0})
found_by b = cond b (Some tt) None

none_by : (b : Bool) → found_by (b && false) ≡ None
none_by true = refl
none_by false = refl

-- what has no expiry is listed nowhere
never_by : (d : Due) (h : Held) → (h.expiry == 0) ≡ true → found_by (listed_by (Some h) d) ≡ None
never_by d h never = by (d.expiry == 0) refl where
  by : (z : Bool) → (d.expiry == 0) ≡ z → found_by (not z && (h.expiry == d.expiry)) ≡ None
  by true zero = refl
  by false some = ap found_by (zero_apart h.expiry d.expiry never some)

-- what expires at another time isn't listed there
other_by : (d : Due) (h : Held) → (d.expiry == h.expiry) ≡ false → found_by (listed_by (Some h) d) ≡ None
other_by d h other =
    ap (λ (t : Bool). found_by (not (d.expiry == 0) && t)) (turned_eq h.expiry d.expiry ∙ other) ∙ none_by (not (d.expiry == 0))

module _ (es : List PlainState) (ds : PlainDues) (is : AreDues es ds) where
  -- what is found at a place of this name, by what the name holds
  found_at : (n : StateName) (o : Option Held) → held_at n es ≡ o → (d : Due) → eq_by_cmp name_order d.name n ≡ true → find due_order d ds ≡ found_by (listed_by o d)
  found_at n o there d same = is.lists d ∙ ap (λ (p : Option Held). found_by (listed_by p d)) (ap (λ (m : StateName). held_at m es) (one_name d.name n same) ∙ there)

  pub place_gone : (n : StateName) (d : Due) → find due_order d (without_place ds (entry_at name_order n es)) ≡ cond (eq_by_cmp name_order d.name n) None (find due_order d ds)
  place_gone n d = by (held_at n es) refl where
    nothing : (o : Option Held) → held_at n es ≡ o → found_by (listed_by o d) ≡ None → (t : Bool) → eq_by_cmp name_order d.name n ≡ t → find due_order d ds ≡ cond t None (find due_order d ds)
    nothing o there none true same = found_at n o there d same ∙ none
    nothing o there none false other = refl

    taken : (h : Held) → held_at n es ≡ Some h → (t : Bool) → eq_by_cmp name_order d.name n ≡ t → (u : Bool) → (d.expiry == h.expiry) ≡ u
        → cond (u && t) None (find due_order d ds) ≡ cond t None (find due_order d ds)
    taken h there true same true one = refl
    taken h there true same false other = found_at n (Some h) there d same ∙ other_by d h other
    taken h there false same true one = refl
    taken h there false same false other = refl

    held : (h : Held) → held_at n es ≡ Some h → (z : Bool) → (h.expiry == 0) ≡ z
        → find due_order d (cond z ds (without due_order ds (due_of (n, h)))) ≡ cond (eq_by_cmp name_order d.name n) None (find due_order d ds)
    held h there true never = nothing (Some h) there (never_by d h never) (eq_by_cmp name_order d.name n) refl
    held h there false some =
        replaces_the_key (Unit {0}) due_total ds (due_of (n, h)) None d
        ∙ ap (λ (b : Bool). cond b None (find due_order d ds)) (place_ties d (due_of (n, h)))
        ∙ taken h there (eq_by_cmp name_order d.name n) refl (d.expiry == h.expiry) refl

    by : (o : Option Held) → held_at n es ≡ o → find due_order d (without_place ds (option_map (λ v. (n, v)) o)) ≡ cond (eq_by_cmp name_order d.name n) None (find due_order d ds)
    by None none = nothing None none (none_by (not (d.expiry == 0))) (eq_by_cmp name_order d.name n) refl
    by (Some h) there = held h there (h.expiry == 0) refl

-- where no state has an expiry there is no place to take out
pub nothing_placed : (ds : PlainDues) (o : Option PlainState) → length ds ≡ 0 → ds ≡ without_place ds o
nothing_placed [] None none = refl
nothing_placed [] (Some s) none = by (s.1.expiry == 0) where
  by : (z : Bool) → ◌≡◌ {A = PlainDues} [] (cond z [] (without due_order [] (due_of s)))
  by true = refl
  by false = refl
nothing_placed (d ∷ ds) o none = absurd (omega (arith, none))

-- ---- one state's place added

pub place_new : (ds : PlainDues) (s : PlainState) (d : Due)
    → find due_order d (with_place ds s) ≡ cond (eq_by_cmp name_order d.name s.0 && listed_by (Some s.1) d) (Some tt) (find due_order d ds)
place_new ds s d = by (s.1.expiry == 0) refl where
  kept : (t z u : Bool) → (z || u) ≡ z → find due_order d ds ≡ cond (t && (not z && u)) (Some tt) (find due_order d ds)
  kept true true u zero = refl
  kept true false true zero = no zero
  kept true false false zero = refl
  kept false z u zero = refl

  only : (s.1.expiry == 0) ≡ true → (z : Bool) → (d.expiry == 0) ≡ z → (z || (s.1.expiry == d.expiry)) ≡ z
  only never true e = refl
  only never false e = zero_apart s.1.expiry d.expiry never e

  same : (s.1.expiry == 0) ≡ false → (z : Bool) → (d.expiry == 0) ≡ z → (d.expiry == s.1.expiry) ≡ (not z && (s.1.expiry == d.expiry))
  same some true e = zero_apart d.expiry s.1.expiry e some
  same some false e = turned_eq d.expiry s.1.expiry

  put : (t z u v : Bool) → v ≡ (not z && u) → cond (v && t) (Some tt) (find due_order d ds) ≡ cond (t && (not z && u)) (Some tt) (find due_order d ds)
  put true z u true same = ap (λ (b : Bool). cond b (Some tt) (find due_order d ds)) same
  put true z u false same = ap (λ (b : Bool). cond b (Some tt) (find due_order d ds)) same
  put false z u true same = refl
  put false z u false same = refl

  by : (z : Bool) → (s.1.expiry == 0) ≡ z → find due_order d (cond z ds (with_value due_order ds (due_of s) (Some tt))) ≡ cond (eq_by_cmp name_order d.name s.0 && listed_by (Some s.1) d) (Some tt) (find due_order d ds)
  by true never = kept (eq_by_cmp name_order d.name s.0) (d.expiry == 0) (s.1.expiry == d.expiry) (only never (d.expiry == 0) refl)
  by false some =
      replaces_the_key (Unit {0}) due_total ds (due_of s) (Some tt) d
      ∙ ap (λ (b : Bool). cond b (Some tt) (find due_order d ds)) (place_ties d (due_of s))
      ∙ put (eq_by_cmp name_order d.name s.0) (d.expiry == 0) (s.1.expiry == d.expiry) (d.expiry == s.1.expiry) (same some (d.expiry == 0) refl)

-- ---- the order after a change

sorted_new : (ds : PlainDues) (s : PlainState) → T (is_sorted due_order ds) → T (is_sorted due_order (with_place ds s))
sorted_new ds s sorted = by (s.1.expiry == 0) where
  by : (z : Bool) → T (is_sorted due_order (cond z ds (with_value due_order ds (due_of s) (Some tt))))
  by true = sorted
  by false = stays_sorted (Unit {0}) due_total ds (due_of s) (Some tt) sorted

sorted_gone : (ds : PlainDues) (o : Option PlainState) → T (is_sorted due_order ds) → T (is_sorted due_order (without_place ds o))
sorted_gone ds None sorted = sorted
sorted_gone ds (Some s) sorted = by (s.1.expiry == 0) where
  by : (z : Bool) → T (is_sorted due_order (cond z ds (without due_order ds (due_of s))))
  by true = sorted
  by false = stays_sorted (Unit {0}) due_total ds (due_of s) None sorted

pub dues_without : (es : List PlainState) (ds : PlainDues) (n : StateName) → AreDues es ds → AreDues (without_state es n) (without_place ds (entry_at name_order n es))
dues_without es ds n is = record {
  sorted = sorted_gone ds (entry_at name_order n es) is.sorted;
  lists = λ d. place_gone es ds is n d ∙ by d (eq_by_cmp name_order d.name n) ∙ ap (λ (o : Option Held). found_by (listed_by o d)) (sym (reads_delete es n d.name));
} where
  by : (d : Due) (t : Bool) → cond t None (find due_order d ds) ≡ found_by (listed_by (cond t None (held_at d.name es)) d)
  by d true = sym (none_by (not (d.expiry == 0)))
  by d false = is.lists d

pub dues_with : (es : List PlainState) (ds : PlainDues) (s : PlainState) → AreDues es ds
    → AreDues (with_value name_order es s.0 (Some s.1)) (with_place (without_place ds (entry_at name_order s.0 es)) s)
dues_with es ds s is = record {
  sorted = sorted_new (without_place ds (entry_at name_order s.0 es)) s (sorted_gone ds (entry_at name_order s.0 es) is.sorted);
  lists = λ d.
      place_new (without_place ds (entry_at name_order s.0 es)) s d
      ∙ ap (λ (x : Option (Unit {0})). cond (eq_by_cmp name_order d.name s.0 && listed_by (Some s.1) d) (Some tt) x) (place_gone es ds is s.0 d)
      ∙ by d (eq_by_cmp name_order d.name s.0)
      ∙ ap (λ (o : Option Held). found_by (listed_by o d)) (sym (reads_put es s d.name));
} where
  by : (d : Due) (t : Bool) → cond (t && listed_by (Some s.1) d) (Some tt) (cond t None (find due_order d ds)) ≡ found_by (listed_by (cond t (Some s.1) (held_at d.name es)) d)
  by d true = refl
  by d false = is.lists d

-- ---- the order of a list of states, one after the other

pub no_dues : AreDues [] []
no_dues = record { sorted = tt; lists = λ d. sym (none_by (not (d.expiry == 0))) }

none_held : (es : List PlainState) (s : PlainState) → T (is_sorted name_order (es ++ s ∷ [])) → held_at s.0 es ≡ None
none_held [] s is = refl
none_held (e ∷ es) s is = rw (following es (first_of _ _ is)) (none_held es s (second_of _ _ is)) where
  following : (fs : List PlainState) → T (below_all name_order e.0 (fs ++ s ∷ [])) → name_order s.0 e.0 ≡ Greater
  following [] low = name_total.antisymm s.0 e.0 ∙ ap ordering_reverse (less_of _ (first_of _ _ low))
  following (f ∷ fs) low = following fs (second_of _ _ low)

pub dues_last : (es : List PlainState) (ds : PlainDues) (s : PlainState) → T (is_sorted name_order (es ++ s ∷ [])) → AreDues es ds → AreDues (es ++ s ∷ []) (with_place ds s)
dues_last es ds s sorted is =
    subst (λ (l : List PlainState). AreDues l (with_place ds s)) (put_last name_total es s.0 s.1 sorted)
    (subst (λ (o : Option Held). AreDues (with_value name_order es s.0 (Some s.1)) (with_place (without_place ds (option_map (λ v. (s.0, v)) o)) s)) (none_held es s sorted) (dues_with es ds s is))

pub dues_next : (es : List PlainState) (i : ℕ) (s : PlainState) (ds : PlainDues) → T (is_sorted name_order es) → i < length es → s ≡ get_or es i s → AreDues (take i es) ds
    → AreDues (take (i + 1) es) (with_place ds s)
dues_next es i s ds sorted within here is =
    let more : take (i + 1) es ≡ take i es ++ s ∷ [] = take_more es i s within ∙ ap (λ (x : PlainState). take i es ++ x ∷ []) (sym here) in
    let front : T (is_sorted name_order (take (i + 1) es)) =
    sorted_front name_total (take (i + 1) es) (drop (i + 1) es) (subst (λ (l : List PlainState). T (is_sorted name_order l)) (sym (take-append-drop (i + 1) es)) sorted) in
    subst (λ (l : List PlainState). AreDues l (with_place ds s)) (sym more) (dues_last (take i es) ds s (subst (λ (l : List PlainState). T (is_sorted name_order l)) more front) is)

-- ---- the first in the order

-- a state of this name has an expiry, and it is this one
record HasExpiry (es : List PlainState) (d : Due) : Type 0 where
  pub held : Held
  pub there : held_at d.name es ≡ Some held
  pub same : held.expiry ≡ d.expiry
  pub some : (held.expiry == 0) ≡ false

listed_first : (es : List PlainState) (d : Due) (ds : PlainDues) → AreDues es ((d, tt) ∷ ds) → HasExpiry es d
listed_first es d ds is = by (held_at d.name es) refl (sym (is.lists d) ∙ ap (λ (b : Bool). cond b (Some tt) (find due_order d ds)) itself) where
  itself : eq_by_cmp due_order d d ≡ true
  itself = ap is_eq (tied_itself due_total d)

  listed : (b : Bool) → found_by b ≡ Some tt → b ≡ true
  listed true e = refl
  listed false e = nothing_is tt e

  denied : (b : Bool) → not b ≡ true → b ≡ false
  denied true e = no (sym e)
  denied false e = refl

  by : (o : Option Held) → held_at d.name es ≡ o → found_by (listed_by o d) ≡ Some tt → HasExpiry es d
  by None there found = nothing_is tt (sym (none_by (not (d.expiry == 0))) ∙ found)
  by (Some h) there found =
      let both = listed (listed_by (Some h) d) found in
      let some : (d.expiry == 0) ≡ false = denied (d.expiry == 0) (and_parts (not (d.expiry == 0)) (h.expiry == d.expiry) both).0 in
      let same : h.expiry ≡ d.expiry = eqb-true h.expiry d.expiry (and_parts (not (d.expiry == 0)) (h.expiry == d.expiry) both).1 in
      record { held = h; there = there; same = same; some = ap (λ (n : ℕ). n == 0) same ∙ some }

due_in_front : (tick : ℕ) (es : List PlainState) (d : Due) (ds : PlainDues) → AreDues es ((d, tt) ∷ ds) → nat_lt tick d.expiry ≡ false → IsDueAt tick d.name es
due_in_front tick es d ds is past =
    let has = listed_first es d ds is in
    record {
      held = has.held;
      there = has.there;
      due = ap (λ (b : Bool). b || nat_lt tick has.held.expiry) has.some ∙ ap (nat_lt tick) has.same ∙ past;
    }

none_before : (d : Due) (ds : PlainDues) → T (below_all due_order d ds) → find due_order d ds ≡ None
none_before d [] low = refl
none_before d (e ∷ ds) low =
    let less : due_order d e.0 ≡ Less = less_of (due_order d e.0) (first_of (is_lt (due_order d e.0)) (below_all due_order d ds) low) in
    rw less (none_before d ds (second_of (is_lt (due_order d e.0)) (below_all due_order d ds) low))

all_before : (d e : Due) (ds : PlainDues) → due_order d e ≡ Less → T (below_all due_order e ds) → T (below_all due_order d ds)
all_before d e [] less low = tt
all_before d e (f ∷ ds) less low =
    let next : due_order e f.0 ≡ Less = less_of (due_order e f.0) (first_of (is_lt (due_order e f.0)) (below_all due_order e ds) low) in
    let later : due_order d f.0 ≡ Less = due_total.trans d e f.0 less next in
    rw later (all_before d e ds less (second_of (is_lt (due_order e f.0)) (below_all due_order e ds) low))

-- where the first isn't due, no place is that is
none_found : (tick : ℕ) (first d : Due) (ds : PlainDues) → T (is_sorted due_order ((first, tt) ∷ ds)) → nat_lt tick first.expiry ≡ true → d.expiry ≤ tick → find due_order d ((first, tt) ∷ ds) ≡ None
none_found tick first d ds sorted later due =
    let before : d.expiry < first.expiry = grind (arith, nat_tests, later, due) in
    let less : due_order d first ≡ Less = dues_rise d first before in
    rw less (none_before d ds (all_before d first ds less (first_of _ _ sorted)))

all_by : (tick : ℕ) (es all : List PlainState) → Each (λ s. held_at s.0 all ≡ Some s.1) es → ((d : Due) → d.expiry ≤ tick → is_listed all d ≡ false) → all_stand tick es ≡ true
all_by tick [] all each none = refl
all_by tick (e ∷ es) all each none = rw (one (stands tick e.1) refl) (all_by tick es all each.1 none) where
  one : (b : Bool) → stands tick e.1 ≡ b → b ≡ true
  one true is = refl
  one false due =
      let some : (e.1.expiry == 0) ≡ false = (or_parts (e.1.expiry == 0) (nat_lt tick e.1.expiry) due).0 in
      let reached : nat_lt tick e.1.expiry ≡ false = (or_parts (e.1.expiry == 0) (nat_lt tick e.1.expiry) due).1 in
      let past : e.1.expiry ≤ tick = grind (arith, nat_tests, reached) in
      let same : (e.1.expiry == e.1.expiry) ≡ true = eq-eqb e.1.expiry e.1.expiry refl in
      let listed : is_listed all (due_of e) ≡ true = rw (each.0, some, same) refl in
      no (sym listed ∙ none (due_of e) past)

unlisted : (b : Bool) → None ≡ found_by b → b ≡ false
unlisted true e = nothing_is tt e
unlisted false e = refl

stands_in_front : (tick : ℕ) (es : List PlainState) (d : Due) (ds : PlainDues) → T (is_sorted name_order es) → AreDues es ((d, tt) ∷ ds) → nat_lt tick d.expiry ≡ true → all_stand tick es ≡ true
stands_in_front tick es d ds sorted is later = all_by tick es es (all_held es sorted) (λ e due. unlisted _ (sym (none_found tick d e ds is.sorted later due) ∙ is.lists e))

-- what the first of the order says, if there is one
pub none_due : (tick : ℕ) (es : List PlainState) (ds : PlainDues) → T (is_sorted name_order es) → AreDues es ds → None ≡ first_entry ds → all_stand tick es ≡ true
none_due tick es [] sorted is none = all_by tick es es (all_held es sorted) (λ d due. unlisted _ (is.lists d))
none_due tick es (d ∷ ds) sorted is none = absurd (cc (none))

pub first_stands : (tick : ℕ) (es : List PlainState) (d : Due) (ds : PlainDues) → T (is_sorted name_order es) → AreDues es ds → Some (d, tt) ≡ first_entry ds → nat_lt tick d.expiry ≡ true → all_stand tick es ≡ true
first_stands tick es d [] sorted is first later = absurd (cc (first))
first_stands tick es d (e ∷ ds) sorted is first later =
    stands_in_front tick es d ds sorted (subst (λ (x : Due × Unit {0}). AreDues es (x ∷ ds)) (sym (same_entry (d, tt) e first)) is) later

pub first_is_due : (tick : ℕ) (es : List PlainState) (d : Due) (ds : PlainDues) → AreDues es ds → Some (d, tt) ≡ first_entry ds → nat_lt tick d.expiry ≡ false → IsDueAt tick d.name es
first_is_due tick es d [] is first past = absurd (cc (first))
first_is_due tick es d (e ∷ ds) is first past =
    due_in_front tick es d ds (subst (λ (x : Due × Unit {0}). AreDues es (x ∷ ds)) (sym (same_entry (d, tt) e first)) is) past

-- ---- whether any state has an expiry

none_last : (es all : List PlainState) → Each (λ s. held_at s.0 all ≡ Some s.1) es → ((d : Due) → is_listed all d ≡ false) → true ≡ none_expires es
none_last [] all each none = refl
none_last (e ∷ es) all each none = sym (rw (one (e.1.expiry == 0) refl) (sym (none_last es all each.1 none))) where
  one : (z : Bool) → (e.1.expiry == 0) ≡ z → z ≡ true
  one true zero = refl
  one false some =
      let same : (e.1.expiry == e.1.expiry) ≡ true = eq-eqb e.1.expiry e.1.expiry refl in
      let listed : is_listed all (due_of e) ≡ true = rw (each.0, some, same) refl in
      no (sym listed ∙ none (due_of e))

-- the order of expiries is empty exactly if no state has one
pub dues_none : (es : List PlainState) (ds : PlainDues) → T (is_sorted name_order es) → AreDues es ds → (length ds == 0) ≡ none_expires es
dues_none es [] sorted is = none_last es es (all_held es sorted) (λ d. unlisted _ (is.lists d))
dues_none es (e ∷ ds) sorted is = (let some : (length (e ∷ ds) == 0) ≡ false = grind (arith, nat_tests) in some) ∙ by (none_expires es) refl (listed_first es e.0 ds is) where
  by : (b : Bool) → none_expires es ≡ b → HasExpiry es e.0 → false ≡ b
  by true all has = no (sym (held_passes (λ held. held.expiry == 0) es e.0.name has.held all has.there) ∙ has.some)
  by false some has = refl

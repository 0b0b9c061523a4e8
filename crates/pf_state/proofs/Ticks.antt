-- What a tick takes out, and that nothing due is left or comes in.
use Rattle.std.proofs.{Common.{◌≡◌, ℕ, suc, ◌+◌, ◌-◌, ◌<◌, Bool, true, false, not, cond, T, List, [], ◌∷◌, length, Option, Some, None, is_some, refl, sym, ap, ◌∙◌, subst, arith}, lemmas.{Bool.{and_parts, not-false, or_parts}, List.Sums.sum_by-cons}}
use Rattle.std.specs.{Prelude.{filter, ◌==◌}, declared.{cmp.Ordering.Ordering, cmp.Ordering.TheVariants.Less, cmp.Ordering.TheVariants.Equal, cmp.Ordering.TheVariants.Greater}, FinMap.{is_sorted, put}, FinMap.Entries.{below_all, by_order, length_without}, List.{list_all}, Option.unwrap_or, Ordering.{eq_by_cmp}}
use Rattle.pf_map.specs.Maps.{with_value}
use Rattle.pf_map.proofs.Maps.{stays_sorted}
use Rattle.pf_state.specs.{Orders.name_total, declared.{state.Held.Held, state.StateName.StateName, step.StateStep.StateStep, step.StateStep.TheVariants.Insert, step.StateStep.TheVariants.Delete, step.StateStep.TheVariants.Clear}, Dues.IsDueAt, States.{PlainState, name_order, held_at, NamesFlows, IsStates, stands, all_stand, are_whole, is_whole}, Steps.{insertion, has_effect, without_state, without_due, due_count, inserts_due, any_inserts_due, stepped, after}, Laws.States.{still_held, TicksTakeOutTheDue, StepsLeaveNoneDue}}
use Rattle.pf_state.proofs.{Names.{one_name}, Tables.{nothing_is, none_after}}
use Rattle.pf_map.proofs.Tests.{first_of, second_of, both_of, untied_of}

-- ---- what is left

-- what is held under a name that is below all others
none_left : (n : StateName) (es : List PlainState) (tick : ℕ) → T (below_all name_order n es) → T (below_all name_order n (without_due es tick))
none_left n [] tick low = tt
none_left n (e ∷ es) tick low = by (stands tick e.1) (none_left n es tick (second_of _ _ low)) where
  by : (b : Bool) → T (below_all name_order n (without_due es tick)) → T (below_all name_order n (cond b (e ∷ without_due es tick) (without_due es tick)))
  by true rest = both_of _ _ (first_of _ _ low) rest
  by false rest = rest

pub due_sorted : (es : List PlainState) (tick : ℕ) → T (is_sorted name_order es) → T (is_sorted name_order (without_due es tick))
due_sorted [] tick sorted = tt
due_sorted (e ∷ es) tick sorted = by (stands tick e.1) (due_sorted es tick (second_of _ _ sorted)) where
  by : (b : Bool) → T (is_sorted name_order (without_due es tick)) → T (is_sorted name_order (cond b (e ∷ without_due es tick) (without_due es tick)))
  by true rest = both_of _ _ (none_left e.0 es tick (first_of _ _ sorted)) rest
  by false rest = rest

pub reads_due : (es : List PlainState) (tick : ℕ) (q : StateName) → T (is_sorted name_order es) → held_at q (without_due es tick) ≡ still_held tick (held_at q es)
reads_due [] tick q sorted = refl
reads_due (e ∷ es) tick q sorted = by (stands tick e.1) refl (eq_by_cmp name_order q e.0) refl (reads_due es tick q (second_of _ _ sorted)) where
  by : (b : Bool) → stands tick e.1 ≡ b → (t : Bool) → eq_by_cmp name_order q e.0 ≡ t → held_at q (without_due es tick) ≡ still_held tick (held_at q es)
      → held_at q (cond b (e ∷ without_due es tick) (without_due es tick)) ≡ still_held tick (cond t (Some e.1) (held_at q es))
  by true is true same rest = rw (same, is) refl
  by true is false other rest = rw other rest
  by false due true same rest =
      let gone : held_at q (without_due es tick) ≡ None = ap (λ (n : StateName). held_at n (without_due es tick)) (one_name q e.0 same) ∙ none_after e.0 (without_due es tick) (none_left e.0 es tick (first_of _ _ sorted)) in
      rw due gone
  by false due false other rest = rest

pub left_stand : (es : List PlainState) (tick : ℕ) → all_stand tick (without_due es tick) ≡ true
left_stand [] tick = refl
left_stand (e ∷ es) tick = by (stands tick e.1) refl (left_stand es tick) where
  by : (b : Bool) → stands tick e.1 ≡ b → all_stand tick (without_due es tick) ≡ true → all_stand tick (cond b (e ∷ without_due es tick) (without_due es tick)) ≡ true
  by true is rest = rw is rest
  by false due rest = rest

pub due_shrinks : (es : List PlainState) (tick : ℕ) → length (without_due es tick) + due_count es tick ≡ length es
due_shrinks [] tick = refl
due_shrinks (e ∷ es) tick = by (stands tick e.1) (due_shrinks es tick) (sum_by-cons (λ (s : PlainState). cond (not (stands tick s.1)) 1 0) e es) where
  by : (b : Bool) → length (without_due es tick) + due_count es tick ≡ length es → due_count (e ∷ es) tick ≡ cond (not b) 1 0 + due_count es tick
      → length (cond b (e ∷ without_due es tick) (without_due es tick)) + due_count (e ∷ es) tick ≡ suc (length es)
  by true rest more = omega (arith, rest, more)
  by false rest more = omega (arith, rest, more)

-- what still is held was held
was_held : (tick : ℕ) (o : Option Held) (x : Held) → still_held tick o ≡ Some x → o ≡ Some x
was_held tick None x e = e
was_held tick (Some h) x e = by (stands tick h) e where
  by : (b : Bool) → cond b (Some h) None ≡ Some x → Some h ≡ Some x
  by true e = e
  by false e = nothing_is x e

pub names_due : (es : List PlainState) (tick : ℕ) → NamesFlows es → NamesFlows (without_due es tick)
names_due es tick is = record {
  sorted = due_sorted es tick is.sorted;
  one_flow = λ a b x y at_a at_b same. is.one_flow a b x y
      (was_held tick (held_at a es) x (sym (reads_due es tick a is.sorted) ∙ at_a)) (was_held tick (held_at b es) y (sym (reads_due es tick b is.sorted) ∙ at_b)) same;
}

pub states_due : (es : List PlainState) (tick : ℕ) → IsStates es → IsStates (without_due es tick)
states_due es tick is = record { names = names_due es tick is.names; few = let e = due_shrinks es tick in let few = is.few in omega (arith, e, few) }

pub whole_due : (es : List PlainState) (tick : ℕ) → are_whole es ≡ true → are_whole (without_due es tick) ≡ true
whole_due [] tick whole = refl
whole_due (e ∷ es) tick whole =
    let parts = and_parts (is_whole e.1.bound) (are_whole es) whole in
    by (stands tick e.1) parts.0 (whole_due es tick parts.1) where
      by : (b : Bool) → is_whole e.1.bound ≡ true → are_whole (without_due es tick) ≡ true → are_whole (cond b (e ∷ without_due es tick) (without_due es tick)) ≡ true
      by true one rest = rw one rest
      by false one rest = rest

pub ticks_take_out_the_due : TicksTakeOutTheDue
ticks_take_out_the_due es tick is = record {
  reads = λ q. reads_due es tick q is.sorted;
  stand = left_stand es tick;
  count = due_shrinks es tick;
  table = states_due es tick;
}

-- ---- where none is due

pub all_left : (es : List PlainState) (tick : ℕ) → all_stand tick es ≡ true → without_due es tick ≡ es
all_left [] tick all = refl
all_left (e ∷ es) tick all =
    let parts = and_parts (stands tick e.1) (all_stand tick es) all in
    rw parts.0 (ap (λ (l : List PlainState). e ∷ l) (all_left es tick parts.1))

-- what is held passes a test that all pass
pub held_passes : (test : Held → Bool) (es : List PlainState) (q : StateName) (h : Held) → list_all (λ s. test s.1) es ≡ true → held_at q es ≡ Some h → test h ≡ true
held_passes test [] q h all there = nothing_is h there
held_passes test (e ∷ es) q h all there =
    let parts = and_parts (test e.1) (list_all (λ s. test s.1) es) all in
    by (eq_by_cmp name_order q e.0) parts.0 (held_passes test es q h parts.1) there where
      by : (t : Bool) → test e.1 ≡ true → (held_at q es ≡ Some h → test h ≡ true) → cond t (Some e.1) (held_at q es) ≡ Some h → test h ≡ true
      by true one rest here = ap test (sym (ap (λ (o : Option Held). unwrap_or o e.1) here)) ∙ one
      by false one rest here = rest here

-- what is held stands
pub held_stands : (es : List PlainState) (tick : ℕ) (q : StateName) (h : Held) → all_stand tick es ≡ true → held_at q es ≡ Some h → stands tick h ≡ true
held_stands es tick q h all there = held_passes (stands tick) es q h all there

-- where one is due, not all stand
pub none_stand : (es : List PlainState) (tick : ℕ) (n : StateName) → IsDueAt tick n es → all_stand tick es ≡ false
none_stand es tick n is = by (all_stand tick es) refl where
  by : (b : Bool) → all_stand tick es ≡ b → b ≡ false
  by true all = sym (held_stands es tick n is.held all is.there) ∙ is.due
  by false some = refl

-- those that pass a test
left : (test : PlainState → Bool) (es : List PlainState) (tick : ℕ) → all_stand tick es ≡ true → all_stand tick (filter test es) ≡ true
left test [] tick all = refl
left test (e ∷ es) tick all =
    let parts = and_parts (stands tick e.1) (all_stand tick es) all in
    by (test e) parts.0 (left test es tick parts.1) where
      by : (b : Bool) → stands tick e.1 ≡ true → all_stand tick (filter test es) ≡ true → all_stand tick (cond b (e ∷ filter test es) (filter test es)) ≡ true
      by true one rest = rw one rest
      by false one rest = rest

put_in : (n : StateName) (h : Held) (es : List PlainState) (tick : ℕ) → stands tick h ≡ true → all_stand tick es ≡ true → all_stand tick (put name_order n h es) ≡ true
put_in n h [] tick new all = rw new refl
put_in n h (e ∷ es) tick new all =
    let parts = and_parts (stands tick e.1) (all_stand tick es) all in
    by (name_order n e.0) parts.0 parts.1 (put_in n h es tick new parts.1) where
      by : (r : Ordering) → stands tick e.1 ≡ true → all_stand tick es ≡ true → all_stand tick (put name_order n h es) ≡ true
          → all_stand tick (by_order r ((n, h) ∷ e ∷ es) ((e.0, h) ∷ es) (e ∷ put name_order n h es)) ≡ true
      by Less one rest more = rw (new, one) rest
      by Equal one rest more = rw new rest
      by Greater one rest more = rw one more

pub stand_without : (es : List PlainState) (tick : ℕ) (n : StateName) → all_stand tick es ≡ true → all_stand tick (without_state es n) ≡ true
stand_without es tick n all = left (λ e. not (eq_by_cmp name_order n e.0)) es tick all

stand_step : (es : List PlainState) (tick : ℕ) (x : StateStep) → all_stand tick es ≡ true → inserts_due tick x ≡ false → all_stand tick (stepped es x) ≡ true
unfolding stepped
stand_step es tick (Insert s) all none = by (has_effect (insertion es s)) where
  by : (b : Bool) → all_stand tick (cond b (with_value name_order es s.0 (Some s.1)) es) ≡ true
  by true = put_in s.0 s.1 (with_value name_order es s.0 None) tick (not-false (stands tick s.1) none) (stand_without es tick s.0 all)
  by false = all
stand_step es tick (Delete n) all none = stand_without es tick n all
stand_step es tick (Clear creator) all none = left (λ e. not (e.0.creator == creator)) es tick all

pub stand_after : (es : List PlainState) (tick : ℕ) (steps : List StateStep) → all_stand tick es ≡ true → any_inserts_due tick steps ≡ false → all_stand tick (after es steps) ≡ true
stand_after es tick [] all none = all
stand_after es tick (x ∷ xs) all none =
    stand_after (stepped es x) tick xs (stand_step es tick x all (or_parts (inserts_due tick x) (any_inserts_due tick xs) none).0) (or_parts (inserts_due tick x) (any_inserts_due tick xs) none).1

pub steps_leave_none_due : StepsLeaveNoneDue
steps_leave_none_due es tick all = record { steps = λ steps none. stand_after es tick steps all none; without = λ n. stand_without es tick n all }

-- ---- the states that are due are taken out one after the other

-- a name that is below all others isn't there
not_there : (n : StateName) (es : List PlainState) → T (below_all name_order n es) → without_state es n ≡ es
not_there n [] low = refl
not_there n (e ∷ es) low = rw (untied_of (name_order n e.0) (first_of _ _ low)) (ap (λ (l : List PlainState). e ∷ l) (not_there n es (second_of _ _ low)))

-- where a state that is due is taken out, the same is left
due_out : (es : List PlainState) (tick : ℕ) (n : StateName) (h : Held) → T (is_sorted name_order es) → held_at n es ≡ Some h → stands tick h ≡ false
    → without_due (without_state es n) tick ≡ without_due es tick
due_out [] tick n h sorted there due = refl
due_out (e ∷ es) tick n h sorted there due = by (eq_by_cmp name_order n e.0) refl there (λ held. due_out es tick n h (second_of _ _ sorted) held due) where
  by : (t : Bool) → eq_by_cmp name_order n e.0 ≡ t → cond t (Some e.1) (held_at n es) ≡ Some h
      → (held_at n es ≡ Some h → without_due (without_state es n) tick ≡ without_due es tick)
      → without_due (cond (not t) (e ∷ without_state es n) (without_state es n)) tick ≡ without_due (e ∷ es) tick
  by true here held rest =
      let one : e.1 ≡ h = ap (λ (o : Option Held). unwrap_or o e.1) held in
      let gone : stands tick e.1 ≡ false = ap (stands tick) one ∙ due in
      let stays : without_state es n ≡ es = not_there n es (subst (λ (m : StateName). T (below_all name_order m es)) (sym (one_name n e.0 here)) (first_of _ _ sorted)) in
      rw gone (ap (λ (l : List PlainState). without_due l tick) stays)
  by false other held rest = ap (λ (l : List PlainState). cond (stands tick e.1) (e ∷ l) l) (rest held)

pub one_due : (es : List PlainState) (tick : ℕ) (n : StateName) → T (is_sorted name_order es) → IsDueAt tick n es → without_due (without_state es n) tick ≡ without_due es tick
one_due es tick n sorted is = due_out es tick n is.held sorted is.there is.due

-- and there is one state less
pub one_less : (es : List PlainState) (tick : ℕ) (n : StateName) → T (is_sorted name_order es) → IsDueAt tick n es → length (without_state es n) < length es
one_less es tick n sorted due =
    let taken : cond (is_some (held_at n es)) 1 0 + length (without_state es n) ≡ length es = length_without name_order name_total n es sorted in
    let one : ◌≡◌ {A = ℕ} (cond (is_some (held_at n es)) 1 0) 1 = ap (λ (o : Option Held). cond (is_some o) 1 0) due.there in
    omega (arith, taken, one)

-- Some of those that are due were taken out, and these are left.
pub record Standing (es : List PlainState) (tick : ℕ) (now : List PlainState) : Type 0 where
  pub sorted : T (is_sorted name_order now)
  pub left : without_due now tick ≡ without_due es tick

pub standing_begun : (es : List PlainState) (tick : ℕ) → T (is_sorted name_order es) → Standing es tick es
standing_begun es tick sorted = record { sorted = sorted; left = refl }

pub standing_on : (es : List PlainState) (tick : ℕ) (now : List PlainState) (n : StateName) → Standing es tick now → IsDueAt tick n now → Standing es tick (without_state now n)
standing_on es tick now n is due = record {
  sorted = stays_sorted Held name_total now n None is.sorted;
  left = one_due now tick n is.sorted due ∙ is.left;
}

pub standing_all : (es : List PlainState) (tick : ℕ) (now : List PlainState) → Standing es tick now → all_stand tick now ≡ true → now ≡ without_due es tick
standing_all es tick now is all = sym (all_left now tick all) ∙ is.left

-- so this is how many fewer there are
pub due_counted : (es : List PlainState) (tick : ℕ) → length es - length (without_due es tick) ≡ due_count es tick
due_counted es tick = let taken = due_shrinks es tick in omega (arith, taken)

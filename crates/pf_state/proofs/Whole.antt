-- States that are bound by whole checksums stay so.
use Rattle.std.proofs.{Common.{◌≡◌, ℕ, ◌==◌, not, Bool, true, false, cond, List, [], ◌∷◌, ◌++◌, Some, None, refl}, lemmas.Bool.and_parts}
use Rattle.std.specs.{Prelude.filter, declared.{cmp.Ordering.Ordering, cmp.Ordering.TheVariants.Less, cmp.Ordering.TheVariants.Equal, cmp.Ordering.TheVariants.Greater}, FinMap.put, FinMap.Entries.by_order, Ordering.eq_by_cmp}
use Rattle.pf_map.specs.Maps.{with_value}
use Rattle.pf_state.specs.{declared.{state.Held.Held, state.StateName.StateName}, States.{PlainState, name_order, is_whole, are_whole}, Steps.{without_state, without_creator}}

whole_more : (e : PlainState) (es : List PlainState) → is_whole e.1.bound ≡ true → are_whole es ≡ true → are_whole (e ∷ es) ≡ true
whole_more e es one rest = rw one rest

pub whole_pushed : (es : List PlainState) (s : PlainState) → are_whole es ≡ true → is_whole s.1.bound ≡ true → are_whole (es ++ s ∷ []) ≡ true
whole_pushed [] s whole one = whole_more s [] one refl
whole_pushed (e ∷ es) s whole one =
    let parts = and_parts (is_whole e.1.bound) (are_whole es) whole in
    whole_more e (es ++ s ∷ []) parts.0 (whole_pushed es s parts.1 one)

-- those that pass a test
left : (test : PlainState → Bool) (es : List PlainState) → are_whole es ≡ true → are_whole (filter test es) ≡ true
left test [] whole = refl
left test (e ∷ es) whole =
    let parts = and_parts (is_whole e.1.bound) (are_whole es) whole in
    by (test e) parts.0 (left test es parts.1) where
      by : (b : Bool) → is_whole e.1.bound ≡ true → are_whole (filter test es) ≡ true → are_whole (cond b (e ∷ filter test es) (filter test es)) ≡ true
      by true one rest = whole_more e (filter test es) one rest
      by false one rest = rest

put_in : (n : StateName) (h : Held) (es : List PlainState) → is_whole h.bound ≡ true → are_whole es ≡ true → are_whole (put name_order n h es) ≡ true
put_in n h [] new whole = whole_more (n, h) [] new refl
put_in n h (e ∷ es) new whole =
    let parts = and_parts (is_whole e.1.bound) (are_whole es) whole in
    by (name_order n e.0) parts.0 parts.1 (put_in n h es new parts.1) where
      by : (r : Ordering) → is_whole e.1.bound ≡ true → are_whole es ≡ true → are_whole (put name_order n h es) ≡ true
          → are_whole (by_order r ((n, h) ∷ e ∷ es) ((e.0, h) ∷ es) (e ∷ put name_order n h es)) ≡ true
      by Less one rest more = whole_more (n, h) (e ∷ es) new (whole_more e es one rest)
      by Equal one rest more = whole_more (e.0, h) es new rest
      by Greater one rest more = whole_more e (put name_order n h es) one more

pub whole_with : (es : List PlainState) (s : PlainState) → is_whole s.1.bound ≡ true → are_whole es ≡ true → are_whole (with_value name_order es s.0 (Some s.1)) ≡ true
whole_with es s new whole = put_in s.0 s.1 (with_value name_order es s.0 None) new (left (λ e. not (eq_by_cmp name_order s.0 e.0)) es whole)

pub whole_without : (es : List PlainState) (n : StateName) → are_whole es ≡ true → are_whole (without_state es n) ≡ true
whole_without es n whole = left (λ e. not (eq_by_cmp name_order n e.0)) es whole

pub whole_cleared : (es : List PlainState) (creator : ℕ) → are_whole es ≡ true → are_whole (without_creator es creator) ≡ true
whole_cleared es creator whole = left (λ e. not (e.0.creator == creator)) es whole

-- Rows of states make a table, one after the other.
use Rattle.std.proofs.{Common.{◌≡◌, ◌&&◌, not, ◌≤◌, Bool, true, false, T, List, [], ◌∷◌, ◌++◌, length, map, Some, ◌⊎◌, inl, inr, None, refl, sym, ap, ◌∙◌, append_assoc, subst, true≢false, arith}, lemmas.List.{append-nil, length-map}, lemmas.Bool.{and_parts, and_right, or_parts, or_right, Decides.nat_tests}}
use Rattle.std.specs.{Prelude.nat_le, declared.{cmp.Ordering.Ordering, cmp.Ordering.TheVariants.Less}, FinMap.{is_sorted, put}, FinMap.Entries.below_all, List.list_any, Ordering.{eq_by_cmp, is_eq, is_lt}}
use Rattle.pf_form.specs.Bytes.Lists.{in_order}
use Rattle.pf_map.specs.Maps.{with_value}
use Rattle.pf_map.specs.Indexes.{no_flow_twice as none_twice_in}
use Rattle.pf_state.specs.{declared.{limits.TheConstants.STATE_LIMIT, layouts.state.StoredState.StoredState}, FlowKeys.{key_of, key_order}, Flows.same_flow, Orders.name_total, States.{PlainState, name_order, NamesFlows, IsStates}, Steps.is_clash, Peer.Written.Each, Layouts.{Rows.{plain_row, IsTableOf}, States.{plain_state, state_in, plain_states, state_before, no_flow_twice}}}
use Rattle.pf_state.proofs.{FlowKeys.same_flow_is, LayoutsBack.state_back, TakenOver.{Before, Apart, all_kept, put_last, all_held, apart_of}, Tables.{names_put}}
use Rattle.pf_map.proofs.Tests.{true_of, holds_of, first_of, second_of, less_of}
use Rattle.pf_state.proofs.Flows.{either_true}

-- ---- in order

below_later : (e s : PlainState) (es : List PlainState) → T (is_lt (name_order e.0 s.0)) → T (below_all name_order s.0 es) → T (below_all name_order e.0 es)
below_later e s [] less low = tt
below_later e s (f ∷ es) less low =
    let later : name_order e.0 f.0 ≡ Less = name_total.trans e.0 s.0 f.0 (less_of _ less) (less_of _ (first_of _ _ low)) in
    rw later (below_later e s es less (second_of (is_lt (name_order s.0 f.0)) _ low))

-- states of which each comes before the next are sorted
sorted_of : (es : List PlainState) → in_order state_before (plain_states es) ≡ true → T (is_sorted name_order es)
sorted_of [] turn = tt
sorted_of (s ∷ []) turn = tt
sorted_of (s ∷ t ∷ es) turn =
    let parts = and_parts (state_before (plain_state s) (plain_state t)) _ turn in
    let less : T (is_lt (name_order s.0 t.0)) = holds_of (is_lt (name_order s.0 t.0)) parts.0 in
    let later : T (is_sorted name_order (t ∷ es)) = sorted_of (t ∷ es) parts.1 in
    let low : T (below_all name_order s.0 es) = below_later s t es less (first_of (below_all name_order t.0 es) _ later) in
    rw (true_of _ less, true_of _ low) later

-- and those that are sorted come so
pub in_turn : (es : List PlainState) → T (is_sorted name_order es) → in_order state_before (plain_states es) ≡ true
in_turn [] sorted = refl
in_turn (s ∷ []) sorted = refl
in_turn (s ∷ t ∷ es) sorted =
    let less : is_lt (name_order s.0 t.0) ≡ true = true_of _ (first_of _ _ (first_of (below_all name_order s.0 (t ∷ es)) _ sorted)) in
    rw less (in_turn (t ∷ es) (second_of (below_all name_order s.0 (t ∷ es)) _ sorted))

-- ---- their flows

others : (e : PlainState) (es : List PlainState) → Each (λ s. Before s e) es → list_any (λ t. same_flow e.1.flow t.1.flow) es ≡ false
others e [] each = refl
others e (s ∷ es) each = rw each.0.other (others e es each.1)

none_twice : (es : List PlainState) → Apart es → no_flow_twice es ≡ true
none_twice [] apart = refl
none_twice (e ∷ es) apart = rw (others e es apart.0) (none_twice es apart.1)

pub once_each : (es : List PlainState) → NamesFlows es → no_flow_twice es ≡ true
once_each es names = none_twice es (apart_of es names es names.sorted (all_held es names.sorted))

found : (e s : PlainState) (ps fs : List PlainState) → same_flow e.1.flow s.1.flow ≡ true → list_any (λ t. same_flow e.1.flow t.1.flow) (ps ++ s ∷ fs) ≡ true
found e s [] fs same = rw same refl
found e s (p ∷ ps) fs same = or_right (same_flow e.1.flow p.1.flow) _ (found e s ps fs same)

-- a state whose flow occurs before it
twice : (ps : List PlainState) (s : PlainState) (fs : List PlainState) → is_clash ps s ≡ true → no_flow_twice (ps ++ s ∷ fs) ≡ false
twice [] s fs clash = absurd (true≢false (sym clash))
twice (p ∷ ps) s fs clash = by (either_true (not (is_eq (name_order p.0 s.0)) && same_flow p.1.flow s.1.flow) (is_clash ps s) clash) (λ later. twice ps s fs later) where
  by : ((not (is_eq (name_order p.0 s.0)) && same_flow p.1.flow s.1.flow) ≡ true) ⊎ (is_clash ps s ≡ true) → (is_clash ps s ≡ true → no_flow_twice (ps ++ s ∷ fs) ≡ false)
      → no_flow_twice ((p ∷ ps) ++ s ∷ fs) ≡ false
  by (inl here) rest = rw (found p s ps fs (and_parts (not (is_eq (name_order p.0 s.0))) (same_flow p.1.flow s.1.flow) here).1) refl
  by (inr later) rest = and_right (not (list_any (λ t. same_flow p.1.flow t.1.flow) (ps ++ s ∷ fs))) _ (rest later)

low_at : (e s : PlainState) (ps fs : List PlainState) → T (below_all name_order e.0 (ps ++ s ∷ fs)) → T (is_lt (name_order e.0 s.0))
low_at e s [] fs low = first_of _ _ low
low_at e s (p ∷ ps) fs low = low_at e s ps fs (second_of (is_lt (name_order e.0 p.0)) _ low)

-- one that clashes with none comes after them in order
before_it : (ps : List PlainState) (s : PlainState) (fs : List PlainState) → T (is_sorted name_order (ps ++ s ∷ fs)) → is_clash ps s ≡ false → Each (Before s) ps
before_it [] s fs sorted none = tt
before_it (p ∷ ps) s fs sorted none =
    let less : name_order p.0 s.0 ≡ Less = less_of _ (low_at p s ps fs (first_of _ _ sorted)) in (
      record { less = less; other = subst (λ (r : Ordering). (not (is_eq r) && same_flow p.1.flow s.1.flow) ≡ false) less (or_parts _ _ none).0 },
      before_it ps s fs (second_of (below_all name_order p.0 (ps ++ s ∷ fs)) _ sorted) (or_parts (not (is_eq (name_order p.0 s.0)) && same_flow p.1.flow s.1.flow) _ none).1,
    )

-- ---- rows

abbrev pub of_row : StoredState → PlainState
of_row r = r.state

rows_back : (rows : List StoredState) → map state_in (map plain_row rows) ≡ map of_row rows
rows_back [] = refl
rows_back (r ∷ rows) = rw (state_back r.state, rows_back rows) refl

plain_rows : (rows : List StoredState) → plain_states (map of_row rows) ≡ map plain_row rows
plain_rows [] = refl
plain_rows (r ∷ rows) = ap (λ l. plain_row r ∷ l) (plain_rows rows)

-- these states were made of the rows before those that are left
record Made (rows rest : List StoredState) (es : List PlainState) : Type 0 where
  pub split : es ++ map of_row rest ≡ map of_row rows
  pub names : NamesFlows es

made_none : (rows : List StoredState) → Made rows rows []
made_none rows = record { split = refl; names = record { sorted = tt; one_flow = λ a b x y held other same. absurd cc } }

made_one : (rows rest : List StoredState) (es new : List PlainState) (r : StoredState) → in_order state_before (map plain_row rows) ≡ true → Made rows (r ∷ rest) es
    → is_clash es r.state ≡ false → new ≡ with_value name_order es r.state.0 (Some r.state.1) → Made rows rest new
made_one rows rest es new r turn made none is_new =
    let s = r.state in
    let turned : in_order state_before (plain_states (es ++ s ∷ map of_row rest)) ≡ true = rw (made.split, plain_rows rows) turn in
    let each = before_it es s (map of_row rest) (sorted_of (es ++ s ∷ map of_row rest) turned) none in
    let last : new ≡ es ++ s ∷ [] = is_new ∙ ap (put name_order s.0 s.1) (all_kept es s each) ∙ put_last es s each in
    record {
      split = rw (last, append_assoc) made.split;
      names = rw is_new (names_put es s made.names none);
    }

-- in order, and with no flow twice, they are all made
made_of : (rows rest : List StoredState) (es : List PlainState) → in_order state_before (map plain_row rows) ≡ true → no_flow_twice (map of_row rows) ≡ true → Made rows rest es → NamesFlows (map of_row rows)
made_of rows [] es turn once made = subst NamesFlows (sym (append-nil es) ∙ made.split) made.names
made_of rows (r ∷ rest) es turn once made =
    let none : is_clash es r.state ≡ false = free (is_clash es r.state) (λ clash. sym (ap no_flow_twice made.split) ∙ twice es r.state (map of_row rest) clash) in
    made_of rows rest (with_value name_order es r.state.0 (Some r.state.1)) turn once (made_one rows rest es (with_value name_order es r.state.0 (Some r.state.1)) r turn made none refl) where
      free : (b : Bool) → (b ≡ true → no_flow_twice (map of_row rows) ≡ false) → b ≡ false
      free true clash = absurd (true≢false (sym once ∙ clash refl))
      free false clash = refl

any_is : (e : PlainState) (es : List PlainState) → list_any (λ t. eq_by_cmp key_order (key_of e.1.flow) (key_of t.1.flow)) es ≡ list_any (λ t. same_flow e.1.flow t.1.flow) es
any_is e es = λ i. list_any (λ (t : PlainState). sym (same_flow_is e.1.flow t.1.flow) i) es

once_is : (es : List PlainState) → none_twice_in key_order (λ held. key_of held.flow) es ≡ no_flow_twice es
once_is [] = refl
once_is (e ∷ es) =
    ap (λ (b : Bool). not b && none_twice_in key_order (λ held. key_of held.flow) es) (any_is e es)
    ∙ ap (λ (b : Bool). not (list_any (λ t. same_flow e.1.flow t.1.flow) es) && b) (once_is es)

pub rows_sorted : (rows : List StoredState) → in_order state_before (map plain_row rows) ≡ true → T (is_sorted name_order (map of_row rows))
rows_sorted rows turn = sorted_of (map of_row rows) (ap (in_order state_before) (plain_rows rows) ∙ turn)

pub no_table : (rows : List StoredState) → none_twice_in key_order (λ held. key_of held.flow) (map of_row rows) ≡ false → IsTableOf rows None
no_table rows twice =
    let once : no_flow_twice (map state_in (map plain_row rows)) ≡ false = ap no_flow_twice (rows_back rows) ∙ sym (once_is (map of_row rows)) ∙ twice in
    and_right (nat_le (length (map plain_row rows)) STATE_LIMIT) _ (and_right (in_order state_before (map plain_row rows)) _ once)

pub are_states : (rows : List StoredState) (es : List PlainState) → in_order state_before (map plain_row rows) ≡ true → length rows ≤ STATE_LIMIT → es ≡ map of_row rows
    → none_twice_in key_order (λ held. key_of held.flow) (map of_row rows) ≡ true → IsStates es
are_states rows es turn few all once = record {
  names = rw all (made_of rows rows [] turn (sym (once_is (map of_row rows)) ∙ once) (made_none rows));
  few = rw all (omega (arith, few, length-map rows of_row));
}

pub is_table : (rows : List StoredState) (es : List PlainState) → in_order state_before (map plain_row rows) ≡ true → length rows ≤ STATE_LIMIT → es ≡ map of_row rows
    → none_twice_in key_order (λ held. key_of held.flow) (map of_row rows) ≡ true → IsTableOf rows (Some es)
is_table rows es turn few all is =
    let short : nat_le (length (map plain_row rows)) STATE_LIMIT ≡ true = grind (arith, nat_tests, few, length-map rows plain_row) in
    let once : no_flow_twice (map state_in (map plain_row rows)) ≡ true = ap no_flow_twice (rows_back rows) ∙ sym (once_is (map of_row rows)) ∙ is in
    (rw (short, turn, once) refl, rw (all, plain_rows rows) refl)

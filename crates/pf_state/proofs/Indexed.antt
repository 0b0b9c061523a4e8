-- What an index of states returns is what the list of them has.
use Rattle.std.proofs.{Common.{◌≡◌, ℕ, ◌⊎◌, inl, inr, Bool, true, false, not, ◌&&◌, cond, T, List, [], ◌∷◌, Option, Some, None, refl, sym, ap, ◌∙◌, subst}, lemmas.Bool.and_parts, lemmas.Cmp.eq_by_cmp_equiv}
use Rattle.std.specs.{Prelude.◌==◌, FinMap.{is_sorted}, FinMap.Entries.{is_sorted-where_key, same_entries}, List.find as first_where, Option.option_map_or, Ordering.eq_by_cmp}
use Rattle.pf_map.specs.Indexes.{of_flow, is_clash as clashes_in}
use Rattle.pf_map.proofs.Maps.{stays_sorted}
use Rattle.pf_state.specs.{declared.{state.Held.Held, state.StateName.StateName}, FlowKeys.{key_of, key_order}, Flows.{PlainFlow, same_flow}, Orders.{name_total, name_alike, key_total}, States.{PlainState, name_order, held_at, state_of, NamesFlows}, Steps.{insertion, has_effect, is_clash, without_creator, without_state}}
use Rattle.pf_state.proofs.{FlowKeys.same_flow_is, Flows.either_true, Leaves.{reads_delete, reads_clear}, Names.{one_name, same_itself}, Tables.{no, nothing_is, no_clash, others_differ, none_after, one_state_a_flow}}
use Rattle.pf_map.proofs.Tests.{first_of, second_of}

-- ---- what is held, and the state of a flow

pub of_flow_is : (es : List PlainState) (f : PlainFlow) → of_flow key_order (λ held. key_of held.flow) (key_of f) es ≡ state_of f es
of_flow_is es f = λ i. first_where (λ (s : PlainState). tied s i) es where
  tied : (s : PlainState) → eq_by_cmp key_order (key_of f) (key_of s.1.flow) ≡ same_flow s.1.flow f
  tied s = (eq_by_cmp_equiv key_total).symm (key_of f) (key_of s.1.flow) ∙ sym (same_flow_is s.1.flow f)

-- ---- clashes

not_true : (a : Bool) → not a ≡ true → a ≡ false
not_true true e = no (sym e)
not_true false e = refl

record Clashing (es : List PlainState) (s : PlainState) : Type 0 where
  pub with : PlainState
  pub held : held_at with.0 es ≡ Some with.1
  pub other : eq_by_cmp name_order with.0 s.0 ≡ false
  pub flow : same_flow with.1.flow s.1.flow ≡ true

-- what is held stays so with one more state in front
held_after : (e : PlainState) (es : List PlainState) (n : StateName) (h : Held) → T (is_sorted name_order (e ∷ es)) → held_at n es ≡ Some h → held_at n (e ∷ es) ≡ Some h
held_after e es n h is held = by (eq_by_cmp name_order n e.0) refl where
  by : (t : Bool) → eq_by_cmp name_order n e.0 ≡ t → cond t (Some e.1) (held_at n es) ≡ Some h
  by true same = nothing_is h (sym (none_after e.0 es (first_of _ _ is)) ∙ subst (λ n. held_at n es ≡ Some h) (one_name n e.0 same) held)
  by false same = held

clashing : (es : List PlainState) (s : PlainState) → T (is_sorted name_order es) → is_clash es s ≡ true → Clashing es s
clashing [] s is found = no (sym found)
clashing (e ∷ es) s is found = by (either_true (not (eq_by_cmp name_order e.0 s.0) && same_flow e.1.flow s.1.flow) (is_clash es s) found) (clashing es s (second_of _ _ is)) where
  by : ((not (eq_by_cmp name_order e.0 s.0) && same_flow e.1.flow s.1.flow) ≡ true) ⊎ (is_clash es s ≡ true) → (is_clash es s ≡ true → Clashing es s) → Clashing (e ∷ es) s
  by (inl here) next = record {
    with = e;
    held = ap (λ b. cond b (Some e.1) (held_at e.0 es)) (same_itself e.0);
    other = not_true _ (and_parts _ _ here).0;
    flow = (and_parts _ _ here).1;
  }
  by (inr following) next =
      let rest = next following in
      record { with = rest.with; held = held_after e es rest.with.0 rest.with.1 is rest.held; other = rest.other; flow = rest.flow }

pub clash_is : (es : List PlainState) (s : PlainState) → NamesFlows es → clashes_in name_order key_order (λ held. key_of held.flow) es s ≡ is_clash es s
clash_is es s is = ap (λ (r : Option PlainState). option_map_or (λ e. not (eq_by_cmp name_order e.0 s.0)) r false) (of_flow_is es s.1.flow) ∙ by (is_clash es s) refl (state_of s.1.flow es) refl where
  by : (t : Bool) → is_clash es s ≡ t → (r : Option PlainState) → state_of s.1.flow es ≡ r → option_map_or (λ e. not (eq_by_cmp name_order e.0 s.0)) r false ≡ t
  by true found r there =
      let one = clashing es s is.sorted found in
      let is_one : state_of s.1.flow es ≡ Some one.with = ((one_state_a_flow es s.1.flow is).found one.with).1 (record { held = one.held; flow = one.flow }) in
      ap (λ (o : Option PlainState). option_map_or (λ e. not (eq_by_cmp name_order e.0 s.0)) o false) (sym there ∙ is_one) ∙ ap not one.other
  by false none None there = refl
  by false none (Some t) there = same (eq_by_cmp name_order t.0 s.0) refl where
    same : (u : Bool) → eq_by_cmp name_order t.0 s.0 ≡ u → not u ≡ false
    same true e = refl
    same false e =
        let has = ((one_state_a_flow es s.1.flow is).found t).0 there in
        absurd (others_differ es s t.0 t.1 none has.held e has.flow)

-- an insert that has effect doesn't clash
pub is_free : (es : List PlainState) (s : PlainState) → NamesFlows es → has_effect (insertion es s) ≡ true → clashes_in name_order key_order (λ held. key_of held.flow) es s ≡ false
is_free es s is effect = clash_is es s is ∙ no_clash es s effect

-- ---- a creator's states are taken out one after the other

-- of a creator's states those still to come are left, and all others
pub record Clearing (es : List PlainState) (creator : ℕ) (rest left : List PlainState) : Type 0 where
  pub rest_sorted : T (is_sorted name_order rest)
  pub left_sorted : T (is_sorted name_order left)
  pub reads : (q : StateName) → held_at q left ≡ cond (q.creator == creator) (held_at q rest) (held_at q es)

pub clearing_one : (es : List PlainState) (creator : ℕ) (e : PlainState) (rest left : List PlainState) → Clearing es creator (e ∷ rest) left → (e.0.creator == creator) ≡ true → Clearing es creator rest (without_state left e.0)
clearing_one es creator e rest left is his = record {
  rest_sorted = second_of _ _ is.rest_sorted;
  left_sorted = stays_sorted Held name_total left e.0 None is.left_sorted;
  reads = λ q. reads_delete left e.0 q ∙ ap (λ (o : Option Held). cond (eq_by_cmp name_order q e.0) None o) (is.reads q) ∙ by q (eq_by_cmp name_order q e.0) refl;
} where
  by : (q : StateName) (b : Bool) → eq_by_cmp name_order q e.0 ≡ b → cond b None (cond (q.creator == creator) (cond b (Some e.1) (held_at q rest)) (held_at q es)) ≡ cond (q.creator == creator) (held_at q rest) (held_at q es)
  by q true same =
      let of_him : (q.creator == creator) ≡ true = ap (λ (n : StateName). n.creator == creator) (one_name q e.0 same) ∙ his in
      let gone : held_at q rest ≡ None = ap (λ (n : StateName). held_at n rest) (one_name q e.0 same) ∙ none_after e.0 rest (first_of _ _ is.rest_sorted) in
      sym (ap (λ (b : Bool). cond b (held_at q rest) (held_at q es)) of_him ∙ gone)
  by q false other = refl

pub cleared : (es : List PlainState) (creator : ℕ) (left : List PlainState) → T (is_sorted name_order es) → Clearing es creator [] left → left ≡ without_creator es creator
cleared es creator left sorted is =
    same_entries _ name_total name_alike left (without_creator es creator) is.left_sorted (is_sorted-where_key name_order (λ (n : StateName). not (n.creator == creator)) es sorted)
    (λ q. is.reads q ∙ sym (reads_clear es creator q))

-- What steps leave is in order, with no name and no flow twice; and the state that is found is the only one of its flow.
use Rattle.std.proofs.{Common.{◌≡◌, ℕ, zero, suc, ◌≤◌, Bool, true, false, not, ◌&&◌, cond, T, List, [], ◌∷◌, length, take, Option, Some, None, is_some, refl, sym, ap, ◌∙◌, subst, true≢false, arith}, lemmas.Bool.{or_parts, Decides.nat_tests}}
use Rattle.std.specs.{Prelude.◌==◌, FinMap.is_sorted, FinMap.Entries.{is_sorted-where_key, below_all}, Option.unwrap_or, Ordering.{eq_by_cmp}}
use Rattle.pf_map.specs.Maps.{with_value}
use Rattle.pf_map.proofs.Maps.{stays_sorted}
use Rattle.pf_state.specs.{Orders.name_total, declared.{limits.TheConstants.STATE_LIMIT, state.Held.Held, state.StateName.StateName, step.Insertion.TheVariants.Stale, step.Insertion.TheVariants.Clash, step.Insertion.TheVariants.Replaced, step.Insertion.TheVariants.New, step.StateStep.StateStep, step.StateStep.TheVariants.Insert, step.StateStep.TheVariants.Delete, step.StateStep.TheVariants.Clear}, Flows.{PlainFlow, same_flow}, States.{PlainState, name_order, held_at, state_of, NamesFlows}, Steps.{is_stale, is_clash, insertion, has_effect, without_creator, without_state, stepped, after, is_over, passes_limit}, Laws.States.{IsStateOf, OneStateAFlow, StaysStates, RefusedByAnyStep}}
use Rattle.pf_state.proofs.{Names.{one_name, same_itself}, Flows.{same_back, same_third}, Leaves.{reads_put, reads_delete, reads_clear}}
use Rattle.pf_map.proofs.Tests.{first_of, second_of, untied_of}

pub no : {X : Type 0} → true ≡ false → X
no e = absurd (true≢false e)

-- None isn't Some
pub nothing_is : {X Y : Type 0} (x : X) → None ≡ Some x → Y
nothing_is x e = no (sym (ap is_some e))

-- ---- an insert that has effect doesn't clash

clash_none : (stale clash known : Bool) → has_effect (cond stale Stale (cond clash Clash (cond known Replaced New))) ≡ true → clash ≡ false
clash_none true clash known e = no (sym e)
clash_none false true known e = no (sym e)
clash_none false false known e = refl

pub no_clash : (es : List PlainState) (s : PlainState) → has_effect (insertion es s) ≡ true → is_clash es s ≡ false
no_clash es s e = clash_none (is_stale es s) (is_clash es s) (is_some (held_at s.0 es)) e

-- if none clashes, a state of another name has another flow
pub others_differ : (es : List PlainState) (s : PlainState) (b : StateName) (y : Held) → is_clash es s ≡ false → held_at b es ≡ Some y → eq_by_cmp name_order b s.0 ≡ false → same_flow y.flow s.1.flow ≡ true → ⊥
others_differ [] s b y none there other same = nothing_is y there
others_differ (e ∷ es) s b y none there other same = by (eq_by_cmp name_order b e.0) refl there none (λ clear found. others_differ es s b y clear found other same) where
  by : (t : Bool) → eq_by_cmp name_order b e.0 ≡ t → cond t (Some e.1) (held_at b es) ≡ Some y → is_clash (e ∷ es) s ≡ false → (is_clash es s ≡ false → held_at b es ≡ Some y → ⊥) → ⊥
  by true here found clear rest =
      let name = one_name b e.0 here in
      let held : e.1 ≡ y = ap (λ o. unwrap_or o e.1) found in
      let differs : eq_by_cmp name_order e.0 s.0 ≡ false = subst (λ n. eq_by_cmp name_order n s.0 ≡ false) name other in
      let shares : same_flow e.1.flow s.1.flow ≡ true = subst (λ (h : Held). same_flow h.flow s.1.flow ≡ true) (sym held) same in
      let clashes : is_clash (e ∷ es) s ≡ true = rw (differs, shares) refl in
      no (sym clashes ∙ clear)
  by false here found clear rest = rest (or_parts (not (eq_by_cmp name_order e.0 s.0) && same_flow e.1.flow s.1.flow) (is_clash es s) clear).1 found

-- ---- what steps leave

pub names_put : (es : List PlainState) (s : PlainState) → NamesFlows es → is_clash es s ≡ false → NamesFlows (with_value name_order es s.0 (Some s.1))
names_put es s is none = record {
  sorted = stays_sorted Held name_total es s.0 (Some s.1) is.sorted;
  one_flow = λ a b x y at_a at_b same. by a b x y (eq_by_cmp name_order a s.0) refl (eq_by_cmp name_order b s.0) refl (sym (reads_put es s a) ∙ at_a) (sym (reads_put es s b) ∙ at_b) same;
} where
  by : (a b : StateName) (x y : Held) (p : Bool) → eq_by_cmp name_order a s.0 ≡ p → (q : Bool) → eq_by_cmp name_order b s.0 ≡ q → cond p (Some s.1) (held_at a es) ≡ Some x → cond q (Some s.1) (held_at b es) ≡ Some y → same_flow x.flow y.flow ≡ true → a ≡ b
  by a b x y true is_a true is_b at_a at_b same = one_name a s.0 is_a ∙ sym (one_name b s.0 is_b)
  by a b x y true is_a false is_b at_a at_b same =
      let new : s.1 ≡ x = ap (λ o. unwrap_or o x) at_a in
      absurd (others_differ es s b y none at_b is_b (same_back s.1.flow y.flow (subst (λ (h : Held). same_flow h.flow y.flow ≡ true) (sym new) same)))
  by a b x y false is_a true is_b at_a at_b same =
      let new : s.1 ≡ y = ap (λ o. unwrap_or o y) at_b in
      absurd (others_differ es s a x none at_a is_a (subst (λ (h : Held). same_flow x.flow h.flow ≡ true) (sym new) same))
  by a b x y false is_a false is_b at_a at_b same = is.one_flow a b x y at_a at_b same

-- what is left is what was there
pub left_of : {X : Type 0} (t : Bool) (o : Option X) (x : X) → cond t None o ≡ Some x → o ≡ Some x
left_of true o x e = nothing_is x e
left_of false o x e = e

pub names_delete : (es : List PlainState) (n : StateName) → NamesFlows es → NamesFlows (without_state es n)
names_delete es n is = record {
  sorted = stays_sorted Held name_total es n None is.sorted;
  one_flow = λ a b x y at_a at_b same. is.one_flow a b x y (left_of (eq_by_cmp name_order a n) (held_at a es) x (sym (reads_delete es n a) ∙ at_a)) (left_of (eq_by_cmp name_order b n) (held_at b es) y (sym (reads_delete es n b) ∙ at_b)) same;
}

pub names_clear : (es : List PlainState) (creator : ℕ) → NamesFlows es → NamesFlows (without_creator es creator)
names_clear es creator is = record {
  sorted = is_sorted-where_key name_order (λ (n : StateName). not (n.creator == creator)) es is.sorted;
  one_flow = λ a b x y at_a at_b same. is.one_flow a b x y (left_of (a.creator == creator) (held_at a es) x (sym (reads_clear es creator a) ∙ at_a)) (left_of (b.creator == creator) (held_at b es) y (sym (reads_clear es creator b) ∙ at_b)) same;
}

pub names_step : (es : List PlainState) (x : StateStep) → NamesFlows es → NamesFlows (stepped es x)
unfolding stepped
names_step es (Insert s) is = by (has_effect (insertion es s)) refl where
  by : (t : Bool) → has_effect (insertion es s) ≡ t → NamesFlows (cond t (with_value name_order es s.0 (Some s.1)) es)
  by true e = names_put es s is (no_clash es s e)
  by false e = is
names_step es (Delete n) is = names_delete es n is
names_step es (Clear creator) is = names_clear es creator is

pub names_after : (es : List PlainState) (steps : List StateStep) → NamesFlows es → NamesFlows (after es steps)
names_after es [] is = is
names_after es (x ∷ xs) is = names_after (stepped es x) xs (names_step es x is)

-- ---- the limit

pub not_over : (es : List PlainState) → is_over es ≡ false → length es ≤ STATE_LIMIT
not_over es e = grind (arith, nat_tests)

pub within_not_over : (es : List PlainState) → length es ≤ STATE_LIMIT → is_over es ≡ false
within_not_over es e = grind (arith, nat_tests)

fronts_within : (es : List PlainState) (steps : List StateStep) → length es ≤ STATE_LIMIT → passes_limit es steps ≡ false → (k : ℕ) → length (after es (take k steps)) ≤ STATE_LIMIT
unfolding passes_limit
fronts_within es steps few e zero = few
fronts_within es [] few e (suc k) = few
fronts_within es (x ∷ xs) few e (suc k) = fronts_within (stepped es x) xs (not_over (stepped es x) (or_parts _ _ e).0) (or_parts (is_over (stepped es x)) _ e).1 k

within_fronts : (es : List PlainState) (steps : List StateStep) → ((k : ℕ) → length (after es (take k steps)) ≤ STATE_LIMIT) → passes_limit es steps ≡ false
unfolding passes_limit
within_fronts es [] few = refl
within_fronts es (x ∷ xs) few = rw (within_not_over (stepped es x) (few 1)) (within_fronts (stepped es x) xs (λ k. few (suc k)))

pub refused_by_any_step : RefusedByAnyStep
refused_by_any_step es steps is = (fronts_within es steps is.few, within_fronts es steps)

few_after : (es : List PlainState) (steps : List StateStep) → length es ≤ STATE_LIMIT → passes_limit es steps ≡ false → length (after es steps) ≤ STATE_LIMIT
unfolding passes_limit
few_after es [] few e = few
few_after es (x ∷ xs) few e = few_after (stepped es x) xs (not_over (stepped es x) (or_parts _ _ e).0) (or_parts (is_over (stepped es x)) _ e).1

pub stays_states : StaysStates
stays_states es steps = record {
  names = names_after es steps;
  table = λ is e. record { names = names_after es steps is.names; few = few_after es steps is.few e };
}

-- ---- the state of a flow

pub none_after : (n : StateName) (es : List PlainState) → T (below_all name_order n es) → held_at n es ≡ None
none_after n [] h = refl
none_after n (e ∷ es) h = ap (λ b. cond b (Some e.1) (held_at n es)) (untied_of (name_order n e.0) (first_of _ _ h)) ∙ none_after n es (second_of _ _ h)

-- what is found is held, and has the flow
found_is : (es : List PlainState) (f : PlainFlow) (s : PlainState) → T (is_sorted name_order es) → state_of f es ≡ Some s → IsStateOf es f s
found_is [] f s is found = nothing_is s found
found_is (e ∷ es) f s is found = by (same_flow e.1.flow f) refl found (found_is es f s (second_of _ _ is)) where
  by : (t : Bool) → same_flow e.1.flow f ≡ t → cond t (Some e) (state_of f es) ≡ Some s → (state_of f es ≡ Some s → IsStateOf es f s) → IsStateOf (e ∷ es) f s
  by true has here next =
      let one : e ≡ s = ap (λ o. unwrap_or o e) here in
      subst (IsStateOf (e ∷ es) f) one (record { held = ap (λ b. cond b (Some e.1) (held_at e.0 es)) (same_itself e.0); flow = has })
  by false has here next =
      let rest = next here in
      record { held = following (eq_by_cmp name_order s.0 e.0) refl rest.held; flow = rest.flow } where
        following : (t : Bool) → eq_by_cmp name_order s.0 e.0 ≡ t → held_at s.0 es ≡ Some s.1 → cond t (Some e.1) (held_at s.0 es) ≡ Some s.1
        following true same held = nothing_is s.1 (sym (none_after e.0 es (first_of _ _ is)) ∙ subst (λ n. held_at n es ≡ Some s.1) (one_name s.0 e.0 same) held)
        following false same held = held

-- if a state has the flow, one is found
is_found : (es : List PlainState) (f : PlainFlow) (n : StateName) (x : Held) → held_at n es ≡ Some x → same_flow x.flow f ≡ true → is_some (state_of f es) ≡ true
is_found [] f n x there has = nothing_is x there
is_found (e ∷ es) f n x there has = by (same_flow e.1.flow f) refl (eq_by_cmp name_order n e.0) there (λ held. is_found es f n x held has) where
  by : (t : Bool) → same_flow e.1.flow f ≡ t → (u : Bool) → cond u (Some e.1) (held_at n es) ≡ Some x → (held_at n es ≡ Some x → is_some (state_of f es) ≡ true) → is_some (cond t (Some e) (state_of f es)) ≡ true
  by true flow u held rest = refl
  by false flow true held rest =
      let one : e.1 ≡ x = ap (λ o. unwrap_or o x) held in
      no (sym (subst (λ (h : Held). same_flow h.flow f ≡ true) (sym one) has) ∙ flow)
  by false flow false held rest = rest held

one_state : (es : List PlainState) (f : PlainFlow) (s t : PlainState) → NamesFlows es → IsStateOf es f s → IsStateOf es f t → s ≡ t
one_state es f s t is one other =
    let name : s.0 ≡ t.0 = is.one_flow s.0 t.0 s.1 t.1 one.held other.held (same_third s.1.flow f t.1.flow one.flow (same_back t.1.flow f other.flow)) in
    let held : s.1 ≡ t.1 = ap (λ o. unwrap_or o s.1) (sym one.held ∙ ap (λ n. held_at n es) name ∙ other.held) in
    λ i. (name i, held i)

pub one_state_a_flow : OneStateAFlow
one_state_a_flow es f is = record {
  found = λ s. (found_is es f s is.sorted, λ has. by s has (state_of f es) refl (is_found es f s.0 s.1 has.held has.flow));
  one = λ s t. one_state es f s t is;
} where
  by : (s : PlainState) → IsStateOf es f s → (o : Option PlainState) → state_of f es ≡ o → is_some o ≡ true → state_of f es ≡ Some s
  by s has None e some = no (sym some)
  by s has (Some t) e some = e ∙ ap (λ u. Some u) (one_state es f t s is (found_is es f t is.sorted e) has)

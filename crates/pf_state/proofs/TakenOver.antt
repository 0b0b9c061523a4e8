-- Inserting a table's states in order, starting without states, makes that table.
use Rattle.std.proofs.{Common.{◌≡◌, ◌&&◌, ◌||◌, not, ℕ, Bool, true, false, T, cond, List, [], ◌∷◌, ◌++◌, ◌≤◌, length, map, Some, None, refl, sym, subst, ap, ◌∙◌, append_assoc, length-append, true≢false, arith}, lemmas.List.{append-nil, length-map}}
use Rattle.std.specs.{declared.{cmp.Ordering.Ordering, cmp.Ordering.TheVariants.Less, cmp.Ordering.TheVariants.Greater}, FinMap.{is_sorted, put}, FinMap.Entries.below_all, Ordering.{is_eq, is_lt, ordering_reverse}}
use Rattle.pf_map.specs.Maps.{without, with_value}
use Rattle.pf_state.specs.{Orders.name_total, Peer.Written.Each, declared.{limits.TheConstants.STATE_LIMIT, step.Insertion.Insertion, step.Insertion.TheVariants.New, step.StateStep.TheVariants.Insert}, Flows.same_flow, States.{PlainState, name_order, held_at, NamesFlows}, Steps.{is_clash, insertion, has_effect, stepped, after, is_over, passes_limit}, Laws.Failover.{state_there, TakesOver}}
use Rattle.pf_state.proofs.{Names.{same_itself, same_name}, Tables.within_not_over, ExportsTaken.tells_the_states}
use Rattle.pf_map.proofs.Tests.{less_of, first_of, second_of}

-- p comes before s, and has another flow
pub record Before (s p : PlainState) : Type 0 where
  pub less : name_order p.0 s.0 ≡ Less
  pub other : same_flow p.1.flow s.1.flow ≡ false

abbrev pub Apart : List PlainState → Type 0
Apart [] = Unit {0}
Apart (e ∷ es) = Each (λ s. Before s e) es × Apart es

-- ---- a state after all others is inserted at the end

pub comes_after : (s p : PlainState) → name_order p.0 s.0 ≡ Less → name_order s.0 p.0 ≡ Greater
comes_after s p less = name_total.antisymm s.0 p.0 ∙ ap ordering_reverse less

none_held : (ps : List PlainState) (s : PlainState) → Each (Before s) ps → held_at s.0 ps ≡ None
none_held [] s each = refl
none_held (p ∷ ps) s each = ap (λ (r : Ordering). cond (is_eq r) (Some p.1) (held_at s.0 ps)) (comes_after s p each.0.less) ∙ none_held ps s each.1

none_clashes : (ps : List PlainState) (s : PlainState) → Each (Before s) ps → is_clash ps s ≡ false
none_clashes [] s each = refl
none_clashes (p ∷ ps) s each = ap (λ (r : Ordering). (not (is_eq r) && same_flow p.1.flow s.1.flow) || is_clash ps s) each.0.less
    ∙ ap (λ (b : Bool). b || is_clash ps s) each.0.other ∙ none_clashes ps s each.1

pub all_kept : (ps : List PlainState) (s : PlainState) → Each (Before s) ps → without name_order ps s.0 ≡ ps
all_kept [] s each = refl
all_kept (p ∷ ps) s each = ap (λ (r : Ordering). cond (not (is_eq r)) (p ∷ without name_order ps s.0) (without name_order ps s.0)) (comes_after s p each.0.less)
    ∙ ap (λ (l : List PlainState). p ∷ l) (all_kept ps s each.1)

pub put_last : (ps : List PlainState) (s : PlainState) → Each (Before s) ps → put name_order s.0 s.1 ps ≡ ps ++ s ∷ []
put_last [] s each = refl
put_last (p ∷ ps) s each = rw (comes_after s p each.0.less) (ap (λ (l : List PlainState). p ∷ l) (put_last ps s each.1))

is_new : (ps : List PlainState) (s : PlainState) → Each (Before s) ps → insertion ps s ≡ New
is_new ps s each = rw (none_held ps s each, none_clashes ps s each) refl

step_last : (ps : List PlainState) (s : PlainState) → Each (Before s) ps → stepped ps (Insert s) ≡ ps ++ s ∷ []
unfolding stepped
step_last ps s each = ap (λ (j : Insertion). cond (has_effect j) (with_value name_order ps s.0 (Some s.1)) ps) (is_new ps s each)
    ∙ ap (put name_order s.0 s.1) (all_kept ps s each) ∙ put_last ps s each

pub within : (P : PlainState → Type 0) (ps : List PlainState) (s : PlainState) (fs : List PlainState) → Each P (ps ++ s ∷ fs) → P s
within P [] s fs each = each.0
within P (p ∷ ps) s fs each = within P ps s fs each.1

all_before : (ps : List PlainState) (s : PlainState) (fs : List PlainState) → Apart (ps ++ s ∷ fs) → Each (Before s) ps
all_before [] s fs apart = tt
all_before (p ∷ ps) s fs apart = (within (λ t. Before t p) ps s fs apart.0, all_before ps s fs apart.1)

built : (f : PlainState → PlainState) (ps es : List PlainState) → Apart (ps ++ map f es) → after ps (map (λ s. Insert (f s)) es) ≡ ps ++ map f es
built f ps [] apart = sym (append-nil ps)
built f ps (s ∷ es) apart =
    let moved = append_assoc ps (f s ∷ []) (map f es) in
    ap (λ (l : List PlainState). after l (map (λ t. Insert (f t)) es)) (step_last ps (f s) (all_before ps (f s) (map f es) apart))
    ∙ built f (ps ++ f s ∷ []) es (subst Apart (sym moved) apart) ∙ moved

fits : (f : PlainState → PlainState) (ps es : List PlainState) → Apart (ps ++ map f es) → length (ps ++ map f es) ≤ STATE_LIMIT → passes_limit ps (map (λ s. Insert (f s)) es) ≡ false
unfolding passes_limit
fits f ps [] apart few = refl
fits f ps (s ∷ es) apart few =
    let moved = append_assoc ps (f s ∷ []) (map f es) in
    let front_few : length (ps ++ f s ∷ []) ≤ STATE_LIMIT = omega (arith, few, length-append ps (f s ∷ []), length-append ps (f s ∷ map f es)) in
    ap (λ (l : List PlainState). is_over l || passes_limit l (map (λ t. Insert (f t)) es)) (step_last ps (f s) (all_before ps (f s) (map f es) apart))
    ∙ ap (λ (b : Bool). b || passes_limit (ps ++ f s ∷ []) (map (λ t. Insert (f t)) es)) (within_not_over (ps ++ f s ∷ []) front_few)
    ∙ fits f (ps ++ f s ∷ []) es (subst Apart (sym moved) apart) (subst (λ (l : List PlainState). length l ≤ STATE_LIMIT) (sym moved) few)

-- ---- a table's states are pairwise apart

held_later : (e : PlainState) (es fs : List PlainState) → T (below_all name_order e.0 fs) → Each (λ s. held_at s.0 es ≡ Some s.1) fs → Each (λ s. held_at s.0 (e ∷ es) ≡ Some s.1) fs
held_later e es [] low each = tt
held_later e es (f ∷ fs) low each = (
  ap (λ (r : Ordering). cond (is_eq r) (Some e.1) (held_at f.0 es)) (comes_after f e (less_of _ (first_of _ _ low))) ∙ each.0,
  held_later e es fs (second_of (is_lt (name_order e.0 f.0)) _ low) each.1,
)

pub all_held : (es : List PlainState) → T (is_sorted name_order es) → Each (λ s. held_at s.0 es ≡ Some s.1) es
all_held [] sorted = tt
all_held (e ∷ es) sorted = (
  ap (λ (b : Bool). cond b (Some e.1) (held_at e.0 es)) (same_itself e.0),
  held_later e es es (first_of _ _ sorted) (all_held es (second_of (below_all name_order e.0 es) _ sorted)),
)

other_flow : (all : List PlainState) → NamesFlows all → (e s : PlainState) → name_order e.0 s.0 ≡ Less → held_at e.0 all ≡ Some e.1 → held_at s.0 all ≡ Some s.1 → same_flow e.1.flow s.1.flow ≡ false
other_flow all is e s less e_held s_held = by (same_flow e.1.flow s.1.flow) refl where
  by : (t : Bool) → same_flow e.1.flow s.1.flow ≡ t → t ≡ false
  by true same = absurd (true≢false (sym (same_name e.0 s.0 (is.one_flow e.0 s.0 e.1 s.1 e_held s_held same)) ∙ ap is_eq less))
  by false other = refl

before_all : (all : List PlainState) → NamesFlows all → (e : PlainState) (es : List PlainState) → T (below_all name_order e.0 es) → held_at e.0 all ≡ Some e.1 → Each (λ s. held_at s.0 all ≡ Some s.1) es → Each (λ s. Before s e) es
before_all all is e [] low e_held each = tt
before_all all is e (s ∷ es) low e_held each =
    let less : name_order e.0 s.0 ≡ Less = less_of _ (first_of _ _ low) in
    (record { less = less; other = other_flow all is e s less e_held each.0 }, before_all all is e es (second_of (is_lt (name_order e.0 s.0)) _ low) e_held each.1)

pub apart_of : (all : List PlainState) → NamesFlows all → (es : List PlainState) → T (is_sorted name_order es) → Each (λ s. held_at s.0 all ≡ Some s.1) es → Apart es
apart_of all is [] sorted each = tt
apart_of all is (e ∷ es) sorted each = (before_all all is e es (first_of _ _ sorted) each.0 each.1, apart_of all is es (second_of (below_all name_order e.0 es) _ sorted) each.1)

-- ---- and so they do at a peer

module _ (ours theirs : List ℕ) (count : ℕ) where
  before_there : (e : PlainState) (es : List PlainState) → Each (λ s. Before s e) es → Each (λ s. Before s (state_there ours theirs count e)) (map (state_there ours theirs count) es)
  before_there e [] each = tt
  before_there e (s ∷ es) each = (record { less = each.0.less; other = each.0.other }, before_there e es each.1)

  apart_there : (es : List PlainState) → Apart es → Apart (map (state_there ours theirs count) es)
  apart_there [] apart = tt
  apart_there (e ∷ es) apart = (before_there e es apart.0, apart_there es apart.1)

pub takes_over : TakesOver
takes_over ours theirs count es is few =
    let there = state_there ours theirs count in
    let reported = tells_the_states ours theirs count es few in
    let apart = apart_there ours theirs count es (apart_of es is.names es is.names.sorted (all_held es is.names.sorted)) in
    let short : length (map there es) ≤ STATE_LIMIT = let few = is.few in omega (arith, few, length-map es there) in
    record {
      left = ap (after []) reported ∙ built there [] es apart;
      fits = ap (passes_limit []) reported ∙ fits there [] es apart short;
    }

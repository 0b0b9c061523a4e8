-- How the number of states changes, and what is counted.
use Rattle.std.proofs.{Common.{◌≡◌, ℕ, suc, ◌+◌, ◌-◌, Bool, true, false, not, cond, List, [], ◌∷◌, length, Option, Some, None, is_some, refl, ap, ◌∙◌, arith}, lemmas.Bool.Decides.nat_tests, lemmas.List.Sums.sum_by-cons}
use Rattle.std.specs.{Prelude.{◌==◌, nat_lt}, FinMap.Entries.{length-put, length_without}, List.count_by}
use Rattle.pf_map.specs.Maps.{with_value}
use Rattle.pf_map.proofs.Maps.{stays_sorted}
use Rattle.pf_state.specs.{Orders.name_total, declared.{counts.Counts.Counts, state.Held.Held, state.StateName.StateName, step.Insertion.Insertion, step.Insertion.TheVariants.Stale, step.Insertion.TheVariants.Clash, step.Insertion.TheVariants.Replaced, step.Insertion.TheVariants.New, step.StateStep.StateStep, step.StateStep.TheVariants.Insert, step.StateStep.TheVariants.Delete, step.StateStep.TheVariants.Clear}, States.{PlainState, name_order, held_at, NamesFlows, IsStates}, Steps.{is_stale, is_clash, insertion, has_effect, without_creator, without_state, stepped, after, one_insertion, only_deleted, named_count, creator_count, counted, counts}, Laws.States.{is_insert, CountsAddUp}}
use Rattle.pf_state.proofs.{Names.same_itself, Leaves.reads_delete, Tables.{names_step, names_delete, names_clear}}

counted_more : {X : Type 0} (p : X → Bool) (x : X) (xs : List X) → count_by p (x ∷ xs) ≡ cond (p x) 1 0 + count_by p xs
counted_more p x xs = sum_by-cons (λ y. cond (p y) 1 0) x xs

-- a delete takes out as many as have the name
pub shrinks_delete : (es : List PlainState) (n : StateName) → NamesFlows es → length (without_state es n) + named_count es n ≡ length es
shrinks_delete es n is = let e = length_without name_order name_total n es is.sorted in omega (arith, e)

-- a clear takes out as many as the creator has
pub shrinks_clear : (es : List PlainState) (creator : ℕ) → length (without_creator es creator) + creator_count es creator ≡ length es
shrinks_clear [] creator = refl
shrinks_clear (e ∷ es) creator = by (e.0.creator == creator) (shrinks_clear es creator) (counted_more (λ (s : PlainState). s.0.creator == creator) e es) where
  by : (t : Bool) → length (without_creator es creator) + creator_count es creator ≡ length es → creator_count (e ∷ es) creator ≡ cond t 1 0 + creator_count es creator → length (cond (not t) (e ∷ without_creator es creator) (without_creator es creator)) + creator_count (e ∷ es) creator ≡ suc (length es)
  by true rest more = omega (arith, rest, more)
  by false rest more = omega (arith, rest, more)

-- so this is how many fewer there are
pub counts_deleted : (es : List PlainState) (n : StateName) → NamesFlows es → only_deleted (length es - length (without_state es n)) ≡ counted es (Delete n)
unfolding counted
counts_deleted es n is =
    let taken = shrinks_delete es n is in
    let less : length es - length (without_state es n) ≡ named_count es n = omega (arith, taken) in
    ap only_deleted less

pub cleared_count : (es : List PlainState) (creator : ℕ) → length es - length (without_creator es creator) ≡ creator_count es creator
cleared_count es creator = let taken = shrinks_clear es creator in omega (arith, taken)

-- both
pub shrinks : ((es : List PlainState) (n : StateName) → NamesFlows es → length (without_state es n) + named_count es n ≡ length es)
    × ((es : List PlainState) (creator : ℕ) → length (without_creator es creator) + creator_count es creator ≡ length es)
shrinks = (shrinks_delete, shrinks_clear)

-- putting a state adds one if its name is new
pub grows_put : (es : List PlainState) (s : PlainState) → NamesFlows es → length (with_value name_order es s.0 (Some s.1)) + named_count es s.0 ≡ length es + 1
grows_put es s is =
    let none : held_at s.0 (without_state es s.0) ≡ None = reads_delete es s.0 s.0 ∙ ap (λ b. cond b None (held_at s.0 es)) (same_itself s.0) in
    let put = length-put name_order name_total s.0 s.1 (without_state es s.0) (stays_sorted Held name_total es s.0 None is.sorted) ∙ ap (λ (o : Option Held). cond (is_some o) (length (without_state es s.0)) (length (without_state es s.0) + 1)) none in
    let taken = shrinks_delete es s.0 is in
    omega (arith, put, taken)

insert_adds : (es : List PlainState) (s : PlainState) → NamesFlows es → length (cond (has_effect (insertion es s)) (with_value name_order es s.0 (Some s.1)) es) + (one_insertion (insertion es s)).deleted ≡ length es + (one_insertion (insertion es s)).inserted
insert_adds es s is = by (is_stale es s) (is_clash es s) (is_some (held_at s.0 es)) (grows_put es s is) where
  judged : Bool → Bool → Bool → Insertion
  judged stale clash known = cond stale Stale (cond clash Clash (cond known Replaced New))

  by : (stale clash known : Bool) → length (with_value name_order es s.0 (Some s.1)) + cond known 1 0 ≡ length es + 1 → length (cond (has_effect (judged stale clash known)) (with_value name_order es s.0 (Some s.1)) es) + (one_insertion (judged stale clash known)).deleted ≡ length es + (one_insertion (judged stale clash known)).inserted
  by true clash known grown = refl
  by false true known grown = refl
  by false false true grown = omega (arith, grown)
  by false false false grown = omega (arith, grown)

-- the number of states changes by what a step counts
pub step_adds : (es : List PlainState) (x : StateStep) → NamesFlows es → length (stepped es x) + (counted es x).deleted ≡ length es + (counted es x).inserted
unfolding stepped counted
step_adds es (Insert s) is = insert_adds es s is
step_adds es (Delete n) is = let e = shrinks_delete es n is in omega (arith, e)
step_adds es (Clear creator) is = let e = shrinks_clear es creator in omega (arith, e)

abbrev pub inserts : Counts → ℕ
inserts c = c.inserted + (c.replaced + (c.stale + c.clash))

one_each : (j : Insertion) → inserts (one_insertion j) ≡ 1
one_each Stale = refl
one_each j = refl

pub step_counts : (es : List PlainState) (x : StateStep) → inserts (counted es x) ≡ cond (is_insert x) 1 0
unfolding counted
step_counts es (Insert s) = one_each (insertion es s)
step_counts es (Delete n) = refl
step_counts es (Clear creator) = refl

inserts_add : (es : List PlainState) (steps : List StateStep) → inserts (counts es steps) ≡ count_by is_insert steps
unfolding counts
inserts_add es [] = refl
inserts_add es (x ∷ xs) = let one = step_counts es x in let rest = inserts_add (stepped es x) xs in let more = counted_more is_insert x xs in omega (arith, one, rest, more)

states_add : (es : List PlainState) (steps : List StateStep) → NamesFlows es → length (after es steps) + (counts es steps).deleted ≡ length es + (counts es steps).inserted
unfolding counts
states_add es [] is = refl
states_add es (x ∷ xs) is = let one = step_adds es x is in let rest = states_add (stepped es x) xs (names_step es x is) in omega (arith, one, rest)

pub counts_add_up : CountsAddUp
counts_add_up es steps is = record { inserts = inserts_add es steps; states = states_add es steps is }

-- ---- tables

pub states_deleted : (es : List PlainState) (n : StateName) → IsStates es → IsStates (without_state es n)
states_deleted es n is = record { names = names_delete es n is.names; few = let e = shrinks_delete es n is.names in let few = is.few in omega (arith, e, few) }

pub states_cleared : (es : List PlainState) (creator : ℕ) → IsStates es → IsStates (without_creator es creator)
states_cleared es creator is = record { names = names_clear es creator is.names; few = let e = shrinks_clear es creator in let few = is.few in omega (arith, e, few) }

-- fewer states mean that one was there
pub found_by_length : (es : List PlainState) (n : StateName) → NamesFlows es → nat_lt (length (without_state es n)) (length es) ≡ is_some (held_at n es)
found_by_length es n is = by (is_some (held_at n es)) (shrinks_delete es n is) where
  by : (t : Bool) → length (without_state es n) + cond t 1 0 ≡ length es → nat_lt (length (without_state es n)) (length es) ≡ t
  by true e = grind (arith, nat_tests)
  by false e = grind (arith, nat_tests)

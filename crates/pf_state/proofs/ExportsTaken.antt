-- What a peer makes of an export.
use Rattle.std.proofs.{Common.{◌≡◌, ◌≤◌, ◌&&◌, not, ℕ, Bool, true, false, cond, List, [], ◌∷◌, ◌++◌, map, take, drop, refl, sym, ap, ◌∙◌, arith}, lemmas.Bool.Decides.nat_tests, lemmas.List.{append-nil, map-append, take-append-drop}, lemmas.Slice.Eq.bytes_eq-Decides}
use Rattle.std.specs.{Prelude.{◌==◌, nat_lt}, List.flat_map, Str.bytes_eq}
use Rattle.pf_state.specs.{declared.{binding.TheConstants.ALL_ONES, state.Bound.Bound, state.Bound.TheVariants.Rule, state.Bound.TheVariants.Default, step.StateStep.StateStep, step.StateStep.TheVariants.Insert}, Bindings.{bound, exported}, States.PlainState, Failover.Incoming.{insert_step, steps_of}, Failover.Outgoing.{exported_insert, exported_message, parts}, Laws.Failover.{bound_there, state_there, TellsTheStates}}
use Rattle.pf_state.proofs.Cut.{by_parts}
use Rattle.std.proofs.Math.Bool.{and-false}

-- no main rule has the number that means none
one_of : (number count : ℕ) → count ≤ ALL_ONES → (not (number == ALL_ONES) && true && nat_lt number count) ≡ nat_lt number count
one_of number count few = by (nat_lt number count) refl where
  by : (t : Bool) → nat_lt number count ≡ t → (not (number == ALL_ONES) && true && t) ≡ t
  by true within = let other : (number == ALL_ONES) ≡ false = grind (arith, nat_tests) in rw other refl
  by false past = and-false (not (number == ALL_ONES) && true)

same_bytes : (xs ys : List ℕ) → bytes_eq xs ys ≡ true → xs ≡ ys
same_bytes xs ys e = (bytes_eq-Decides xs ys).0 e

no_rule : (ours theirs : List ℕ) (count : ℕ) → bound ours ALL_ONES ALL_ONES theirs count ≡ Default
no_rule ours theirs count = ap (λ (b : Bool). cond b (Rule ALL_ONES ours) Default) (and-false (bytes_eq ours theirs))

bound_again : (ours theirs : List ℕ) (count : ℕ) → count ≤ ALL_ONES → (b : Bound) → bound ours (exported b ours) ALL_ONES theirs count ≡ bound_there ours theirs count b
bound_again ours theirs count few Default = no_rule ours theirs count
bound_again ours theirs count few (Rule number sum) = by (bytes_eq sum ours) refl where
  by : (t : Bool) → bytes_eq sum ours ≡ t → bound ours (cond t number ALL_ONES) ALL_ONES theirs count ≡ cond (t && (bytes_eq ours theirs && nat_lt number count)) (Rule number sum) Default
  by true same = ap (λ (b : Bool). cond (bytes_eq ours theirs && b) (Rule number ours) Default) (one_of number count few)
      ∙ ap (λ (l : List ℕ). cond (bytes_eq ours theirs && nat_lt number count) (Rule number l) Default) (sym (same_bytes sum ours same))
  by false other = no_rule ours theirs count

step_again : (ours theirs : List ℕ) (count : ℕ) → count ≤ ALL_ONES → (s : PlainState) → insert_step ours theirs count (exported_insert ours s) ≡ Insert (state_there ours theirs count s)
step_again ours theirs count few s =
    ap (λ (b : Bound). Insert (s.0, record { generation = s.1.generation; flow = s.1.flow; bound = b; expiry = 0 })) (bound_again ours theirs count few s.1.bound)

steps_again : (ours theirs : List ℕ) (count : ℕ) → count ≤ ALL_ONES → (es : List PlainState)
    → map (insert_step ours theirs count) (map (exported_insert ours) es) ≡ map (λ s. Insert (state_there ours theirs count s)) es
steps_again ours theirs count few [] = refl
steps_again ours theirs count few (s ∷ es) = rw (step_again ours theirs count few s, steps_again ours theirs count few es) refl

message_again : (ours theirs : List ℕ) (count : ℕ) → count ≤ ALL_ONES → (es : List PlainState)
    → steps_of (exported_message ours es) theirs count ≡ map (λ s. Insert (state_there ours theirs count s)) es
message_again ours theirs count few es = append-nil (map (insert_step ours theirs count) (map (exported_insert ours) es)) ∙ steps_again ours theirs count few es

pub tells_the_states : TellsTheStates
tells_the_states ours theirs count es few =
    let insert : PlainState → StateStep = λ s. Insert (state_there ours theirs count s) in
    by_parts (λ fs ps. flat_map (λ m. steps_of m theirs count) (map (exported_message ours) ps) ≡ map insert fs) refl
    (λ fs some rest.
    ap (λ (l : List StateStep). l ++ flat_map (λ m. steps_of m theirs count) (map (exported_message ours) (parts (drop 31 fs)))) (message_again ours theirs count few (take 31 fs))
    ∙ ap (λ (l : List StateStep). map insert (take 31 fs) ++ l) rest
    ∙ sym (map-append insert (take 31 fs) (drop 31 fs))
    ∙ ap (map insert) (take-append-drop 31 fs))
    es

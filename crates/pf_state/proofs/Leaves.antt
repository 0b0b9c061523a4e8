-- What states hold after a step.
use Rattle.std.proofs.Common.{◌≡◌, ℕ, Bool, true, false, not, ◌&&◌, cond, List, [], ◌∷◌, Option, Some, None, refl, sym, ap, ◌∙◌}
use Rattle.std.specs.{Prelude.◌==◌, FinMap.Entries.find-where_key, Ordering.eq_by_cmp}
use Rattle.pf_map.specs.Maps.{with_value}
use Rattle.pf_map.proofs.Maps.{replaces_the_key}
use Rattle.pf_state.specs.{Orders.{name_total, name_alike}, declared.{state.Held.Held, state.StateName.StateName, step.StateStep.StateStep, step.StateStep.TheVariants.Insert, step.StateStep.TheVariants.Delete, step.StateStep.TheVariants.Clear}, States.{PlainState, name_order, held_at}, Steps.{insertion, has_effect, without_creator, without_state, stepped}, Laws.States.{KeepsWhatIsThere, StepsRead, left_by, left_after_all, LastStepStands}}

unless : {X : Type 0} (b : Bool) (x : Option X) → cond (not b) x None ≡ cond b None x
unless true x = refl
unless false x = refl

pub reads_put : (es : List PlainState) (s : PlainState) (q : StateName) → held_at q (with_value name_order es s.0 (Some s.1)) ≡ cond (eq_by_cmp name_order q s.0) (Some s.1) (held_at q es)
reads_put es s q = replaces_the_key Held name_total es s.0 (Some s.1) q

pub reads_delete : (es : List PlainState) (n q : StateName) → held_at q (without_state es n) ≡ cond (eq_by_cmp name_order q n) None (held_at q es)
reads_delete es n q = replaces_the_key Held name_total es n None q

pub reads_clear : (es : List PlainState) (creator : ℕ) (q : StateName) → held_at q (without_creator es creator) ≡ cond (q.creator == creator) None (held_at q es)
reads_clear es creator q =
    find-where_key name_order (λ (n : StateName). not (n.creator == creator)) q (λ x tied. ap (λ (n : StateName). not (n.creator == creator)) (sym (name_alike q x tied))) es
    ∙ unless (q.creator == creator) (held_at q es)

reads_insert : (es : List PlainState) (s : PlainState) (q : StateName) (b : Bool) → held_at q (cond b (with_value name_order es s.0 (Some s.1)) es) ≡ cond (b && eq_by_cmp name_order q s.0) (Some s.1) (held_at q es)
reads_insert es s q true = reads_put es s q
reads_insert es s q false = refl

pub reads_step : (es : List PlainState) (x : StateStep) (q : StateName) → held_at q (stepped es x) ≡ left_by es x q (held_at q es)
unfolding stepped
reads_step es (Insert s) q = reads_insert es s q (has_effect (insertion es s))
reads_step es (Delete n) q = reads_delete es n q
reads_step es (Clear creator) q = reads_clear es creator q

pub steps_read : (es : List PlainState) (q : StateName) → StepsRead es q
steps_read es q = record {
  insert = λ s. reads_step es (Insert s) q;
  delete = λ n. reads_step es (Delete n) q;
  clear = λ creator. reads_step es (Clear creator) q;
}

pub keeps_what_is_there : KeepsWhatIsThere
unfolding stepped
keeps_what_is_there es s e = ap (λ b. cond b (with_value name_order es s.0 (Some s.1)) es) e

pub last_step_stands : LastStepStands
last_step_stands es [] q = refl
last_step_stands es (x ∷ xs) q = last_step_stands (stepped es x) xs q ∙ ap (left_after_all (stepped es x) xs q) (reads_step es x q)

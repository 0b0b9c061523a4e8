-- A batch of steps, part of which has been taken.
use Rattle.std.proofs.{Common.{◌≡◌, ℕ, suc, ◌+◌, ◌<◌, ◌≤◌, ◌^◌, Bool, true, false, ◌||◌, cond, List, [], ◌∷◌, length, drop, get_or, refl, sym, ap, ◌∙◌, subst, arith}, Math.Seq.drop-cons, lemmas.List.drop_all}
use Rattle.pf_state.specs.{declared.{counts.Counts.Counts, limits.TheConstants.STATE_LIMIT, step.StateStep.StateStep}, States.{PlainState, NamesFlows, IsStates}, Steps.{stepped, after, no_counts, both, IsCounted, counted, counts, is_over, passes_limit}, Laws.States.is_insert}
use Rattle.pf_state.proofs.{Tables.{names_step, not_over, within_not_over}, Counting.{inserts, step_adds, step_counts}}

-- After this many steps these are the states, and the counts; and what is still to come is as for the whole batch.
pub record Acting (es : List PlainState) (steps : List StateStep) (index : ℕ) (now : List PlainState) (c : Counts) : Type 0 where
  pub names : NamesFlows now
  pub few : length now ≤ STATE_LIMIT
  pub left : after now (drop index steps) ≡ after es steps
  pub sum : both c (counts now (drop index steps)) ≡ counts es steps
  pub limit : passes_limit now (drop index steps) ≡ passes_limit es steps
  pub inserted : inserts c ≤ index
  pub deleted : length now + c.deleted ≤ STATE_LIMIT + index

plus_none : (n : ℕ) → n + 0 ≡ n
plus_none n = omega arith

plus_third : (a b c : ℕ) → (a + b) + c ≡ a + (b + c)
plus_third a b c = omega arith

and_none : (c : Counts) → both c no_counts ≡ c
and_none c = λ i. record { inserted = plus_none c.inserted i; replaced = plus_none c.replaced i; stale = plus_none c.stale i; clash = plus_none c.clash i; deleted = plus_none c.deleted i }

both_third : (a b c : Counts) → both (both a b) c ≡ both a (both b c)
both_third a b c = λ i. record {
  inserted = plus_third a.inserted b.inserted c.inserted i;
  replaced = plus_third a.replaced b.replaced c.replaced i;
  stale = plus_third a.stale b.stale c.stale i;
  clash = plus_third a.clash b.clash c.clash i;
  deleted = plus_third a.deleted b.deleted c.deleted i;
}

one_at_most : (b : Bool) → cond b 1 0 ≤ 1
one_at_most true = omega arith
one_at_most false = omega arith

-- what one more step adds fits
pub counted_fits : (es : List PlainState) (steps : List StateStep) (index : ℕ) (now : List PlainState) (c : Counts) (x : StateStep) → Acting es steps index now c → index + 65537 < 2 ^ 64 → IsCounted (both c (counted now x))
counted_fits es steps index now c x is short =
    let one = step_counts now x in
    let most = one_at_most (is_insert x) in
    let moved = step_adds now x is.names in
    let inserted = is.inserted in
    let deleted = is.deleted in
    record {
      inserted = omega (arith, one, most, inserted, short);
      replaced = omega (arith, one, most, inserted, short);
      stale = omega (arith, one, most, inserted, short);
      clash = omega (arith, one, most, inserted, short);
      deleted = omega (arith, one, most, moved, deleted, short);
    }

pub ahead : (steps : List StateStep) (index : ℕ) (x : StateStep) → index < length steps → x ≡ get_or steps index x → drop index steps ≡ x ∷ drop (suc index) steps
ahead steps index x within here = drop-cons steps index x within ∙ ap (λ y. y ∷ drop (suc index) steps) (sym here)

counts_ahead : (now : List PlainState) (x : StateStep) (more : List StateStep) → counts now (x ∷ more) ≡ both (counted now x) (counts (stepped now x) more)
unfolding counts
counts_ahead now x more = refl

within_ahead : (now : List PlainState) (x : StateStep) (more : List StateStep) → length (stepped now x) ≤ STATE_LIMIT → passes_limit (stepped now x) more ≡ passes_limit now (x ∷ more)
unfolding passes_limit
within_ahead now x more few = sym (ap (λ b. b || passes_limit (stepped now x) more) (within_not_over (stepped now x) few))

over_ahead : (now : List PlainState) (x : StateStep) (more : List StateStep) → is_over (stepped now x) ≡ true → passes_limit now (x ∷ more) ≡ true
unfolding passes_limit
over_ahead now x more over = ap (λ b. b || passes_limit (stepped now x) more) over

next : (es : List PlainState) (steps : List StateStep) (index : ℕ) (now : List PlainState) (c : Counts) (x : StateStep) → Acting es steps index now c → index < length steps → x ≡ get_or steps index x → length (stepped now x) ≤ STATE_LIMIT → Acting es steps (suc index) (stepped now x) (both c (counted now x))
next es steps index now c x is within here few =
    let more = drop (suc index) steps in
    let rest = ahead steps index x within here in
    let one = step_counts now x in
    let most = one_at_most (is_insert x) in
    let moved = step_adds now x is.names in
    let inserted = is.inserted in
    let deleted = is.deleted in
    record {
      names = names_step now x is.names;
      few = few;
      left = sym (ap (λ xs. after now xs) rest) ∙ is.left;
      sum = both_third c (counted now x) (counts (stepped now x) more) ∙ ap (λ k. both c k) (sym (counts_ahead now x more)) ∙ ap (λ xs. both c (counts now xs)) (sym rest) ∙ is.sum;
      limit = within_ahead now x more few ∙ ap (λ xs. passes_limit now xs) (sym rest) ∙ is.limit;
      inserted = omega (arith, one, most, inserted);
      deleted = omega (arith, one, most, moved, deleted);
    }

pub acting_next : (es : List PlainState) (steps : List StateStep) (index : ℕ) (now : List PlainState) (c : Counts) (x : StateStep) → Acting es steps index now c → index < length steps → x ≡ get_or steps index x → is_over (stepped now x) ≡ false → Acting es steps (index + 1) (stepped now x) (both c (counted now x))
acting_next es steps index now c x is within here within_limit =
    let later : suc index ≡ index + 1 = omega arith in
    subst (λ (n : ℕ). Acting es steps n (stepped now x) (both c (counted now x))) later (next es steps index now c x is within here (not_over (stepped now x) within_limit))

pub acting_over : (es : List PlainState) (steps : List StateStep) (index : ℕ) (now : List PlainState) (c : Counts) (x : StateStep) → Acting es steps index now c → index < length steps → x ≡ get_or steps index x → is_over (stepped now x) ≡ true → passes_limit es steps ≡ true
acting_over es steps index now c x is within here over = sym is.limit ∙ ap (λ xs. passes_limit now xs) (ahead steps index x within here) ∙ over_ahead now x (drop (suc index) steps) over

pub record Acted (es : List PlainState) (steps : List StateStep) (now : List PlainState) (c : Counts) : Type 0 where
  pub left : now ≡ after es steps
  pub sum : c ≡ counts es steps
  pub limit : passes_limit es steps ≡ false
  pub table : IsStates now

counts_none : (now : List PlainState) → counts now [] ≡ no_counts
unfolding counts
counts_none now = refl

limit_none : (now : List PlainState) → passes_limit now [] ≡ false
unfolding passes_limit
limit_none now = refl

pub acting_all : (es : List PlainState) (steps : List StateStep) (index : ℕ) (now : List PlainState) (c : Counts) → Acting es steps index now c → length steps ≤ index → Acted es steps now c
acting_all es steps index now c is end =
    let none = drop_all index steps end in
    record {
      left = sym (ap (λ xs. after now xs) none) ∙ is.left;
      sum = sym (and_none c) ∙ ap (λ k. both c k) (sym (counts_none now)) ∙ ap (λ xs. both c (counts now xs)) (sym none) ∙ is.sum;
      limit = sym is.limit ∙ ap (λ xs. passes_limit now xs) none ∙ limit_none now;
      table = record { names = is.names; few = is.few };
    }

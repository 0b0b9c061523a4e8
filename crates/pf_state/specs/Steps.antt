-- Steps that change states: how an insert is judged, what a delete and a clear take out, and what is counted. All our own.
use Rattle.std.specs.{Prelude.{◌≡◌, ℕ, ◌+◌, ◌<◌, ◌^◌, ◌==◌, ◌&&◌, ◌||◌, nat_lt, nat_le, Bool, true, false, not, cond, List, [], ◌∷◌, length, filter, fold, is_some, Some, None, Result, Ok, Err}, FinMap.Entries.where_key, List.{list_any, count_by}, Option.option_map_or, Ordering.eq_by_cmp}
use Rattle.pf_map.specs.Maps.{with_value}
use Rattle.pf_state.specs.{declared.{counts.Counts.Counts, limits.TheConstants.STATE_LIMIT, refusal.StatesRefusal.StatesRefusal, refusal.StatesRefusal.TheVariants.StatesFull, refusal.StatesRefusal.TheVariants.Memory, state.StateName.StateName, step.Insertion.Insertion, step.Insertion.TheVariants.Stale, step.Insertion.TheVariants.Clash, step.Insertion.TheVariants.Replaced, step.Insertion.TheVariants.New, step.StateStep.StateStep, step.StateStep.TheVariants.Insert, step.StateStep.TheVariants.Delete, step.StateStep.TheVariants.Clear}, Flows.same_flow, States.{PlainState, name_order, held_at, stands}}

-- ---- inserting

-- the name is known, and the generation isn't greater than the one there
abbrev pub is_stale : List PlainState → PlainState → Bool
is_stale es s = option_map_or (λ held. nat_le s.1.generation held.generation) (held_at s.0 es) false

-- a state of another name has the flow
abbrev pub is_clash : List PlainState → PlainState → Bool
is_clash es s = list_any (λ t. not (eq_by_cmp name_order t.0 s.0) && same_flow t.1.flow s.1.flow) es

-- stale is checked first, then clash, then whether the name is known
abbrev pub insertion : List PlainState → PlainState → Insertion
insertion es s = cond (is_stale es s) Stale (cond (is_clash es s) Clash (cond (is_some (held_at s.0 es)) Replaced New))

abbrev pub has_effect : Insertion → Bool
has_effect Stale = false
has_effect Clash = false
has_effect Replaced = true
has_effect New = true

-- ---- the states after steps

-- the states without the one of this name
abbrev pub without_state : List PlainState → StateName → List PlainState
without_state es n = with_value name_order es n None

-- the states of all other creators
abbrev pub without_creator : List PlainState → ℕ → List PlainState
without_creator es creator = where_key name_order (λ n. not (n.creator == creator)) es

unfoldable pub stepped : List PlainState → StateStep → List PlainState
stepped es (Insert s) = cond (has_effect (insertion es s)) (with_value name_order es s.0 (Some s.1)) es
stepped es (Delete n) = without_state es n
stepped es (Clear creator) = without_creator es creator

-- after steps in turn
abbrev pub after : List PlainState → List StateStep → List PlainState
after es steps = fold stepped es steps

-- ---- ticks

-- the states that stand at a tick
abbrev pub without_due : List PlainState → ℕ → List PlainState
without_due es tick = filter (λ s. stands tick s.1) es

-- how many are due at a tick
abbrev pub due_count : List PlainState → ℕ → ℕ
due_count es tick = count_by (λ s. not (stands tick s.1)) es

-- whether a step inserts a state that is due at a tick, even if it would be stale or clash
abbrev pub inserts_due : ℕ → StateStep → Bool
inserts_due tick (Insert s) = not (stands tick s.1)
inserts_due tick (Delete n) = false
inserts_due tick (Clear creator) = false

abbrev pub any_inserts_due : ℕ → List StateStep → Bool
any_inserts_due tick steps = list_any (inserts_due tick) steps

-- ---- what is counted

abbrev pub no_counts : Counts
no_counts = record { inserted = 0; replaced = 0; stale = 0; clash = 0; deleted = 0 }

abbrev pub one_insertion : Insertion → Counts
one_insertion Stale = record { inserted = 0; replaced = 0; stale = 1; clash = 0; deleted = 0 }
one_insertion Clash = record { inserted = 0; replaced = 0; stale = 0; clash = 1; deleted = 0 }
one_insertion Replaced = record { inserted = 0; replaced = 1; stale = 0; clash = 0; deleted = 0 }
one_insertion New = record { inserted = 1; replaced = 0; stale = 0; clash = 0; deleted = 0 }

abbrev pub only_deleted : ℕ → Counts
only_deleted n = record { inserted = 0; replaced = 0; stale = 0; clash = 0; deleted = n }

abbrev pub both : Counts → Counts → Counts
both a b = record {
  inserted = a.inserted + b.inserted;
  replaced = a.replaced + b.replaced;
  stale = a.stale + b.stale;
  clash = a.clash + b.clash;
  deleted = a.deleted + b.deleted;
}

-- each count fits
pub record IsCounted (c : Counts) : Type 0 where
  pub inserted : c.inserted < 2 ^ 64
  pub replaced : c.replaced < 2 ^ 64
  pub stale : c.stale < 2 ^ 64
  pub clash : c.clash < 2 ^ 64
  pub deleted : c.deleted < 2 ^ 64

-- how many states of this name there are: one or none
abbrev pub named_count : List PlainState → StateName → ℕ
named_count es n = cond (is_some (held_at n es)) 1 0

abbrev pub creator_count : List PlainState → ℕ → ℕ
creator_count es creator = count_by (λ s. s.0.creator == creator) es

unfoldable pub counted : List PlainState → StateStep → Counts
counted es (Insert s) = one_insertion (insertion es s)
counted es (Delete n) = only_deleted (named_count es n)
counted es (Clear creator) = only_deleted (creator_count es creator)

-- each step is counted by the states after those before it
unfoldable pub counts : List PlainState → List StateStep → Counts
counts es [] = no_counts
counts es (x ∷ xs) = both (counted es x) (counts (stepped es x) xs)

-- ---- when a batch is refused

abbrev pub is_over : List PlainState → Bool
is_over es = nat_lt STATE_LIMIT (length es)

-- after some step there are more states than the limit
unfoldable pub passes_limit : List PlainState → List StateStep → Bool
passes_limit es [] = false
passes_limit es (x ∷ xs) = is_over (stepped es x) || passes_limit (stepped es x) xs

-- A batch is refused exactly if a step exceeds the limit, out of memory aside.
abbrev pub Refuses : {X : Type 0} → Result X StatesRefusal → Bool → Type 0
Refuses (Ok x) full = full ≡ false
Refuses (Err StatesFull) full = full ≡ true
Refuses (Err Memory) full = Unit {0}

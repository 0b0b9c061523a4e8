-- The published copies: what both have, what an operation adds to it, and the rule.
use Rattle.std.specs.Prelude.{◌≡◌, ℕ, List, ◌++◌, fold}
use mathlib.Core.List.{IsPrefix}
use mathlib.Core.Option.{some}
use lib.ListN.{get_elem?}
use Rattle.logbook.specs.Pages.{Book}
use Rattle.atomic_table.specs.Seated.{TableId}
use Rattle.pf_core.specs.Durable.Changes.{PlainDurable, PlainChange, after}
use Rattle.pf_view.specs.Past.Pasts.{PlainTrace, trace_with, all_acked}
use Rattle.pf_view.specs.Seers.{PlainShower}

-- what a copy is, and what both have: the changes that made it, what is kept after them, and the front that it carries
pub record PlainShown : Type 0 where
  pub changes : List PlainChange
  pub durable : PlainDurable
  pub mark : PlainTrace

abbrev pub shown_with : List PlainChange → PlainDurable → PlainTrace → PlainShown
shown_with changes durable m = record { changes = changes; durable = durable; mark = m }

-- an operation adds its changes, and brings what is kept after all and their front
abbrev pub with_operation : PlainShown → PlainShown → PlainShown
with_operation x o = shown_with (x.changes ++ o.changes) o.durable o.mark

-- a copy after all operations
abbrev pub offered_version : PlainShown → List PlainShown → PlainShown
offered_version x operations = fold with_operation x operations

-- what contracts see of the copy that is shown, of the operations that are pending, and which copies these are
abbrev pub shower_with : PlainShown → List PlainShown → TableId → PlainShower
shower_with x pending copies = record { shown = x.changes; offered = (offered_version x pending).changes; copies = copies }

-- what is kept is the base after the changes, and the front is that of the changes in this history, each acknowledged
abbrev pub IsChain : PlainDurable → Book → PlainShown → Type 0
IsChain base history x = (x.durable ≡ after base x.changes) × (x.mark ≡ trace_with history (all_acked x.changes))

-- The rule: the copy that is shown is a chain from the base, and each view is a front of its changes.
abbrev pub Keeps : PlainDurable → Book → PlainShown → List (List PlainChange) → Type 0
Keeps base history x views = IsChain base history x
    × ((seat : ℕ) (v : List PlainChange) → get_elem? views seat ≡ some v → IsPrefix v x.changes)

-- What a step says that looks at the copy y, with the view w after it: all changes of the copy were seen now. They begin with all that was
-- seen before, v, what is kept is the base after them, and they are a front of the history.
abbrev pub Sees : PlainDurable → Book → List PlainChange → PlainShown → PlainShown → List PlainChange → Type 0
Sees base history v x y w = IsPrefix v w × (w ≡ y.changes) × IsChain base history y

-- the invariant of a shower: what is shown is a chain from the base, and so it is with all that is pending
abbrev pub IsShower : PlainDurable → Book → PlainShown → List PlainShown → Type 0
IsShower base history x pending = IsChain base history x × IsChain base history (offered_version x pending)

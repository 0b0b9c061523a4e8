-- What contracts see of a history and of its fronts.
use Rattle.std.specs.Prelude.{ℕ, ◌+◌, ◌≤◌, List, [], ◌∷◌, ◌++◌, length, Bool, if◌then◌else◌}
use mathlib.Core.List.{IsPrefix}
use Rattle.logbook.specs.Pages.{Book}
use Rattle.pf_core.specs.Durable.Changes.{PlainChange}

-- changes, and how many of them were acknowledged
pub record PlainFront : Type 0 where
  pub front : List PlainChange
  pub acked : ℕ

-- the whole history: its changes, how many of them were acknowledged, and how many are shown
pub record PlainTip : Type 0 where
  pub front : List PlainChange
  pub acked : ℕ
  pub shown : ℕ

-- as a front, which says nothing of what is shown
abbrev pub front_of : PlainTip → PlainFront
front_of t = record { front = t.front; acked = t.acked }

abbrev pub no_changes : PlainTip
no_changes = record { front = []; acked = 0; shown = 0 }

-- with one more change, which was acknowledged or not
abbrev pub with_change : PlainTip → PlainChange → Bool → PlainTip
with_change t e acked = record t { front = t.front ++ e ∷ []; acked = t.acked + (if acked then 1 else 0) }

-- with so many changes more shown
abbrev pub with_shown : PlainTip → ℕ → PlainTip
with_shown t more = record t { shown = t.shown + more }

-- q begins with p
abbrev pub Begins : PlainFront → PlainFront → Type 0
Begins p q = IsPrefix p.front q.front × (p.acked ≤ q.acked)

-- these changes, each acknowledged
abbrev pub all_acked : List PlainChange → PlainFront
all_acked front = record { front = front; acked = length front }

-- a front, and which history it is one of
pub record PlainTrace : Type 0 where
  pub book : Book
  pub past : PlainFront

abbrev pub trace_with : Book → PlainFront → PlainTrace
trace_with book past = record { book = book; past = past }

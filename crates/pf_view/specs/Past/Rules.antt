-- The rule of the history: one pen alone may add to it.
use Rattle.std.specs.{Prelude.{◌≡◌, ℕ, ◌<◌, ◌+◌, length, List, [], ◌∷◌, ◌++◌, Bool, true, flat_map, if◌then◌else◌, Option, option_to_list}, List.sum_by}
use mathlib.Core.List.{IsPrefix}
use Rattle.logbook.specs.Pages.{Cell, cell, Step, View, Book, Named, Nib, may_make, may_write}
use Rattle.pf_core.specs.Durable.Changes.{PlainChange}
use Rattle.pf_view.specs.declared.past.rule.HistoryEntry.{HistoryEntry}
use Rattle.pf_view.specs.Past.Pasts.{PlainFront, PlainTip}

-- ---- the invariant of the words and the entries

-- the key of the pen that may add the next entry, if k was the first
abbrev pub lead : ℕ → List HistoryEntry → ℕ
lead k [] = k
lead k (e ∷ es) = lead e.next es

-- the first entry notes nothing: it names the first pen. Before it nobody may add
abbrev pub lead_of : List HistoryEntry → ℕ
lead_of [] = 0
lead_of (e ∷ es) = lead e.next es

-- the pens of these entries are spent: their words are at home
abbrev pub IsSpent : List Cell → ℕ → List HistoryEntry → Type 0
IsSpent cells k [] = Unit {0}
IsSpent cells k (e ∷ es) = ((cell cells k).1 ≡ true) × IsSpent cells e.next es

abbrev pub IsChain : List Cell → List HistoryEntry → Type 0
IsChain cells [] = Unit {0}
IsChain cells (e ∷ es) = IsSpent cells e.next es

-- the first word is at home, and 0 until there is a first entry
abbrev pub IsKept : List Cell → List HistoryEntry → Type 0
IsKept cells log = ((cell cells 0).1 ≡ true) × IsChain cells log × ((cell cells 0).0 ≡ 0 → log ≡ [])

abbrev pub head_of : Book → Named
head_of b = record { tracked = true; key = 0; book = b }

-- ---- what a step says

-- a new pen was made
abbrev pub Comes : Step HistoryEntry → View HistoryEntry ℕ → ℕ → View HistoryEntry ℕ → Type 0
Comes s v found w = w.1.0.right ≡ may_make

-- if the word was 0, the first entry is there
abbrev pub Starts : Step HistoryEntry → View HistoryEntry ℕ → ℕ → View HistoryEntry ℕ → Type 0
Starts s v found w = found ≡ 0 → w.0 ≡ s.ask ∷ []

-- the entry was added to all that was seen
abbrev pub Adds : Step HistoryEntry → View HistoryEntry ℕ → ℕ → View HistoryEntry ℕ → Type 0
Adds s v found w = w.0 ≡ v.0 ++ s.ask ∷ []

-- the pen is as it was, and whoever has it has seen all that anyone saw
abbrev pub Stays : Step HistoryEntry → View HistoryEntry ℕ → ℕ → View HistoryEntry ℕ → Type 0
Stays s v found w = (w.1.0 ≡ v.1.0) × ((u : List HistoryEntry) → IsPrefix u v.0 → lead_of u ≡ v.1.0.key → u ≡ v.0)

-- ---- what the entries say of changes

abbrev pub after_first : List HistoryEntry → List HistoryEntry
after_first [] = []
after_first (e ∷ es) = es

abbrev pub changes_in : List HistoryEntry → List PlainChange
changes_in log = flat_map (λ e. option_to_list e.change) (after_first log)

abbrev pub acked_of : List HistoryEntry → ℕ
acked_of log = sum_by (λ e. if e.acked then 1 else 0) (after_first log)

abbrev pub shown_of : List HistoryEntry → ℕ
shown_of log = sum_by (λ e. e.shown) (after_first log)

abbrev pub past_of : List HistoryEntry → PlainFront
past_of log = record { front = changes_in log; acked = acked_of log }

abbrev pub tip_of : List HistoryEntry → PlainTip
tip_of log = record { front = changes_in log; acked = acked_of log; shown = shown_of log }

-- with one more entry
abbrev pub with_entry : PlainTip → Option PlainChange → Bool → ℕ → PlainTip
with_entry t change acked shown = record {
  front = t.front ++ option_to_list change;
  acked = t.acked + (if acked then 1 else 0);
  shown = t.shown + shown;
}

-- the pen is the one that may add to the log
pub record IsTip (name : Book) (head : Named) (seen_book pen_book : Book) (pen : Nib) (log : List HistoryEntry) : Type 0 where
  pub head_is : head ≡ head_of name
  pub seen_is : seen_book ≡ name
  pub pen_is : pen_book ≡ name
  pub right : pen.right ≡ may_write
  pub key : pen.key ≡ lead_of log
  pub some : 0 < length log

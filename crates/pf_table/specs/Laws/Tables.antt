-- What follows from the definitions of tables; the contracts of law functions say that it holds.
use Rattle.std.specs.{Prelude.{◌≡◌, ◌≢◌, ℕ, ◌+◌, ◌<◌, ◌≤◌, ◌↔◌, T, Bool, true, false, not, List, length, slice_get, take, filter, Some, None, All, Contains}, FinMap.is_sorted, List.list_any, Option.option_or}
use Rattle.pf_addr.specs.declared.addr.Addr.{Addr}
use Rattle.pf_addr.specs.Address.{PlainNet, contains, family_of, IsNetwork}
use Rattle.pf_table.specs.{declared.{answer.{Addition.{Addition, TheVariants.{Added, Same, Conflict}}, Deletion.{Deletion, TheVariants.{Deleted, Absent}}}, limits.TheConstants.TABLE_LIMIT}, Entries.PlainEntry, Tables.{IsTable, sign_of, Decides, deciding, table_holds}, Edits.{added, addition, additions, with_entry, replaced, has_entry, without_entry, deleted, deletions, is_opposite, conflict_in}, Laws.Edits.sign_left}
use Rattle.pf_addr.specs.NetOrder.{net_order}

-- ---- which entry decides

-- In a list in order, so without a network twice, what decides is what the relation says, and there is none exactly where no entry contains
-- the address.
pub record DecidesAbout (es : List PlainEntry) (a : Addr) : Type 0 where
  pub decides : (e : PlainEntry) → (deciding es a ≡ Some e) ↔ Decides es a e
  pub none : (deciding es a ≡ None) ↔ ((e : PlainEntry) → Contains es e → contains e.0 a ≡ false)
  pub one : (e f : PlainEntry) → Decides es a e → Decides es a f → e ≡ f

abbrev pub TableDecides : Type 0
TableDecides = (es : List PlainEntry) (a : Addr) → T (is_sorted net_order es) → DecidesAbout es a

-- a table matches an address exactly where an entry that isn't negated decides about it
abbrev pub TableMatches : Type 0
TableMatches = (es : List PlainEntry) (a : Addr) → T (is_sorted net_order es) →
    (table_holds es a ≡ true) ↔ ((e : PlainEntry) × Decides es a e × (e.1 ≡ false))

-- an entry contains only addresses of its own family
abbrev pub FamiliesApart : Type 0
FamiliesApart = (e : PlainEntry) (a : Addr) → contains e.0 a ≡ true → e.0.family ≡ family_of a

-- two lists in order in which each network has the same sign are equal
abbrev pub OneTable : Type 0
OneTable = (es fs : List PlainEntry) → T (is_sorted net_order es) → T (is_sorted net_order fs) → ((q : PlainNet) → sign_of q es ≡ sign_of q fs) →
    es ≡ fs

-- ---- what an edit leaves

-- adding gives a network without a sign that of the first entry that names it; a sign that was there stays
abbrev pub AddsWhatIsNamed : Type 0
AddsWhatIsNamed = (es xs : List PlainEntry) (q : PlainNet) → sign_of q (added es xs) ≡ option_or (sign_of q es) (sign_of q xs)

-- deleting takes away a network's sign if the list names the network with it
abbrev pub DeletesWhatIsNamed : Type 0
DeletesWhatIsNamed = (es xs : List PlainEntry) (q : PlainNet) → sign_of q (deleted es xs) ≡ sign_left xs q (sign_of q es)

-- a table that is replaced holds what the list says
abbrev pub HoldsTheList : Type 0
HoldsTheList = (xs : List PlainEntry) (q : PlainNet) → sign_of q (replaced xs) ≡ sign_of q xs

-- a network that the list doesn't name stays as it is
abbrev pub AllElseStays : Type 0
AllElseStays = (es xs : List PlainEntry) (q : PlainNet) → sign_of q xs ≡ None →
    (sign_of q (added es xs) ≡ sign_of q es) × (sign_of q (deleted es xs) ≡ sign_of q es)

-- a table stays one, if it has few enough entries
pub record LeavesTables (es xs : List PlainEntry) : Type 0 where
  pub added : All (λ x. IsNetwork x.0) xs → length (added es xs) ≤ TABLE_LIMIT → IsTable (added es xs)
  pub deleted : IsTable (deleted es xs)

abbrev pub StaysTable : Type 0
StaysTable = (es xs : List PlainEntry) → IsTable es → LeavesTables es xs

-- ---- what an edit answers

abbrev pub OneAnswerEach : Type 0
OneAnswerEach = (es xs : List PlainEntry) → (length (additions es xs) ≡ length xs) × (length (deletions es xs) ≡ length xs)

-- The answer for the entry at a place depends on the sign of its network in the table before the edit, and on whether an earlier entry of
-- the list names its network.
pub record AnswersEntry (es xs : List PlainEntry) (i : ℕ) (x : PlainEntry) : Type 0 where
  pub added : sign_of x.0 es ≡ None → sign_of x.0 (take i xs) ≡ None → slice_get (additions es xs) i ≡ Some Added
  pub added_before : sign_of x.0 es ≡ None → sign_of x.0 (take i xs) ≢ None → slice_get (additions es xs) i ≡ Some Same
  pub same : sign_of x.0 es ≡ Some x.1 → slice_get (additions es xs) i ≡ Some Same
  pub conflict : sign_of x.0 es ≡ Some (not x.1) → slice_get (additions es xs) i ≡ Some Conflict
  pub deleted : sign_of x.0 es ≡ Some x.1 → sign_of x.0 (take i xs) ≡ None → slice_get (deletions es xs) i ≡ Some Deleted
  pub deleted_before : sign_of x.0 (take i xs) ≢ None → slice_get (deletions es xs) i ≡ Some Absent
  pub absent : sign_of x.0 es ≢ Some x.1 → slice_get (deletions es xs) i ≡ Some Absent

-- in a list that names no network with both signs
abbrev pub AnswersInOrder : Type 0
AnswersInOrder = (es xs : List PlainEntry) → conflict_in xs ≡ None → (i : ℕ) (x : PlainEntry) → slice_get xs i ≡ Some x → AnswersEntry es xs i x

abbrev pub is_added : Addition → Bool
is_added Added = true
is_added Same = false
is_added Conflict = false

abbrev pub is_deleted : Deletion → Bool
is_deleted Deleted = true
is_deleted Absent = false

-- the table grows by as many entries as are answered Added, and shrinks by as many as are answered Deleted
abbrev pub CountsWhatChanged : Type 0
CountsWhatChanged = (es xs : List PlainEntry) → T (is_sorted net_order es) →
    (length (added es xs) ≡ length es + length (filter is_added (additions es xs)))
    × (length (deleted es xs) + length (filter is_deleted (deletions es xs)) ≡ length es)

-- An entry that was just added is Same, unless its network is there with the other sign, and one that was just deleted is Absent;
-- the table stays.
pub record AnswersRepeats (es : List PlainEntry) (x : PlainEntry) : Type 0 where
  pub same : sign_of x.0 es ≢ Some (not x.1) → addition (sign_of x.0 (with_entry es x)) x.1 ≡ Same
  pub absent : has_entry (without_entry es x) x ≡ false
  pub added : with_entry (with_entry es x) x ≡ with_entry es x
  pub deleted : without_entry (without_entry es x) x ≡ without_entry es x

abbrev pub RepeatsChangeNothing : Type 0
RepeatsChangeNothing = (es : List PlainEntry) (x : PlainEntry) → AnswersRepeats es x

-- ---- when an edit is refused for its list

-- whether the network of the entry at a place came before it with the other sign
abbrev pub Conflicts : List PlainEntry → ℕ → Bool → Type 0
Conflicts xs i answer = (x : PlainEntry) → slice_get xs i ≡ Some x → list_any (is_opposite x) (take i xs) ≡ answer

pub record IsFirstConflict (xs : List PlainEntry) (i : ℕ) : Type 0 where
  pub within : i < length xs
  pub here : Conflicts xs i true
  pub before : (j : ℕ) → j < i → Conflicts xs j false

abbrev pub TellsTheFirstConflict : Type 0
TellsTheFirstConflict = (xs : List PlainEntry) → ((i : ℕ) → conflict_in xs ≡ Some i → IsFirstConflict xs i)
    × (conflict_in xs ≡ None → (j : ℕ) → Conflicts xs j false)

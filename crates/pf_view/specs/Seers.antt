-- What contracts see of a seer and of a shower.
use Rattle.std.specs.Prelude.{◌≡◌, List, [], length, nat_lt, if◌then◌else◌}
use mathlib.Core.List.{IsPrefix}
pub use Rattle.atomic_table.specs.Seated.{TableId}
use Rattle.pf_core.specs.Durable.Changes.{PlainChange}

-- a seer: the changes of the copy by which it judged last, or what it was given when it was made; the most that it learnt by a token; and
-- the copies by which it judges
pub record PlainSeer : Type 0 where
  pub seen : List PlainChange
  pub learnt : List PlainChange
  pub copies : TableId

-- a shower, or any publisher: the changes that seers are shown, these with all that is offered after them, and the copies that it publishes to
pub record PlainShower : Type 0 where
  pub shown : List PlainChange
  pub offered : List PlainChange
  pub copies : TableId

-- it saw nothing, and learnt nothing
abbrev pub IsNewSeer : PlainSeer → Type 0
IsNewSeer s = (s.seen ≡ []) × (s.learnt ≡ [])

-- it judges by these copies
abbrev pub JudgesBy : TableId → PlainSeer → Type 0
JudgesBy copies s = s.copies ≡ copies

-- nothing is offered, and so nothing is shown
abbrev pub IsNewShower : PlainShower → Type 0
IsNewShower s = (s.shown ≡ []) × (s.offered ≡ [])

-- the invariant of a seer that saw these changes, and whose place has the view v: what begins with v and with all that it learnt begins
-- with them
abbrev pub HoldsSight : List PlainChange → List PlainChange → List PlainChange → Type 0
HoldsSight v learnt saw = (changes : List PlainChange) → IsPrefix v changes → IsPrefix learnt changes → IsPrefix saw changes

-- the one with more changes
abbrev pub longer : List PlainChange → List PlainChange → List PlainChange
longer xs ys = if nat_lt (length xs) (length ys) then ys else xs

-- what a seer knows after it learnt these
abbrev pub learns : List PlainChange → PlainSeer → PlainSeer
learns token known = record known { learnt = longer known.learnt token }

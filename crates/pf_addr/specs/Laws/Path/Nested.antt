-- What follows from the definitions of paths within one another, as laws in contracts.
use Rattle.std.specs.Prelude.{◌≡◌, ℕ, ◌<◌, ◌≤◌, ◌+◌, true, List, Some}
use Rattle.pf_addr.specs.declared.path.limits.TheConstants.{DEPTH_LIMIT}
use Rattle.pf_addr.specs.{Path.Paths.is_path, Path.Nested.{depth, within, path_within, is_single, is_child}}

-- a path has no more components than it may have
abbrev pub NoDeeper : Type 0
NoDeeper = (p : List ℕ) → is_path p ≡ true → depth p ≤ DEPTH_LIMIT

-- names lead deeper, but no deeper than a path may be
abbrev pub LeadsDeeper : Type 0
LeadsDeeper = (p names q : List ℕ) → path_within p names ≡ Some q → (depth p < depth q) × (depth q ≤ DEPTH_LIMIT)

-- a child has one component more
abbrev pub ChildHasOneMore : Type 0
ChildHasOneMore = (p q : List ℕ) → is_child p q ≡ true → (c : List ℕ) × ((q ≡ within p c) × (is_single c ≡ true) × (depth q ≡ depth p + 1))

-- and each path with one component more is a child
abbrev pub EachIsAChild : Type 0
EachIsAChild = (p c : List ℕ) → is_single c ≡ true → is_child p (within p c) ≡ true

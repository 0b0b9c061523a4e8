-- Paths within one another (pf.conf(5), ANCHORS): a ruleset is attached to the one whose path is its own without the last component.
-- That names past the limits lead nowhere is this project's own.
use Rattle.std.specs.{Prelude.{ℕ, ◌&&◌, Bool, not, if◌then◌else◌, List, [], ◌∷◌, ◌++◌, length, take, drop, Option, Some, None, nat_lt}, List.list_any, Option.is_none, Str.bytes_eq}
use Rattle.pf_addr.specs.Path.Paths.{is_slash, components, path_fault}

-- how many components a path has; the main ruleset's has none
abbrev pub depth : List ℕ → ℕ
depth [] = 0
depth (b ∷ bs) = length (components (b ∷ bs))

-- what the paths within a path begin with: the path and a slash, or nothing for the main ruleset's
abbrev pub front : List ℕ → List ℕ
front [] = []
front (b ∷ bs) = (b ∷ bs) ++ 47 ∷ []

-- names, relative to a path
abbrev pub within : List ℕ → List ℕ → List ℕ
within p names = front p ++ names

-- the path that names lead to from a path; nowhere past the limits
unfoldable pub path_within : List ℕ → List ℕ → Option (List ℕ)
path_within p names = if is_none (path_fault (within p names)) then Some (within p names) else None

-- one component: not empty, and without a slash
abbrev pub is_single : List ℕ → Bool
is_single c = nat_lt 0 (length c) && not (list_any is_slash c)

-- a path with one component more
abbrev pub is_child : List ℕ → List ℕ → Bool
is_child p q = bytes_eq (take (length (front p)) q) (front p) && is_single (drop (length (front p)) q)

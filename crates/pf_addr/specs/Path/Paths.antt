-- Paths of rulesets (pf.conf(5), ANCHORS) and their texts: components with a slash between each two. The limits, the "-" for the main
-- ruleset and the order by bytes are this project's own.
use Rattle.std.specs.{Prelude.{ℕ, ◌==◌, ◌&&◌, Bool, true, not, if◌then◌else◌, List, [], ◌∷◌, length, codes, Option, Some, None, Result, Ok, Err, nat_lt}, List.{list_all, slice_split}, Option.{is_none, option_map_or, option_or}, Str.bytes_eq, Ordering.{nat_cmp, eq_by_cmp}, Cmp.Lexicographic.slice_cmp}
use Rattle.std.specs.declared.cmp.Ordering.{Ordering}
use Rattle.pf_addr.specs.declared.path.limits.TheConstants.{PATH_LIMIT, COMPONENT_LIMIT, DEPTH_LIMIT}
use Rattle.pf_form.specs.declared.form.fault.Kind.{Kind, TheVariants.{BadWord, NameTooLong}}
use Rattle.pf_addr.specs.Path.Names.{is_name_byte}
use Rattle.pf_form.specs.Form.Words.{Word}

-- the path of the main ruleset
abbrev pub main : List ℕ
main = []

-- paths are ordered by the bytes of their text
abbrev pub path_order : List ℕ → List ℕ → Ordering
path_order p q = slice_cmp nat_cmp p q

abbrev pub same_path : List ℕ → List ℕ → Bool
same_path p q = eq_by_cmp path_order p q

-- ---- texts

-- a slash (47)
abbrev pub is_slash : ℕ → Bool
is_slash b = b == 47

-- what comes before, between and after the slashes
abbrev pub components : List ℕ → List (List ℕ)
components w = slice_split is_slash w

-- a component isn't empty, has only bytes of a name, and is neither ".." nor "-"
abbrev pub is_component : List ℕ → Bool
is_component c = nat_lt 0 (length c) && list_all is_name_byte c && not (bytes_eq c (codes "..")) && not (bytes_eq c (codes "-"))

abbrev pub component_fault : List ℕ → Option Kind
component_fault c = if not (is_component c) then Some BadWord else (if nat_lt COMPONENT_LIMIT (length c) then Some NameTooLong else None)

-- the fault of the first faulty component
abbrev pub first_fault : List (List ℕ) → Option Kind
first_fault [] = None
first_fault (c ∷ cs) = option_or (component_fault c) (first_fault cs)

abbrev pub depth_fault : ℕ → Option Kind
depth_fault n = if nat_lt DEPTH_LIMIT n then Some NameTooLong else None

-- why a text of at most so many bytes can't contain these names: first its whole length, then the components from left to right, then how
-- many there are
abbrev pub fault_within : ℕ → Word → Word → Option Kind
fault_within limit text names =
    if nat_lt limit (length text) then Some NameTooLong else
    option_or (first_fault (components names)) (depth_fault (length (components names)))

-- why a word isn't a path
abbrev pub path_fault : Word → Option Kind
path_fault w = fault_within PATH_LIMIT w w

-- PATH: "-" for the main ruleset, otherwise the path itself
abbrev pub path_of : Word → Result (List ℕ) Kind
path_of w = if bytes_eq w (codes "-") then Ok main else option_map_or (λ k. Err k) (path_fault w) (Ok w)

-- a path is the main ruleset's, or a word without a fault
abbrev pub is_path : List ℕ → Bool
is_path [] = true
is_path (b ∷ bs) = is_none (path_fault (b ∷ bs))

-- PATH as it is written
abbrev pub path_text : List ℕ → Word
path_text [] = codes "-"
path_text (b ∷ bs) = b ∷ bs

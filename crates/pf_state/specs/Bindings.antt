-- Which rule a state is bound to.
use Rattle.std.specs.{Prelude.{ℕ, ◌==◌, ◌&&◌, nat_lt, Bool, not, cond, List}, Str.bytes_eq}
use Rattle.pf_state.specs.declared.{binding.TheConstants.ALL_ONES, state.Bound.Bound, state.Bound.TheVariants.Rule, state.Bound.TheVariants.Default}

-- the number is a main rule's: it is below the count of main rules and isn't all ones, and no anchor is named
abbrev pub is_main_rule : ℕ → ℕ → ℕ → Bool
is_main_rule rule anchor count = not (rule == ALL_ONES) && (anchor == ALL_ONES) && nat_lt rule count

-- A peer's state is bound to a main rule only if the peer's rules have the checksum of the main rules here.
abbrev pub bound : List ℕ → ℕ → ℕ → List ℕ → ℕ → Bound
bound sum rule anchor current count = cond (bytes_eq sum current && is_main_rule rule anchor count) (Rule rule sum) Default

-- An export gives the number of a state's rule only if the main rules still have the checksum that it was bound by.
abbrev pub exported : Bound → List ℕ → ℕ
exported (Rule number sum) current = cond (bytes_eq sum current) number ALL_ONES
exported Default current = ALL_ONES

-- The macros that are defined (pf.conf(5), MACROS): a name means its latest definition.
use Rattle.std.specs.Prelude.{ℕ, ◌+◌, Bool, false, List, [], ◌∷◌, Option, Some, None, if◌then◌else◌}
use Rattle.std.specs.{List.slice_get, Str.bytes_eq, Option.{option_map_or, option_or}, BTreeMap.{BTreeMap, get_by}, Ordering.nat_cmp, Cmp.Lexicographic.slice_cmp, declared.vec.Vec.Vec}
use Rattle.pf_tokens.specs.declared.{token.Token.Token, flat.Macro.Macro}

-- The number of the latest definition of a name, given the number of the first definition here.
abbrev pub latest_from : ℕ → List ℕ → List Macro → Option ℕ
latest_from n name [] = None
latest_from n name (m ∷ ms) = option_or (latest_from (n + 1) name ms) (if bytes_eq name m.name then Some n else None)

abbrev pub latest : List ℕ → List Macro → Option ℕ
latest name ms = latest_from 0 name ms

abbrev pub value_of : List Macro → ℕ → List Token
value_of ms n = option_map_or (λ (m : Macro). m.value) (slice_get ms n) []

abbrev pub is_word_at : List Macro → ℕ → Bool
is_word_at ms n = option_map_or (λ (m : Macro). m.is_word) (slice_get ms n) false

-- the number that is kept by a name
abbrev pub number_at : {A : Type 0} → BTreeMap (Vec ℕ A) ℕ → List ℕ → Option ℕ
number_at numbers name = get_by (λ key. slice_cmp nat_cmp name key.items) numbers

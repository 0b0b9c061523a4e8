-- Paths and names of tables in bytes: the length of the text in one byte, then the text.
use Rattle.std.specs.{Prelude.{ℕ, ◌-◌, ◌==◌, Bool, List, [], ◌∷◌, length, is_ok, if◌then◌else◌}, Option.is_none}
use Rattle.pf_addr.specs.declared.path.limits.TheConstants.{TABLE_NAME_LIMIT, REFERENCE_LIMIT}
use Rattle.pf_addr.specs.Path.{Names.name_of, Paths.{is_path, fault_within}, References.{PlainReference, refers, ending}}
use Rattle.pf_form.specs.Bytes.{Forms.{Shape, list, nat, both, Value, ByteForm, number, counted, that, back, pair}, Codes.{flag, flag_byte}, Names.{filled, padded, before_zero}}

abbrev pub TextShape : Shape
TextShape = list nat

-- the main ruleset's path has no bytes
unfoldable pub path_form : ByteForm TextShape
path_form = that is_path (counted 1 (number 1))

-- whether they are a name
abbrev pub is_name : ℕ → List ℕ → Bool
is_name limit bytes = is_ok (name_of limit bytes)

unfoldable pub table_name_form : ByteForm TextShape
table_name_form = that (is_name TABLE_NAME_LIMIT) (counted 1 (number 1))

-- ---- in fields of a fixed width, padded with zeros

-- a name of at most `limit` bytes in a field of `width`
unfoldable pub name_field : ℕ → ℕ → ByteForm TextShape
name_field limit width = that (λ field. is_name limit (before_zero field)) (padded width)

-- how many bytes names may have, with "/*" after them or without it
abbrev pub names_limit : Bool → ℕ
names_limit wildcard = if wildcard then REFERENCE_LIMIT - length ending else REFERENCE_LIMIT

abbrev pub is_reference : List ℕ → Bool → Bool
is_reference names wildcard = is_none (fault_within (names_limit wildcard) names names)

abbrev pub ReferenceShape : Shape
ReferenceShape = both TextShape nat

-- A reference's form, 68 bytes: its names without the "/*" in 64, then 1 if it has the "/*", otherwise 0, and three zeros.
unfoldable pub reference_form : ByteForm ReferenceShape
reference_form = that (λ r. is_reference (before_zero r.0) (r.1 == 1)) (pair (padded 64) (back flag (0 ∷ 0 ∷ 0 ∷ [])))

abbrev pub plain_reference : PlainReference → Value ReferenceShape
plain_reference r = (filled 64 r.names, flag_byte r.wildcard)

-- ---- what the bytes mean

abbrev pub reference_of_plain : Value ReferenceShape → PlainReference
reference_of_plain r = refers (before_zero r.0) (r.1 == 1)

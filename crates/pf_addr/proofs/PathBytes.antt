-- Each path, name and reference can be written in bytes, and is read back from them.
use Rattle.std.proofs.{Common.{◌≡◌, ◌||◌, ◌<◌, ◌≤◌, ◌-◌, ℕ, zero, suc, Bool, true, false, List, [], ◌∷◌, ◌++◌, length, None, refl, ap, arith}, lemmas.Bool.and_parts, lemmas.Bool.Decides.nat_tests, lemmas.List.{length-append, length-replicate, append-nil}}
use Rattle.std.specs.{Prelude.{replicate}, List.{AllByRecursion, list_all}, Option.is_none}
use Rattle.pf_addr.specs.declared.path.limits.TheConstants.{PATH_LIMIT, REFERENCE_LIMIT, TABLE_NAME_LIMIT}
use Rattle.pf_addr.specs.Path.{Names.{is_name_byte, IsName}, Paths.{is_slash, is_path, path_fault, fault_within}, References.{PlainReference, refers, reference_text, ending}, ReferenceGrammar.IsReference, PathForms.{path_form, table_name_form, name_field, is_name, names_limit, reference_form, plain_reference, reference_of_plain}}
use Rattle.pf_form.specs.{Bytes.{Forms.{Fits, number}, Names.{filled, padded, before_zero}}, Laws.Bytes.Codes.{flag_fits, flag_again}}
use Rattle.pf_addr.proofs.{NamesRead.name_only, PathsRead.{names_only, names_found, none_of}, ReferencesRead.names_bytes}
use Rattle.pf_form.proofs.BytesFilled.{name_filled, filled_filled}

-- a byte of a name, or a slash
abbrev is_path_byte : ℕ → Bool
is_path_byte b = is_name_byte b || is_slash b

byte_of_name : (b : ℕ) → is_name_byte b ≡ true → b < 256
byte_of_name b e = grind (arith, nat_tests)

byte_of_path : (b : ℕ) → is_path_byte b ≡ true → b < 256
byte_of_path b e = grind (arith, nat_tests)

each_byte : (P : ℕ → Bool) → ((b : ℕ) → P b ≡ true → b < 256) → (bs : List ℕ) → list_all P bs ≡ true → AllByRecursion (Fits (number 1)) bs
each_byte P h [] all = tt
each_byte P h (b ∷ bs) all = let parts = and_parts (P b) (list_all P bs) all in (h b parts.0, each_byte P h bs parts.1)

-- ---- after their length

pub path_fits : (p : List ℕ) → is_path p ≡ true → Fits path_form p
unfolding path_form
path_fits [] is = ((omega arith, tt), refl)
path_fits (b ∷ bs) is =
    let names = names_only PATH_LIMIT (b ∷ bs) (b ∷ bs) (none_of (path_fault (b ∷ bs)) is) in
    ((omega (arith, names.1), each_byte is_path_byte byte_of_path (b ∷ bs) (names_bytes (b ∷ bs) names.0)), is)

name_is : (limit : ℕ) (n : List ℕ) → IsName limit n → is_name limit n ≡ true
name_is limit n is = rw (name_only limit n is) refl

pub table_name_fits : (n : List ℕ) → IsName TABLE_NAME_LIMIT n → Fits table_name_form n
unfolding table_name_form
table_name_fits n is = ((omega (arith, is.short), each_byte is_name_byte byte_of_name n is.bytes), name_is TABLE_NAME_LIMIT n is)

-- ---- in fields

zeros_bytes : (n : ℕ) → AllByRecursion (Fits (number 1)) (replicate n 0)
zeros_bytes zero = tt
zeros_bytes (suc n) = (omega arith, zeros_bytes n)

bytes_of_both : (a b : List ℕ) → AllByRecursion (Fits (number 1)) a → AllByRecursion (Fits (number 1)) b → AllByRecursion (Fits (number 1)) (a ++ b)
bytes_of_both [] b h k = k
bytes_of_both (x ∷ a) b h k = (h.0, bytes_of_both a b h.1 k)

field_fits : (P : ℕ → Bool) → P 0 ≡ false → ((b : ℕ) → P b ≡ true → b < 256) → (width : ℕ) (name : List ℕ) → length name ≤ width → list_all P name ≡ true → Fits (padded width) (filled width name)
field_fits P none byte width name short all =
    let zeros : List ℕ = replicate (width - length name) 0 in (
      (
        omega (arith, short, length-append name zeros, length-replicate {A = ℕ} (width - length name) 0),
        bytes_of_both name zeros (each_byte P byte name all) (zeros_bytes (width - length name)),
      ),
      filled_filled P none width name all,
    )

pub name_again : (limit width : ℕ) (n : List ℕ) → IsName limit n → before_zero (filled width n) ≡ n
name_again limit width n is = name_filled is_name_byte refl width n is.bytes

pub name_fits : (limit width : ℕ) (n : List ℕ) → limit ≤ width → IsName limit n → Fits (name_field limit width) (filled width n)
unfolding name_field
name_fits limit width n le is = (
  field_fits is_name_byte refl byte_of_name width n (omega (arith, is.short, le)) is.bytes,
  rw (name_again limit width n is) (name_is limit n is),
)

-- ---- references

pub reference_is : (names : List ℕ) (wildcard : Bool) → fault_within (names_limit wildcard) names names ≡ None → IsReference (refers names wildcard)
reference_is names true e = let is = names_only (names_limit true) names names e in record { names = is.0; short = omega (arith, is.1, length-append names ending) }
reference_is names false e = let is = names_only (names_limit false) names names e in record { names = is.0; short = rw (append-nil names) is.1 }

short_names : (r : PlainReference) → IsReference r → length r.names ≤ names_limit r.wildcard
short_names r is = by r.wildcard is.short where
  by : (b : Bool) → length (reference_text (refers r.names b)) ≤ REFERENCE_LIMIT → length r.names ≤ names_limit b
  by true le = omega (arith, le, length-append r.names ending)
  by false le = rw (append-nil r.names) at le

names_short : (r : PlainReference) → IsReference r → length r.names ≤ 64
names_short r is = by r.wildcard (short_names r is) where
  by : (b : Bool) → length r.names ≤ names_limit b → length r.names ≤ 64
  by true le = omega (arith, le)
  by false le = omega (arith, le)

pub names_again : (r : PlainReference) → IsReference r → before_zero (filled 64 r.names) ≡ r.names
names_again r is = name_filled is_path_byte refl 64 r.names (names_bytes r.names is.names)

pub reference_again : (r : PlainReference) → IsReference r → reference_of_plain (plain_reference r) ≡ r
reference_again r is = rw (names_again r is, flag_again r.wildcard) refl

pub reference_fits : (r : PlainReference) → IsReference r → Fits reference_form (plain_reference r)
unfolding reference_form
reference_fits r is = (
  (field_fits is_path_byte refl byte_of_path 64 r.names (names_short r is) (names_bytes r.names is.names), flag_fits r.wildcard),
  rw (names_again r is, flag_again r.wildcard) (ap is_none (names_found (names_limit r.wildcard) r.names r.names is.names (short_names r is))),
)

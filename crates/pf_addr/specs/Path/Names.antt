-- Names of interfaces and of tables, and the bytes of a path's components. Their bytes and their order by bytes are this project's own.
use Rattle.std.specs.{Prelude.{◌≡◌, ℕ, ◌==◌, ◌||◌, ◌&&◌, ◌<◌, ◌≤◌, nat_le, nat_lt, Bool, true, if◌then◌else◌, List, length, Result, Ok, Err}, List.list_all, Ordering.{nat_cmp, eq_by_cmp}, Cmp.Lexicographic.slice_cmp}
use Rattle.std.specs.declared.cmp.Ordering.{Ordering}
use Rattle.pf_addr.specs.declared.path.limits.TheConstants.{TABLE_NAME_LIMIT}
use Rattle.pf_form.specs.declared.form.fault.Kind.{Kind, TheVariants.{BadWord, NameTooLong}}
use Rattle.pf_form.specs.Form.Words.{Word}

-- a letter, a digit, `_`, `.` or `-`
abbrev pub is_name_byte : ℕ → Bool
is_name_byte b =
    (nat_le 65 b && nat_le b 90) || (nat_le 97 b && nat_le b 122) || (nat_le 48 b && nat_le b 57) || (b == 95) || (b == 46) || (b == 45)

-- at least one of these bytes, and not too many
pub record IsName (limit : ℕ) (name : List ℕ) : Type 0 where
  pub some : 0 < length name
  pub short : length name ≤ limit
  pub bytes : list_all is_name_byte name ≡ true

-- a word as a name; its length is checked before its bytes
abbrev pub name_of : ℕ → Word → Result (List ℕ) Kind
name_of limit w =
    if nat_lt limit (length w) then Err NameTooLong else (if nat_lt 0 (length w) && list_all is_name_byte w then Ok w else Err BadWord)

-- names of tables (pf.conf(5), TABLES)
abbrev pub IsTableName : List ℕ → Type 0
IsTableName = IsName TABLE_NAME_LIMIT

abbrev pub table_name_of : Word → Result (List ℕ) Kind
table_name_of = name_of TABLE_NAME_LIMIT

-- by their bytes
abbrev pub name_order : List ℕ → List ℕ → Ordering
name_order m n = slice_cmp nat_cmp m n

abbrev pub same_name : List ℕ → List ℕ → Bool
same_name m n = eq_by_cmp name_order m n

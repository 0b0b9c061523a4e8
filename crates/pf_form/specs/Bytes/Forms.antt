-- A layout of bytes as data: a form. What a value is written as, which values can be written, how bytes are read, and where bytes go
-- wrong, are each a function of the form.
use Rattle.std.specs.{Prelude.{◌≡◌, ◌<◌, ◌^◌, ◌+◌, ℕ, Bool, true, List, [], ◌∷◌, ◌++◌, length, Ok, ◌⊎◌}, List.{flat_map, sum_by, AllByRecursion}}
use Rattle.std.proofs.Common.{inl, inr}
use Rattle.pf_form.specs.Bytes.BasicForms.{Reader, Part, number_at, number_bytes, constant_at, Differs, joined, times_by, if_first, seen_as, only_if, begins_otherwise, onto_each, Faulting, JoinedFaults, TimesFaults, ThatFaults}

-- The shapes of plain data. Forms are over shapes, and not over types, so that a clause can speak of every form.
pub data Shape : Type 0 where
  unit : Shape
  nat : Shape
  both : Shape → Shape → Shape
  either : Shape → Shape → Shape
  list : Shape → Shape

abbrev pub Value : Shape → Type 0
Value unit = Unit {0}
Value nat = ℕ
Value (both a b) = Value a × Value b
Value (either a b) = Value a ⊎ Value b
Value (list a) = List (Value a)

-- A layout of the bytes of values of a shape. A version is an argument of the function that gives the form.
pub data ByteForm : Shape → Type 0 where
  -- this value, in no byte
  nothing : {a : Shape} → Value a → ByteForm a
  -- a number in so many bytes, the highest first
  number : ℕ → ByteForm nat
  -- a part with a reader and a writer of its own
  part : {a : Shape} → Part (Value a) → ByteForm a
  -- these bytes, and one
  front : {a : Shape} → List ℕ → ByteForm a → ByteForm a
  -- one, and these bytes
  back : {a : Shape} → ByteForm a → List ℕ → ByteForm a
  -- if this byte comes first: it, and one; else the other
  or : {a b : Shape} → ℕ → ByteForm a → ByteForm b → ByteForm (either a b)
  -- one, and the next, which may depend on the first one's value
  pair_by : {a b : Shape} → ByteForm a → (Value a → ByteForm b) → ByteForm (both a b)
  -- so many
  times : {a : Shape} → ℕ → ByteForm a → ByteForm (list a)
  -- their number in so many bytes, and that many
  counted : {a : Shape} → ℕ → ByteForm a → ByteForm (list a)
  -- one whose value has this property
  that : {a : Shape} → (Value a → Bool) → ByteForm a → ByteForm a

abbrev pub pair : {a b : Shape} → ByteForm a → ByteForm b → ByteForm (both a b)
pair f g = pair_by f (λ x. g)

-- ---- writing

abbrev pub writes : {a : Shape} → ByteForm a → Value a → List ℕ
writes (nothing only) x = []
writes (number w) n = number_bytes w n
writes (part p) x = p.write x
writes (front k f) x = k ++ writes f x
writes (back f k) x = writes f x ++ k
writes (or k f g) (inl x) = k ∷ writes f x
writes (or k f g) (inr y) = writes g y
writes (pair_by f g) x = writes f x.0 ++ writes (g x.0) x.1
writes (times n f) xs = flat_map (writes f) xs
writes (counted w f) xs = number_bytes w (length xs) ++ flat_map (writes f) xs
writes (that test f) x = writes f x

-- These bytes, with the value's appended part by part. A law says that it is `out ++ writes f x`: pushes in a row
-- nest as this computes.
abbrev pub onto : {a : Shape} → ByteForm a → Value a → List ℕ → List ℕ
onto (nothing only) x out = out
onto (number w) n out = out ++ number_bytes w n
onto (part p) x out = out ++ p.write x
onto (front k f) x out = onto f x (out ++ k)
onto (back f k) x out = onto f x out ++ k
onto (or k f g) (inl x) out = onto f x (out ++ k ∷ [])
onto (or k f g) (inr y) out = onto g y out
onto (pair_by f g) x out = onto (g x.0) x.1 (onto f x.0 out)
onto (times n f) xs out = onto_each (onto f) xs out
onto (counted w f) xs out = onto_each (onto f) xs (out ++ number_bytes w (length xs))
onto (that test f) x out = onto f x out

-- How many bytes a value is written in. A law says that `writes` gives so many.
abbrev pub length_of : {a : Shape} → ByteForm a → Value a → ℕ
length_of (nothing only) x = 0
length_of (number w) n = w
length_of (part p) x = length (p.write x)
length_of (front k f) x = length k + length_of f x
length_of (back f k) x = length_of f x + length k
length_of (or k f g) (inl x) = 1 + length_of f x
length_of (or k f g) (inr y) = length_of g y
length_of (pair_by f g) x = length_of f x.0 + length_of (g x.0) x.1
length_of (times n f) xs = sum_by (length_of f) xs
length_of (counted w f) xs = w + sum_by (length_of f) xs
length_of (that test f) x = length_of f x

-- ---- which values can be written

-- In a choice the other may not begin as the first does: so two equal tags leave values that can't be written, and no law fails.
abbrev pub Fits : {a : Shape} → ByteForm a → Value a → Type 0
Fits (nothing only) x = x ≡ only
Fits (number w) n = n < 256 ^ w
Fits (part p) x = p.fits x ≡ true
Fits (front k f) x = Fits f x
Fits (back f k) x = Fits f x
Fits (or k f g) (inl x) = Fits f x
Fits (or k f g) (inr y) = Fits g y × (begins_otherwise k (writes g y) ≡ true)
Fits (pair_by f g) x = Fits f x.0 × Fits (g x.0) x.1
Fits (times n f) xs = (length xs ≡ n) × AllByRecursion (Fits f) xs
Fits (counted w f) xs = (length xs < 256 ^ w) × AllByRecursion (Fits f) xs
Fits (that test f) x = Fits f x × (test x ≡ true)

-- The value can be written, and these are its bytes.
pub record Spells {a : Shape} (f : ByteForm a) (x : Value a) (bytes : List ℕ) : Type 0 where
  pub fits : Fits f x
  pub written : bytes ≡ writes f x

-- ---- reading

abbrev pub reads : {a : Shape} → ByteForm a → Reader (Value a)
reads (nothing only) bytes = Ok (only, bytes)
reads (number w) bytes = number_at w bytes
reads (part p) bytes = p.read bytes
reads (front k f) bytes = joined (λ u x. x) (constant_at k) (λ u. reads f) bytes
reads (back f k) bytes = joined (λ x u. x) (reads f) (λ x. constant_at k) bytes
reads (or k f g) bytes = if_first k (seen_as inl (reads f)) (seen_as inr (only_if (λ y. begins_otherwise k (writes g y)) (reads g))) bytes
reads (pair_by f g) bytes = joined (λ x y. (x, y)) (reads f) (λ x. reads (g x)) bytes
reads (times n f) bytes = times_by n (reads f) bytes
reads (counted w f) bytes = joined (λ n xs. xs) (number_at w) (λ n. times_by n (reads f)) bytes
reads (that test f) bytes = only_if test (reads f) bytes

-- ---- where bytes go wrong, by what is written and not by reading

abbrev pub Faults : {a : Shape} → ByteForm a → Faulting
Faults (nothing only) before rest = ⊥
Faults (number w) before rest = ⊥
Faults (part p) before rest = p.faults before rest ≡ true
Faults (front k f) before rest = JoinedFaults {A = Unit {0}} (λ u. k) (λ u. Unit {0}) (Differs k) (λ u. Faults f) before rest
Faults (back f k) before rest = JoinedFaults (writes f) (Fits f) (Faults f) (λ x. Differs k) before rest
Faults (or k f g) before rest = ((m : List ℕ) × (before ≡ k ∷ m) × Faults f m rest) ⊎ ((begins_otherwise k (before ++ rest) ≡ true) × ThatFaults (λ y. begins_otherwise k (writes g y)) (writes g) (Fits g) (Faults g) before rest)
Faults (pair_by f g) before rest = JoinedFaults (writes f) (Fits f) (Faults f) (λ x. Faults (g x)) before rest
Faults (times n f) before rest = TimesFaults n (writes f) (Fits f) (Faults f) before rest
Faults (counted w f) before rest = JoinedFaults (number_bytes w) (λ n. n < 256 ^ w) (λ m r. ⊥) (λ n. TimesFaults n (writes f) (Fits f) (Faults f)) before rest
Faults (that test f) before rest = ThatFaults test (writes f) (Fits f) (Faults f) before rest

-- What forms of bytes are made of: readers and their laws, numbers, constants, one part after another.
use Rattle.std.specs.Prelude.{◌≡◌, ◌==◌, ◌<◌, ℕ, zero, suc, Bool, true, false, not, nat_lt, List, [], ◌∷◌, ◌++◌, length, drop, Result, Ok, Err, ◌⊎◌, if◌then◌else◌}
use Rattle.byteorder.specs.Endian.{big_number, big_bytes}
use Rattle.pf_form.specs.declared.bytes.fault.{Fault.Fault, Fault.TheVariants.{Short, Bad}}

-- ---- reading: a value and the bytes after it; or that there are too few; or how many are left where they go wrong

abbrev pub Read : Type 0 → Type 0
Read A = Result (A × List ℕ) Fault

abbrev pub Reader : Type 0 → Type 0
Reader A = List ℕ → Read A

infixl 10 ◌>>=◌
abbrev pub ◌>>=◌ : {A B : Type 0} → Result A Fault → (A → Result B Fault) → Result B Fault
(Ok x) >>= f = f x
(Err e) >>= f = Err e

-- each number is a byte
abbrev pub Bytes : List ℕ → Type 0
Bytes [] = Unit {0}
Bytes (b ∷ bs) = (b < 256) × Bytes bs

-- after these bytes, with those left, comes something that isn't allowed
abbrev pub Faulting : Type 1
Faulting = List ℕ → List ℕ → Type 0

-- A reader and a writer that belong together.
pub record Laws (A : Type 0) (read : Reader A) (write : A → List ℕ) (fits : A → Type 0) (faults : Faulting) : Type 0 where
  -- bytes that were written are read back, and what comes after them is left
  pub again : (x : A) (rest : List ℕ) → fits x → read (write x ++ rest) ≡ Ok (x, rest)
  -- nothing else is read
  pub takes : (bytes : List ℕ) (x : A) (rest : List ℕ) → Bytes bytes → read bytes ≡ Ok (x, rest) → fits x × (bytes ≡ write x ++ rest)
  -- where bytes are missing they are too few, and not wrong
  pub short : (x : A) (front : List ℕ) (b : ℕ) (more : List ℕ) → fits x → write x ≡ front ++ b ∷ more → read front ≡ Err Short
  -- what isn't allowed is refused at its place
  pub faulty : (front rest : List ℕ) → faults front rest → read (front ++ rest) ≡ Err (Bad (length rest))
  -- nothing else is refused as wrong
  pub stops : (bytes : List ℕ) (left : ℕ) → Bytes bytes → read bytes ≡ Err (Bad left) → (front rest : List ℕ) × (bytes ≡ front ++ rest) × (length rest ≡ left) × faults front rest
  -- no further bytes make it right
  pub stays : (front rest more : List ℕ) → faults front rest → faults front (rest ++ more)

-- a part with a reader and a writer of its own, with its laws
pub record Part (A : Type 0) : Type 0 where
  pub read : Reader A
  pub write : A → List ℕ
  pub fits : A → Bool
  pub faults : List ℕ → List ℕ → Bool
  pub laws : Laws A read write (λ x. fits x ≡ true) (λ front rest. faults front rest ≡ true)

-- ---- numbers, and constant bytes

-- the number in so many bytes, the highest first
abbrev pub number_at : ℕ → Reader ℕ
number_at n bytes = if nat_lt (length bytes) n then Err Short else Ok (big_number n bytes, drop n bytes)

unfoldable pub number_bytes : ℕ → ℕ → List ℕ
number_bytes w n = big_bytes w n

abbrev pub constant_at : List ℕ → Reader (Unit {0})
constant_at [] bytes = Ok (tt, bytes)
constant_at (k ∷ ks) [] = Err Short
constant_at (k ∷ ks) (b ∷ bytes) = if b == k then constant_at ks bytes else Err (Bad (length (b ∷ bytes)))

-- the constant begins so, and goes on with another byte than what is left
abbrev pub Differs : List ℕ → Faulting
Differs [] before rest = ⊥
Differs (k ∷ ks) [] [] = ⊥
Differs (k ∷ ks) [] (b ∷ rest) = (b == k) ≡ false
Differs (k ∷ ks) (c ∷ before) rest = (c ≡ k) × Differs ks before rest

-- ---- one part, and what comes after it

abbrev pub joined : {A B C : Type 0} → (A → B → C) → Reader A → (A → Reader B) → Reader C
joined join first second bytes = first bytes >>= λ x. second x.0 x.1 >>= λ y. Ok (join x.0 y.0, y.1)

-- in the one, or after it in the next
abbrev pub JoinedFaults : {A : Type 0} → (A → List ℕ) → (A → Type 0) → Faulting → (A → Faulting) → Faulting
JoinedFaults {A = A} write fits faults next before rest =
    faults before rest ⊎ ((x : A) × (m : List ℕ) × fits x × (before ≡ write x ++ m) × next x m rest)

abbrev pub times_by : {A : Type 0} → ℕ → Reader A → Reader (List A)
times_by zero read bytes = Ok ([], bytes)
times_by (suc n) read bytes = read bytes >>= λ x. times_by n read x.1 >>= λ y. Ok (x.0 ∷ y.0, y.1)

abbrev pub TimesFaults : {A : Type 0} → ℕ → (A → List ℕ) → (A → Type 0) → Faulting → Faulting
TimesFaults zero write fits faults before rest = ⊥
TimesFaults (suc n) write fits faults before rest = JoinedFaults write fits faults (λ x. TimesFaults n write fits faults) before rest

-- each appended to what is there
abbrev pub onto_each : {A : Type 0} → (A → List ℕ → List ℕ) → List A → List ℕ → List ℕ
onto_each push [] out = out
onto_each push (x ∷ xs) out = onto_each push xs (push x out)

-- ---- a property of a value

abbrev pub only_if : {A : Type 0} → (A → Bool) → Reader A → Reader A
only_if test read bytes = read bytes >>= λ x. if test x.0 then Ok (x.0, x.1) else Err (Bad (length bytes))

-- within the part; or at its first byte, if the value there lacks the property
abbrev pub ThatFaults : {A : Type 0} → (A → Bool) → (A → List ℕ) → (A → Type 0) → Faulting → Faulting
ThatFaults {A = A} test write fits faults before rest =
    faults before rest ⊎ ((before ≡ []) × (x : A) × (m : List ℕ) × fits x × (test x ≡ false) × (rest ≡ write x ++ m))

-- ---- a choice by the first byte

-- whether it is this one, and what comes after it if so
abbrev pub is_next : ℕ → Reader Bool
is_next k [] = Err Short
is_next k (b ∷ bytes) = if b == k then Ok (true, bytes) else Ok (false, b ∷ bytes)

abbrev pub if_first : {A : Type 0} → ℕ → Reader A → Reader A → Reader A
if_first k here other bytes = is_next k bytes >>= λ t. if t.0 then here t.1 else other t.1

abbrev pub seen_as : {A B : Type 0} → (A → B) → Reader A → Reader B
seen_as view read bytes = read bytes >>= λ x. Ok (view x.0, x.1)

-- there is a first byte, and it is another
abbrev pub begins_otherwise : ℕ → List ℕ → Bool
begins_otherwise k [] = false
begins_otherwise k (b ∷ bs) = not (b == k)

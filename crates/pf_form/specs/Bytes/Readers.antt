-- What the functions that read bytes return, and why bytes are no value's.
use Rattle.std.specs.Prelude.{◌≡◌, ◌<◌, ℕ, List, [], ◌∷◌, ◌++◌, length, Result, Ok, Err, ◌⊎◌}
use Rattle.pf_form.specs.declared.bytes.fault.{Fault.Fault, Undecoded.Undecoded}
use Rattle.pf_form.specs.{Bytes.BasicForms.{Read, ◌>>=◌}, Bytes.Forms.{Shape, Value, ByteForm, reads, writes, Fits, Faults}}
use Rattle.pf_form.specs.declared.bytes.fault.Fault.TheVariants as fault
use Rattle.pf_form.specs.declared.bytes.fault.Undecoded.TheVariants as undecoded

-- the fault of the reading, unless memory ran out
abbrev pub Fails : {Y : Type 0} → Undecoded → Result Y Fault → Type 0
Fails undecoded.Memory read = Unit {0}
Fails (undecoded.Fault f) read = read ≡ Err f

-- what is returned, seen by view, and what is left
abbrev pub Gives : {X A : Type 0} → (X → A) → Result X Undecoded → List ℕ → Read A → Type 0
Gives view (Ok x) after read = read ≡ Ok (view x, after)
Gives view (Err s) after read = Fails s read

-- The bytes move on as the form's reading does.
abbrev pub Reads : {X : Type 0} {a : Shape} → (X → Value a) → ByteForm a → Result X Undecoded → List ℕ → List ℕ → Type 0
Reads view f result before after = Gives view result after (reads f before)

-- ---- whole texts

abbrev pub end_at : List ℕ → Result (Unit {0}) Fault
end_at [] = Ok tt
end_at (b ∷ bytes) = Err (fault.Bad (length (b ∷ bytes)))

abbrev pub ended : {A : Type 0} → A × List ℕ → Result A Fault
ended x = end_at x.1 >>= λ u. Ok x.0

-- one value, and no byte after it
abbrev pub read_all : {a : Shape} → ByteForm a → List ℕ → Result (Value a) Fault
read_all f bytes = reads f bytes >>= ended

abbrev pub GivesAll : {X A : Type 0} → (X → A) → Result X Undecoded → Result A Fault → Type 0
GivesAll view (Ok x) read = read ≡ Ok (view x)
GivesAll view (Err s) read = Fails s read

-- this holds of the fault, if there is one
abbrev pub IfFault : Undecoded → (Fault → Type 0) → Type 0
IfFault undecoded.Memory P = Unit {0}
IfFault (undecoded.Fault f) P = P f

-- ---- why bytes are no value's, by what is written and not by reading

-- something isn't allowed where so many bytes are left
abbrev pub GoesWrong : {a : Shape} → ByteForm a → List ℕ → ℕ → Type 0
GoesWrong f bytes left = (before rest : List ℕ) × (bytes ≡ before ++ rest) × (length rest ≡ left) × Faults f before rest

-- a value's bytes come first, and then so many more
abbrev pub GoesOn : {a : Shape} → ByteForm a → List ℕ → ℕ → Type 0
GoesOn {a = a} f bytes left = (x : Value a) × (rest : List ℕ) × Fits f x × (bytes ≡ writes f x ++ rest) × (length rest ≡ left)

-- Too few bytes: they don't begin with a value's, and nothing in them is wrong. Bad ones: something is, or there are more than a value's.
abbrev pub Refused : {a : Shape} → ByteForm a → List ℕ → Fault → Type 0
Refused f bytes fault.Short = ((left : ℕ) → GoesOn f bytes left → ⊥) × ((left : ℕ) → GoesWrong f bytes left → ⊥)
Refused f bytes (fault.Bad left) = GoesWrong f bytes left ⊎ ((0 < left) × GoesOn f bytes left)

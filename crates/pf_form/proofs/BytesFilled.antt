-- A field that is filled with zeros is the name before them, filled.
use Rattle.std.proofs.{Common.{◌≡◌, ◌==◌, ◌<◌, ◌≤◌, ◌+◌, ◌-◌, ℕ, zero, suc, Bool, true, false, List, [], ◌∷◌, ◌++◌, length, take, drop, Ok, Err, refl, sym, ap, ◌∙◌, arith}, lemmas.List.{length-take, length-drop, take-append-drop}, lemmas.Bool.{and_parts, eqb-true, lt-ltb, ne_eqb}, lemmas.List.Sums.take_while-cons}
use Rattle.std.specs.{Prelude.{nat_lt, replicate}, List.{prefix_len, list_all}}
use Rattle.pf_form.specs.declared.bytes.fault.Fault.TheVariants.{Short, Bad}
use Rattle.pf_form.specs.{Bytes.BasicForms.Bytes, Bytes.Forms.reads, Bytes.Names.{filled, are_zeros, is_filled, padded, before_zero}, Laws.Bytes.Steps.leaves}
use Rattle.pf_form.proofs.BytesRead.{bytes_at, bytes_short}

abbrev name_of : List ℕ → ℕ
name_of = prefix_len (nat_lt 0)

filled_is : (bytes : List ℕ) → is_filled bytes ≡ are_zeros (drop (name_of bytes) bytes)
filled_is [] = refl
filled_is (zero ∷ bytes) = refl
filled_is (suc b ∷ bytes) =
    let some : nat_lt 0 (suc b) ≡ true = lt-ltb 0 (suc b) (omega arith) in
    let other : (suc b == 0) ≡ false = ne_eqb (suc b) 0 (λ e. omega (arith, e)) in
    let next : 1 + name_of bytes ≡ suc (name_of bytes) = omega arith in
    rw (some, other, next) (filled_is bytes)

zeros_are : (zs : List ℕ) → are_zeros zs ≡ true → zs ≡ replicate (length zs) 0
zeros_are [] e = refl
zeros_are (z ∷ zs) e =
    let parts = and_parts (z == 0) (are_zeros zs) e in
    let first : z ≡ 0 = eqb-true z 0 parts.0 in
    rw first (ap (λ (l : List ℕ). 0 ∷ l) (zeros_are zs parts.1))

field_is : (width n : ℕ) (field : List ℕ) → length field ≡ width → n ≤ width → are_zeros (drop n field) ≡ true → filled width (take n field) ≡ field
field_is width n field long le e =
    let left : width - length (take n field) ≡ length (drop n field) = omega (arith, length-take n field, length-drop n field) in
    rw left (ap (λ (l : List ℕ). take n field ++ l) (sym (zeros_are (drop n field) e)) ∙ take-append-drop n field)

pub padded_short : (width : ℕ) (bytes : List ℕ) → length bytes < width → reads (padded width) bytes ≡ Err Short
padded_short width bytes lt = rw (bytes_short width bytes lt) refl

pub padded_bad : (width n : ℕ) (bytes : List ℕ) → width ≤ length bytes → n ≡ name_of (take width bytes) → are_zeros (drop n (take width bytes)) ≡ false → reads (padded width) bytes ≡ Err (Bad (length bytes))
padded_bad width n bytes le e wrong =
    let test : is_filled (take width bytes) ≡ false = filled_is (take width bytes) ∙ ap (λ (m : ℕ). are_zeros (drop m (take width bytes))) (sym e) ∙ wrong in
    rw (bytes_at width bytes le, test) refl

pub padded_at : (width n : ℕ) (bytes : List ℕ) → width ≤ length bytes → n ≡ name_of (take width bytes) → n ≤ width → are_zeros (drop n (take width bytes)) ≡ true → reads (padded width) bytes ≡ Ok (filled width (take n (take width bytes)), drop width bytes)
padded_at width n bytes le e within zeros =
    let test : is_filled (take width bytes) ≡ true = filled_is (take width bytes) ∙ ap (λ (m : ℕ). are_zeros (drop m (take width bytes))) (sym e) ∙ zeros in
    rw (bytes_at width bytes le, test) (ap (λ (l : List ℕ). leaves l (drop width bytes)) (sym (field_is width n (take width bytes) (omega (arith, length-take width bytes)) within zeros)))

-- ---- the name in its field

before_is : (bytes : List ℕ) → before_zero bytes ≡ take (name_of bytes) bytes
before_is [] = refl
before_is (zero ∷ bytes) = take_while-cons (nat_lt 0) zero bytes
before_is (suc b ∷ bytes) =
    let some : nat_lt 0 (suc b) ≡ true = lt-ltb 0 (suc b) (omega arith) in
    let next : 1 + name_of bytes ≡ suc (name_of bytes) = omega arith in
    take_while-cons (nat_lt 0) (suc b) bytes ∙ rw (some, next) (ap (λ (l : List ℕ). suc b ∷ l) (before_is bytes))

pub name_at : (width n : ℕ) (bytes : List ℕ) → width ≤ length bytes → n ≡ name_of (take width bytes) → n ≤ width → are_zeros (drop n (take width bytes)) ≡ true → before_zero (filled width (take n (take width bytes))) ≡ take n (take width bytes)
name_at width n bytes le e within zeros =
    ap before_zero (field_is width n (take width bytes) (omega (arith, length-take width bytes)) within zeros) ∙ before_is (take width bytes) ∙ ap (λ (m : ℕ). take m (take width bytes)) (sym e)

up_to_zeros : (P : ℕ → Bool) → P 0 ≡ false → (name : List ℕ) (n : ℕ) → list_all P name ≡ true → before_zero (name ++ replicate n 0) ≡ name
up_to_zeros P none [] zero all = refl
up_to_zeros P none [] (suc n) all = take_while-cons (nat_lt 0) 0 (replicate n 0)
up_to_zeros P none (zero ∷ bs) n all = let first = (and_parts (P 0) (list_all P bs) all).0 in absurd cc
up_to_zeros P none (suc b ∷ bs) n all =
    take_while-cons (nat_lt 0) (suc b) (bs ++ replicate n 0) ∙ rw (lt-ltb 0 (suc b) (omega arith)) (ap (λ (l : List ℕ). suc b ∷ l) (up_to_zeros P none bs n (and_parts (P (suc b)) (list_all P bs) all).1))

-- a name without zeros is the name in the field that it fills
pub name_filled : (P : ℕ → Bool) → P 0 ≡ false → (width : ℕ) (name : List ℕ) → list_all P name ≡ true → before_zero (filled width name) ≡ name
name_filled P none width name all = up_to_zeros P none name (width - length name) all

all_zeros : (n : ℕ) → are_zeros (replicate n 0) ≡ true
all_zeros zero = refl
all_zeros (suc n) = all_zeros n

pub filled_filled : (P : ℕ → Bool) → P 0 ≡ false → (width : ℕ) (name : List ℕ) → list_all P name ≡ true → is_filled (filled width name) ≡ true
filled_filled P none width name all = by name (width - length name) all where
  by : (name : List ℕ) (n : ℕ) → list_all P name ≡ true → is_filled (name ++ replicate n 0) ≡ true
  by [] zero all = refl
  by [] (suc n) all = all_zeros n
  by (zero ∷ bs) n all = let first = (and_parts (P 0) (list_all P bs) all).0 in absurd cc
  by (suc b ∷ bs) n all = rw (ne_eqb (suc b) 0 (λ e. omega (arith, e))) (by bs n (and_parts (P (suc b)) (list_all P bs) all).1)

zeros_bytes : (n : ℕ) → Bytes (replicate n 0)
zeros_bytes zero = tt
zeros_bytes (suc n) = (omega arith, zeros_bytes n)

bytes_of_both : (a b : List ℕ) → Bytes a → Bytes b → Bytes (a ++ b)
bytes_of_both [] b h k = k
bytes_of_both (x ∷ a) b h k = (h.0, bytes_of_both a b h.1 k)

pub bytes_filled : (width : ℕ) (name : List ℕ) → Bytes name → Bytes (filled width name)
bytes_filled width name h = bytes_of_both name (replicate (width - length name) 0) h (zeros_bytes (width - length name))

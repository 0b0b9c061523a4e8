-- Bytes as a list of numbers of one byte; constant bytes, one by one; and what is said of whole texts.
use Rattle.std.proofs.{Common.{◌≡◌, ◌<◌, ◌≤◌, ℕ, zero, suc, false, List, [], ◌∷◌, ◌++◌, length, take, drop, get_or, Result, Ok, Err, refl, sym, ap, subst, ◌∙◌, arith}, lemmas.Bool.le-ltb, Math.Nat.mod-eq_of_lt}
use Rattle.std.specs.{Prelude.{nat_lt, map, IfOk, IfErr}, List.{flat_map, AllByRecursion}}
use Rattle.byteorder.specs.Endian.{big_number}
use Rattle.pf_form.specs.declared.{bytes.fault.Fault.Fault, bytes.fault.Fault.TheVariants.Short, bytes.fault.Undecoded.Undecoded}
use Rattle.pf_form.specs.{Bytes.BasicForms.{Bytes, number_at, number_bytes, times_by, constant_at, onto_each}, Bytes.Forms.{Shape, Value, ByteForm, Spells, number, times, onto}, Bytes.Readers.{GivesAll, IfFault, Refused, read_all}, Laws.Bytes.Onto.onto_is, Laws.Bytes.Texts.{found, only, refused}}
use Rattle.pf_form.specs.declared.bytes.fault.Undecoded.TheVariants as undecoded

-- ---- bytes

one_byte : (b : ℕ) (bytes : List ℕ) → number_at 1 (b ∷ bytes) ≡ Ok (b, bytes)
one_byte b bytes =
    let enough : nat_lt (length (b ∷ bytes)) 1 ≡ false = le-ltb (length (b ∷ bytes)) 1 (omega arith) in
    let value : big_number 1 (b ∷ bytes) ≡ b = omega arith in
    rw (enough, value) refl

pub bytes_at : (n : ℕ) (bytes : List ℕ) → n ≤ length bytes → times_by n (number_at 1) bytes ≡ Ok (take n bytes, drop n bytes)
bytes_at zero bytes le = refl
bytes_at (suc n) [] le = absurd (omega (arith, le))
bytes_at (suc n) (b ∷ bytes) le = rw (one_byte b bytes, bytes_at n bytes (omega (arith, le))) refl

pub bytes_short : (n : ℕ) (bytes : List ℕ) → length bytes < n → times_by n (number_at 1) bytes ≡ Err Short
bytes_short zero bytes lt = absurd (omega (arith, lt))
bytes_short (suc n) [] lt = refl
bytes_short (suc n) (b ∷ bytes) lt = rw (one_byte b bytes, bytes_short n bytes (omega (arith, lt))) refl

pub written_bytes : (bytes : List ℕ) → Bytes bytes → flat_map (number_bytes 1) bytes ≡ bytes
unfolding number_bytes
written_bytes [] h = refl
written_bytes (b ∷ bytes) h = rw (written_bytes bytes h.1, mod-eq_of_lt h.0) refl

pub pushed_bytes : (bytes out : List ℕ) → Bytes bytes → onto_each (onto (number 1)) bytes out ≡ out ++ bytes
pushed_bytes bytes out h = onto_is (times (length bytes) (number 1)) bytes out ∙ ap (λ (m : List ℕ). out ++ m) (written_bytes bytes h)

-- ---- constants

pub none_left : (k : List ℕ) (i : ℕ) (bytes : List ℕ) → i < length k → length bytes < 1 → constant_at (drop i k) bytes ≡ Err Short
none_left [] i bytes lt few = absurd (omega (arith, lt))
none_left (x ∷ k) i (b ∷ bytes) lt few = absurd (omega (arith, few))
none_left (x ∷ k) zero [] lt few = refl
none_left (x ∷ k) (suc i) [] lt few = none_left k i [] (omega (arith, lt)) few

-- ---- lists

pub item_fits : {X A : Type 0} (P : A → Type 0) (view : X → A) (xs : List X) (i : ℕ) (x : X) → i < length xs → x ≡ get_or xs i x → AllByRecursion P (map view xs) → P (view x)
item_fits P view [] i x lt e all = absurd (omega (arith, lt))
item_fits P view (y ∷ xs) zero x lt e all = subst (λ z. P (view z)) (sym e) all.0
item_fits P view (y ∷ xs) (suc i) x lt e all = item_fits P view xs i x (omega (arith, lt)) e all.1

-- ---- whole texts

module _ {X : Type 0} {a : Shape} (f : ByteForm a) (view : X → Value a) (bytes : List ℕ) where
  pub is_found : (r : Result X Undecoded) → Bytes bytes → GivesAll view r (read_all f bytes) → IfOk r (λ x. Spells f (view x) bytes)
  is_found (Ok x) h e = found f bytes (view x) h e
  is_found (Err s) h e = tt

  pub is_only : (r : Result X Undecoded) (x : Value a) → Spells f x bytes → GivesAll view r (read_all f bytes) → GivesAll view r (Ok x)
  is_only r x s e = subst (λ (q : Result (Value a) Fault). GivesAll view r q) (only f bytes x s) e

  pub is_refused : (r : Result X Undecoded) → Bytes bytes → GivesAll view r (read_all f bytes) → IfErr r (λ e. IfFault e (Refused f bytes))
  is_refused (Ok x) h e = tt
  is_refused (Err undecoded.Memory) h e = tt
  is_refused (Err (undecoded.Fault d)) h e = refused f bytes d h e

-- Steps of the laws: answers, tests, and lists of bytes.
use Rattle.std.proofs.{Common.{◌≡◌, ◌==◌, ◌<◌, ℕ, zero, suc, Bool, true, false, List, [], ◌∷◌, ◌++◌, get_or, Result, Ok, Err, ◌⊎◌, inl, inr, refl, ap, subst, arith}, lemmas.Bool.eq-eqb}
use Rattle.std.specs.Prelude.{not, if◌then◌else◌}
use Rattle.pf_form.specs.declared.{bytes.fault.Fault.Fault, bytes.fault.Fault.TheVariants.Bad}
use Rattle.pf_form.specs.Bytes.BasicForms.{◌>>=◌, Read, Bytes}

-- ---- answers

pub bind_ok : {A B : Type 0} (r : Result A Fault) (f : A → Result B Fault) (y : B) → (r >>= f) ≡ Ok y → (x : A) × (r ≡ Ok x) × (f x ≡ Ok y)
bind_ok (Ok x) f y e = (x, refl, e)
bind_ok (Err d) f y e = absurd cc

pub bind_err : {A B : Type 0} (r : Result A Fault) (f : A → Result B Fault) (d : Fault) → (r >>= f) ≡ Err d → (r ≡ Err d) ⊎ ((x : A) × (r ≡ Ok x) × (f x ≡ Err d))
bind_err (Ok x) f d e = inr (x, refl, e)
bind_err (Err c) f d e = inl cc

-- an answer, and the bytes that are left
abbrev pub leaves : {A : Type 0} → A → List ℕ → Read A
leaves x bytes = Ok (x, bytes)

pub ok_is : {A : Type 0} (x y : A) (a b : List ℕ) → leaves x a ≡ leaves y b → (x ≡ y) × (a ≡ b)
ok_is x y a b e = let p : (x, a) ≡ (y, b) = cc in (ap (λ (q : _ × List ℕ). q.0) p, ap (λ (q : _ × List ℕ). q.1) p)

-- a value seen as another
pub seen_ok : {A B : Type 0} (view : A → B) (r : Read A) (y : B) (rest : List ℕ) → (r >>= λ x. leaves (view x.0) x.1) ≡ leaves y rest → (x : A) × (r ≡ leaves x rest) × (view x ≡ y)
seen_ok {A = A} view (Ok x) y rest e = let g = ok_is (view x.0) y x.1 rest e in (x.0, ap (λ (m : List ℕ). leaves x.0 m) g.1, g.0)
seen_ok view (Err d) y rest e = absurd cc

pub seen_err : {A B : Type 0} (view : A → B) (r : Read A) (d : Fault) → (r >>= λ x. leaves (view x.0) x.1) ≡ Err d → r ≡ Err d
seen_err view (Ok x) d e = absurd cc
seen_err view (Err c) d e = let same : c ≡ d = cc in ap (λ (f : Fault). Err f) same

-- a choice
pub chosen : {X : Type 0} (t : Bool) (a b y : X) → (if t then a else b) ≡ y → ((t ≡ true) × (a ≡ y)) ⊎ ((t ≡ false) × (b ≡ y))
chosen true a b y e = inl (refl, e)
chosen false a b y e = inr (refl, e)

pub bad_is : (m n : ℕ) → Bad m ≡ Bad n → m ≡ n
bad_is m n e = cc

-- ---- tests

pub eqb_same : (k : ℕ) → (k == k) ≡ true
eqb_same k = eq-eqb k k refl

pub is_false : (t : Bool) → not t ≡ true → t ≡ false
is_false true e = absurd cc
is_false false e = refl

pub is_other : (t : Bool) → t ≡ false → not t ≡ true
is_other true e = absurd cc
is_other false e = refl

-- ---- bytes

pub bytes_of_rest : (a b : List ℕ) → Bytes (a ++ b) → Bytes b
bytes_of_rest [] b h = h
bytes_of_rest (x ∷ a) b h = bytes_of_rest a b h.1

pub bytes_front : (a b : List ℕ) → Bytes (a ++ b) → Bytes a
bytes_front [] b h = tt
bytes_front (x ∷ a) b h = (h.0, bytes_front a b h.1)

pub bytes_after : (bytes a b : List ℕ) → bytes ≡ a ++ b → Bytes bytes → Bytes b
bytes_after bytes a b e h = bytes_of_rest a b (subst Bytes e h)

-- from bytes by their places
pub bytes_of : (bytes : List ℕ) → ((i : ℕ) → get_or bytes i 0 < 256) → Bytes bytes
bytes_of [] h = tt
bytes_of (b ∷ bytes) h = (h 0, bytes_of bytes (λ i. h (suc i)))

pub byte_at_place : (bytes : List ℕ) → Bytes bytes → (i : ℕ) → get_or bytes i 0 < 256
byte_at_place [] h i = omega arith
byte_at_place (b ∷ bytes) h zero = h.0
byte_at_place (b ∷ bytes) h (suc i) = byte_at_place bytes h.1 i

-- Where one text and the next go on past a front: the front ends within the first, or within the next.
abbrev pub Cut : List ℕ → List ℕ → List ℕ → ℕ → List ℕ → Type 0
Cut a c front b more = ((d : ℕ) × (m : List ℕ) × (a ≡ front ++ d ∷ m)) ⊎ ((f : List ℕ) × (front ≡ a ++ f) × (c ≡ f ++ b ∷ more))

pub cut : (a c front : List ℕ) (b : ℕ) (more : List ℕ) → a ++ c ≡ front ++ b ∷ more → Cut a c front b more
cut [] c front b more e = inr (front, refl, e)
cut (x ∷ a) c [] b more e = inl (x, a, refl)
cut (x ∷ a) c (y ∷ front) b more e =
    let same : x ≡ y = cc in
    elim (cut a c front b more cc) [
      | inl (d, m, g) ↦ inl (d, m, rw (same, g) refl)
      | inr (f, g, h) ↦ inr (f, rw (same, g) refl, h)
    ]

-- Whole texts: what is read is the value that they spell, and what is refused is refused for one reason.
use Rattle.std.proofs.{Common.{◌≡◌, ◌<◌, ◌+◌, ℕ, List, [], ◌∷◌, ◌++◌, length, Result, Ok, Err, inl, inr, refl, sym, ap, subst, ◌∙◌, append_assoc, arith}, lemmas.List.{append-nil, length-append}}
use Rattle.pf_form.specs.declared.{bytes.fault.Fault.Fault, bytes.fault.Fault.TheVariants.{Short, Bad}}
use Rattle.pf_form.specs.{Bytes.BasicForms.{Read, ◌>>=◌, Bytes}, Bytes.Forms.{Shape, Value, ByteForm, Spells, reads, writes}, Bytes.Readers.{end_at, ended, read_all, GoesWrong, GoesOn, Refused}, Laws.Bytes.Steps.{bind_ok, bind_err}, Laws.Bytes.Forms.lawful}

at_end : {A : Type 0} (x y : A) (rest : List ℕ) → (end_at rest >>= λ u. Ok x) ≡ Ok y → (rest ≡ []) × (x ≡ y)
at_end x y [] e = (refl, cc)
at_end x y (b ∷ rest) e = absurd cc

not_at_end : {A : Type 0} (x : A) (rest : List ℕ) (d : Fault) → (end_at rest >>= λ u. Ok x) ≡ Err d → (d ≡ Bad (length rest)) × (0 < length rest)
not_at_end x [] d e = absurd cc
not_at_end x (b ∷ rest) d e = (cc, omega arith)

going_on : {A : Type 0} (x : A) (rest : List ℕ) → 0 < length rest → (end_at rest >>= λ u. Ok x) ≡ Err (Bad (length rest))
going_on x [] lt = absurd (omega (arith, lt))
going_on x (b ∷ rest) lt = refl

module _ {a : Shape} (f : ByteForm a) where
  pub found : (bytes : List ℕ) (x : Value a) → Bytes bytes → read_all f bytes ≡ Ok x → Spells f x bytes
  found bytes x h e =
      let y = bind_ok (reads f bytes) ended x e in
      let is = at_end y.0.0 x y.0.1 y.2 in
      let t = (lawful f).takes bytes y.0.0 y.0.1 h y.1 in
      subst (λ (z : Value a). Spells f z bytes) is.1 (record { fits = t.0; written = t.1 ∙ ap (λ (m : List ℕ). writes f y.0.0 ++ m) is.0 ∙ append-nil (writes f y.0.0) })

  pub only : (bytes : List ℕ) (x : Value a) → Spells f x bytes → read_all f bytes ≡ Ok x
  only bytes x s =
      let whole : bytes ≡ writes f x ++ [] = s.written ∙ sym (append-nil (writes f x)) in
      rw (whole, (lawful f).again x [] s.fits) refl

  -- one value's bytes are no other's
  pub one_value : (bytes : List ℕ) (x y : Value a) → Spells f x bytes → Spells f y bytes → x ≡ y
  one_value bytes x y s t = let e : ◌≡◌ {A = Result (Value a) Fault} (Ok x) (Ok y) = sym (only bytes x s) ∙ only bytes y t in cc

  pub refused : (bytes : List ℕ) (d : Fault) → Bytes bytes → read_all f bytes ≡ Err d → Refused f bytes d
  refused bytes d h e = elim (bind_err (reads f bytes) ended d e) [
    | inl g ↦ by d g
    | inr (x, g, k) ↦
        let is = not_at_end x.0 x.1 d k in
        let t = (lawful f).takes bytes x.0 x.1 h g in
        subst (Refused f bytes) (sym is.0) (inr (is.1, (x.0, x.1, t.0, t.1, refl)))
  ] where
    by : (d : Fault) → reads f bytes ≡ Err d → Refused f bytes d
    by Short g = (
      λ left (x, rest, fits, is, l). let e = (lawful f).again x rest fits in let same = ap (reads f) is in cc,
      λ left (before, rest, is, l, wrong). let e = (lawful f).faulty before rest wrong in let same = ap (reads f) is in cc,
    )
    by (Bad left) g = inl ((lawful f).stops bytes left h g)

  wrong_only : (bytes : List ℕ) (left : ℕ) → GoesWrong f bytes left → read_all f bytes ≡ Err (Bad left)
  wrong_only bytes left (before, rest, is, l, wrong) = rw (is, (lawful f).faulty before rest wrong, l) refl

  on_only : (bytes : List ℕ) (left : ℕ) → 0 < left → GoesOn f bytes left → read_all f bytes ≡ Err (Bad left)
  on_only bytes left lt (x, rest, fits, is, l) = rw (is, (lawful f).again x rest fits) (going_on x rest (omega (arith, lt, l)) ∙ ap (λ (n : ℕ). Err (Bad n)) l)

  -- they are refused for this reason exactly where it is one
  pub refused_only : (bytes : List ℕ) (d : Fault) → Bytes bytes → Refused f bytes d → read_all f bytes ≡ Err d
  refused_only bytes (Bad left) h (inl g) = wrong_only bytes left g
  refused_only bytes (Bad left) h (inr (lt, g)) = on_only bytes left lt g
  refused_only bytes Short h (on, wrong) = by (reads f bytes) refl where
    by : (r : Read (Value a)) → reads f bytes ≡ r → (r >>= ended) ≡ Err Short
    by (Ok x) e = let t = (lawful f).takes bytes x.0 x.1 h e in absurd (on (length x.1) (x.0, x.1, t.0, t.1, refl))
    by (Err Short) e = refl
    by (Err (Bad left)) e = absurd (wrong left ((lawful f).stops bytes left h e))

  pub one_refusal : (bytes : List ℕ) (d e : Fault) → Bytes bytes → Refused f bytes d → Refused f bytes e → d ≡ e
  one_refusal bytes d e h s t = let same : ◌≡◌ {A = Result (Value a) Fault} (Err d) (Err e) = sym (refused_only bytes d h s) ∙ refused_only bytes e h t in cc

  -- and whatever comes after the bytes, they go wrong where they did
  pub wrong_stays : (bytes : List ℕ) (left : ℕ) (more : List ℕ) → GoesWrong f bytes left → GoesWrong f (bytes ++ more) (length more + left)
  wrong_stays bytes left more (before, rest, is, l, wrong) = (before, rest ++ more, ap (λ (m : List ℕ). m ++ more) is ∙ append_assoc before rest more, omega (arith, length-append rest more, l), (lawful f).stays before rest more wrong)

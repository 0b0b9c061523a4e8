-- The laws of one part and the next, joined; and of a list of so many.
use Rattle.std.proofs.{Common.{◌≡◌, ℕ, zero, suc, List, [], ◌∷◌, ◌++◌, length, Ok, Err, inl, inr, refl, sym, ap, subst, ◌∙◌, append_assoc, arith}, lemmas.List.length-append}
use Rattle.std.specs.List.{flat_map, AllByRecursion}
use Rattle.pf_form.specs.declared.bytes.fault.Fault.TheVariants.{Short, Bad}
use Rattle.pf_form.specs.{Bytes.BasicForms.{Read, Reader, ◌>>=◌, Bytes, Laws, Faulting, JoinedFaults, joined, times_by, TimesFaults}, Laws.Bytes.Steps.{bind_ok, bind_err, seen_ok, seen_err, bytes_after, cut, leaves, ok_is}}

-- A value of both is one of the first and one of the next, and so are its bytes.
pub record Joins {A B C : Type 0} (join : A → B → C) (write : A → List ℕ) (fits : A → Type 0) (write' : A → B → List ℕ) (fits' : A → B → Type 0) (writes : C → List ℕ) (fitting : C → Type 0) (z : C) : Type 0 where
  pub first : A
  pub next : B
  pub fits_first : fits first
  pub fits_next : fits' first next
  pub is : join first next ≡ z
  pub bytes : writes z ≡ write first ++ write' first next

module _ (A B C : Type 0) (join : A → B → C)
    (read : Reader A) (write : A → List ℕ) (fits : A → Type 0) (faults : Faulting)
    (read' : A → Reader B) (write' : A → B → List ℕ) (fits' : A → B → Type 0) (faults' : A → Faulting)
    (writes : C → List ℕ) (fitting : C → Type 0)
    (p : Laws A read write fits faults) (q : (x : A) → Laws B (read' x) (write' x) (fits' x) (faults' x))
    (split : (z : C) → fitting z → Joins join write fits write' fits' writes fitting z)
    (made : (x : A) (y : B) → fits x → fits' x y → fitting (join x y) × (writes (join x y) ≡ write x ++ write' x y)) where
  abbrev with_next : A × List ℕ → Read C
  with_next x = read' x.0 x.1 >>= λ y. Ok (join x.0 y.0, y.1)

  abbrev both : Reader C
  both = joined join read read'

  abbrev both_faults : Faulting
  both_faults = JoinedFaults write fits faults faults'

  both_again : (z : C) (rest : List ℕ) → fitting z → both (writes z ++ rest) ≡ Ok (z, rest)
  both_again z rest h =
      let s = split z h in
      rw (s.bytes, append_assoc (write s.first) (write' s.first s.next) rest, p.again s.first (write' s.first s.next ++ rest) s.fits_first, (q s.first).again s.next rest s.fits_next) (ap (λ (c : C). leaves c rest) s.is)

  both_takes : (bytes : List ℕ) (z : C) (rest : List ℕ) → Bytes bytes → both bytes ≡ Ok (z, rest) → fitting z × (bytes ≡ writes z ++ rest)
  both_takes bytes z rest h e =
      let x = bind_ok (read bytes) with_next (z, rest) e in
      let y = seen_ok (λ (y : B). join x.0.0 y) (read' x.0.0 x.0.1) z rest x.2 in
      let first = p.takes bytes x.0.0 x.0.1 h x.1 in
      let second = (q x.0.0).takes x.0.1 y.0 rest (bytes_after bytes (write x.0.0) x.0.1 first.1 h) y.1 in
      let whole = made x.0.0 y.0 first.0 second.0 in
      let parts : bytes ≡ writes (join x.0.0 y.0) ++ rest =
      first.1 ∙ ap (λ (m : List ℕ). write x.0.0 ++ m) second.1 ∙ sym (append_assoc (write x.0.0) (write' x.0.0 y.0) rest) ∙ ap (λ (m : List ℕ). m ++ rest) (sym whole.1) in
      subst (λ (c : C). fitting c × (bytes ≡ writes c ++ rest)) y.2 (whole.0, parts)

  both_short : (z : C) (front : List ℕ) (b : ℕ) (more : List ℕ) → fitting z → writes z ≡ front ++ b ∷ more → both front ≡ Err Short
  both_short z front b more h e =
      let s = split z h in
      elim (cut (write s.first) (write' s.first s.next) front b more (sym s.bytes ∙ e)) [
        | inl (d, m, g) ↦ rw (p.short s.first front d m s.fits_first g) refl
        | inr (f, g, k) ↦ rw (g, p.again s.first f s.fits_first, (q s.first).short s.next f b more s.fits_next k) refl
      ]

  both_faulty : (before rest : List ℕ) → both_faults before rest → both (before ++ rest) ≡ Err (Bad (length rest))
  both_faulty before rest (inl h) = rw (p.faulty before rest h) refl
  both_faulty before rest (inr (x, m, h, e, g)) = rw (e, append_assoc (write x) m rest, p.again x (m ++ rest) h, (q x).faulty m rest g) refl

  abbrev Stopping : List ℕ → ℕ → Type 0
  Stopping bytes left = (before rest : List ℕ) × (bytes ≡ before ++ rest) × (length rest ≡ left) × both_faults before rest

  both_stops : (bytes : List ℕ) (left : ℕ) → Bytes bytes → both bytes ≡ Err (Bad left) → Stopping bytes left
  both_stops bytes left h e = elim (bind_err (read bytes) with_next (Bad left) e) [
    | inl g ↦ let s = p.stops bytes left h g in (s.0, s.1, s.2, s.3, inl s.4)
    | inr (x, g, k) ↦
        let first = p.takes bytes x.0 x.1 h g in
        let s = (q x.0).stops x.1 left (bytes_after bytes (write x.0) x.1 first.1 h) (seen_err (λ (y : B). join x.0 y) (read' x.0 x.1) (Bad left) k) in
        (write x.0 ++ s.0, s.1, first.1 ∙ ap (λ (m : List ℕ). write x.0 ++ m) s.2 ∙ sym (append_assoc (write x.0) s.0 s.1), s.3, inr (x.0, s.0, first.0, refl, s.4))
  ]

  both_stays : (before rest more : List ℕ) → both_faults before rest → both_faults before (rest ++ more)
  both_stays before rest more (inl h) = inl (p.stays before rest more h)
  both_stays before rest more (inr (x, m, h, e, g)) = inr (x, m, h, e, (q x).stays m rest more g)

  pub joined_laws : Laws C both writes fitting both_faults
  joined_laws = record { again = both_again; takes = both_takes; short = both_short; faulty = both_faulty; stops = both_stops; stays = both_stays }

-- ---- so many, one after the other

module _ (A : Type 0) (read : Reader A) (write : A → List ℕ) (fits : A → Type 0) (faults : Faulting) (p : Laws A read write fits faults) where
  abbrev AreItems : ℕ → List A → Type 0
  AreItems n xs = (length xs ≡ n) × AllByRecursion fits xs

  split_items : (n : ℕ) (xs : List A) → AreItems (suc n) xs → Joins (λ x ys. x ∷ ys) write fits (λ x. flat_map write) (λ x. AreItems n) (flat_map write) (AreItems (suc n)) xs
  split_items n [] h = absurd (omega (arith, h.0))
  split_items n (x ∷ xs) h = record { first = x; next = xs; fits_first = h.1.0; fits_next = (omega (arith, h.0), h.1.1); is = refl; bytes = refl }

  none_again : (xs : List A) (rest : List ℕ) → AreItems zero xs → times_by zero read (flat_map write xs ++ rest) ≡ Ok (xs, rest)
  none_again [] rest h = refl
  none_again (x ∷ xs) rest h = absurd (omega (arith, h.0))

  none_taken : (bytes : List ℕ) (xs : List A) (rest : List ℕ) → times_by zero read bytes ≡ Ok (xs, rest) → AreItems zero xs × (bytes ≡ flat_map write xs ++ rest)
  none_taken bytes xs rest e =
      let g = ok_is [] xs bytes rest e in
      subst (λ (ys : List A). AreItems zero ys × (bytes ≡ flat_map write ys ++ rest)) g.0 ((refl, tt), g.1)

  none_short : (xs : List A) (front : List ℕ) (b : ℕ) (more : List ℕ) → AreItems zero xs → flat_map write xs ≡ front ++ b ∷ more → times_by zero read front ≡ Err Short
  none_short [] front b more h e = absurd (omega (arith, ap length e, length-append front (b ∷ more)))
  none_short (x ∷ xs) front b more h e = absurd (omega (arith, h.0))

  no_items : Laws (List A) (times_by zero read) (flat_map write) (AreItems zero) (TimesFaults zero write fits faults)
  no_items = record {
    again = none_again;
    takes = λ bytes xs rest h e. none_taken bytes xs rest e;
    short = none_short;
    faulty = λ before rest h. absurd h;
    stops = λ bytes left h e. absurd cc;
    stays = λ before rest more h. absurd h;
  }

  pub items_laws : (n : ℕ) → Laws (List A) (times_by n read) (flat_map write) (AreItems n) (TimesFaults n write fits faults)
  items_laws zero = no_items
  items_laws (suc n) = joined_laws A (List A) (List A) (λ x ys. x ∷ ys) read write fits faults (λ x. times_by n read) (λ x. flat_map write) (λ x. AreItems n) (λ x. TimesFaults n write fits faults) (flat_map write) (AreItems (suc n)) p (λ x. items_laws n) (split_items n) (λ x ys h k. ((omega (arith, k.0), (h, k.1)), refl))

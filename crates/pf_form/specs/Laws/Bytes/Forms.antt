-- The laws of every form, by induction over forms.
use Rattle.std.proofs.{Common.{◌≡◌, ◌==◌, ◌<◌, ◌^◌, ℕ, Bool, true, false, List, [], ◌∷◌, ◌++◌, length, Ok, Err, ◌⊎◌, inl, inr, refl, sym, ap, subst, ◌∙◌, append_assoc}, lemmas.Bool.eqb-true}
use Rattle.std.specs.{Prelude.if◌then◌else◌, List.{flat_map, AllByRecursion}}
use Rattle.pf_form.specs.declared.bytes.fault.Fault.TheVariants.{Short, Bad}
use Rattle.pf_form.specs.{Bytes.BasicForms.{Read, Reader, Bytes, Laws, Faulting, Differs, TimesFaults, ThatFaults, number_at, number_bytes, constant_at, times_by, is_next, seen_as, only_if, begins_otherwise}, Bytes.Forms.{Shape, either, Value, ByteForm, nothing, number, part, front, back, or, pair_by, times, counted, that, reads, writes, Fits, Faults}, Laws.Bytes.Steps.{bind_ok, bind_err, ok_is, seen_ok, seen_err, chosen, bad_is, eqb_same, is_false, is_other, leaves, bytes_after}, Laws.Bytes.BasicForms.{nothing_laws, number_laws, constant_laws}, Laws.Bytes.Joined.{joined_laws, items_laws}}

abbrev pub Lawful : {a : Shape} → ByteForm a → Type 0
Lawful {a = a} f = Laws (Value a) (reads f) (writes f) (Fits f) (Faults f)

-- ---- a property

module _ (A : Type 0) (test : A → Bool) (read : Reader A) (write : A → List ℕ) (fits : A → Type 0) (faults : Faulting) (p : Laws A read write fits faults) where
  abbrev if_so : List ℕ → A × List ℕ → Read A
  if_so bytes x = if test x.0 then Ok (x.0, x.1) else Err (Bad (length bytes))

  abbrev fits_so : A → Type 0
  fits_so x = fits x × (test x ≡ true)

  that_takes : (bytes : List ℕ) (x : A) (rest : List ℕ) → Bytes bytes → only_if test read bytes ≡ Ok (x, rest) → fits_so x × (bytes ≡ write x ++ rest)
  that_takes bytes x rest h e =
      let y = bind_ok (read bytes) (if_so bytes) (x, rest) e in
      elim (chosen (test y.0.0) (leaves y.0.0 y.0.1) (Err (Bad (length bytes))) (Ok (x, rest)) y.2) [
        | inl g ↦
            let is = ok_is y.0.0 x y.0.1 rest g.1 in
            let first = p.takes bytes y.0.0 y.0.1 h y.1 in
            (subst fits_so is.0 (first.0, g.0), first.1 ∙ ap (λ (z : A). write z ++ y.0.1) is.0 ∙ ap (λ (m : List ℕ). write x ++ m) is.1)
        | inr g ↦ absurd (let wrong = g.1 in cc)
      ]

  that_faulty : (before rest : List ℕ) → ThatFaults test write fits faults before rest → only_if test read (before ++ rest) ≡ Err (Bad (length rest))
  that_faulty before rest (inl h) = rw (p.faulty before rest h) refl
  that_faulty before rest (inr (e, x, m, h, t, r)) = rw (e, r, p.again x m h, t) refl

  that_stops : (bytes : List ℕ) (left : ℕ) → Bytes bytes → only_if test read bytes ≡ Err (Bad left) → (before rest : List ℕ) × (bytes ≡ before ++ rest) × (length rest ≡ left) × ThatFaults test write fits faults before rest
  that_stops bytes left h e = elim (bind_err (read bytes) (if_so bytes) (Bad left) e) [
    | inl g ↦ let s = p.stops bytes left h g in (s.0, s.1, s.2, s.3, inl s.4)
    | inr (y, g, k) ↦ elim (chosen (test y.0) (leaves y.0 y.1) (Err (Bad (length bytes))) (Err (Bad left)) k) [
      | inl w ↦ absurd (let wrong = w.1 in cc)
      | inr w ↦
          let first = p.takes bytes y.0 y.1 h g in
          ([], bytes, refl, (let same = w.1 in bad_is (length bytes) left cc), inr (refl, y.0, y.1, first.0, w.0, first.1))
    ]
  ]

  that_stays : (before rest more : List ℕ) → ThatFaults test write fits faults before rest → ThatFaults test write fits faults before (rest ++ more)
  that_stays before rest more (inl h) = inl (p.stays before rest more h)
  that_stays before rest more (inr (e, x, m, h, t, r)) = inr (e, x, m ++ more, h, t, ap (λ (l : List ℕ). l ++ more) r ∙ append_assoc (write x) m more)

  that_laws : Laws A (only_if test read) write fits_so (ThatFaults test write fits faults)
  that_laws = record {
    again = λ x rest h. rw (p.again x rest h.0, h.1) refl;
    takes = that_takes;
    short = λ x front b more h e. rw (p.short x front b more h.0 e) refl;
    faulty = that_faulty;
    stops = that_stops;
    stays = that_stays;
  }

-- ---- a choice by a byte

otherwise_next : (k : ℕ) (bytes rest : List ℕ) → begins_otherwise k bytes ≡ true → is_next k (bytes ++ rest) ≡ Ok (false, bytes ++ rest)
otherwise_next k [] rest o = absurd cc
otherwise_next k (c ∷ bytes) rest o = rw (is_false (c == k) o) refl

otherwise_on : (k : ℕ) (bytes rest : List ℕ) → begins_otherwise k bytes ≡ true → begins_otherwise k (bytes ++ rest) ≡ true
otherwise_on k [] rest o = absurd cc
otherwise_on k (c ∷ bytes) rest o = o

here_next : (k : ℕ) (bytes : List ℕ) → is_next k (k ∷ bytes) ≡ Ok (true, bytes)
here_next k bytes = rw (eqb_same k) refl

-- what the first byte says
abbrev Next : ℕ → List ℕ → Bool → List ℕ → Type 0
Next k bytes true rest = bytes ≡ k ∷ rest
Next k bytes false rest = (bytes ≡ rest) × (begins_otherwise k bytes ≡ true)

next_is : (k : ℕ) (bytes : List ℕ) (t : Bool) (rest : List ℕ) → is_next k bytes ≡ Ok (t, rest) → Next k bytes t rest
next_is k [] t rest e = absurd cc
next_is k (b ∷ bytes) t rest e = elim (chosen (b == k) (leaves true bytes) (leaves false (b ∷ bytes)) (Ok (t, rest)) e) [
  | inl g ↦ let is = ok_is true t bytes rest g.1 in subst (λ (s : Bool). Next k (b ∷ bytes) s rest) is.0 (rw (eqb-true b k g.0, is.1) refl)
  | inr g ↦ let is = ok_is false t (b ∷ bytes) rest g.1 in subst (λ (s : Bool). Next k (b ∷ bytes) s rest) is.0 (is.1, is_other (b == k) g.0)
]

next_no_fault : (k : ℕ) (bytes : List ℕ) (left : ℕ) → is_next k bytes ≡ Err (Bad left) → ⊥
next_no_fault k [] left e = cc
next_no_fault k (b ∷ bytes) left e = elim (chosen (b == k) (leaves true bytes) (leaves false (b ∷ bytes)) (Err (Bad left)) e) [
  | inl g ↦ let wrong = g.1 in cc
  | inr g ↦ let wrong = g.1 in cc
]

module _ {a b : Shape} (k : ℕ) (f : ByteForm a) (g : ByteForm b) (p : Lawful f) (q : Laws (Value b) (only_if (λ y. begins_otherwise k (writes g y)) (reads g)) (writes g) (λ y. Fits g y × (begins_otherwise k (writes g y) ≡ true)) (ThatFaults (λ y. begins_otherwise k (writes g y)) (writes g) (Fits g) (Faults g))) where
  abbrev Choice : Type 0
  Choice = Value a ⊎ Value b

  abbrev test : Value b → Bool
  test y = begins_otherwise k (writes g y)

  abbrev chosen_form : ByteForm (either a b)
  chosen_form = or k f g

  abbrev pick : Bool × List ℕ → Read Choice
  pick t = if t.0 then seen_as inl (reads f) t.1 else seen_as inr (only_if test (reads g)) t.1

  choice_again : (z : Choice) (rest : List ℕ) → Fits chosen_form z → reads chosen_form (writes chosen_form z ++ rest) ≡ Ok (z, rest)
  choice_again (inl x) rest h = rw (here_next k (writes f x ++ rest), p.again x rest h) refl
  choice_again (inr y) rest h = rw (otherwise_next k (writes g y) rest h.1, q.again y rest h) refl

  abbrev Taken : List ℕ → Choice → List ℕ → Type 0
  Taken bytes z rest = Fits chosen_form z × (bytes ≡ writes chosen_form z ++ rest)

  choice_takes : (bytes : List ℕ) (z : Choice) (rest : List ℕ) → Bytes bytes → reads chosen_form bytes ≡ Ok (z, rest) → Taken bytes z rest
  choice_takes bytes z rest h e = let n = bind_ok (is_next k bytes) pick (z, rest) e in by n.0.0 n.0.1 n.1 n.2 where
    by : (t : Bool) (m : List ℕ) → is_next k bytes ≡ Ok (t, m) → pick (t, m) ≡ Ok (z, rest) → Taken bytes z rest
    by true m e c =
        let following : bytes ≡ k ∷ m = next_is k bytes true m e in
        let x = seen_ok {A = Value a} {B = Choice} inl (reads f m) z rest c in
        let first = p.takes m x.0 rest (bytes_after bytes (k ∷ []) m following h) x.1 in
        subst (λ (y : Choice). Taken bytes y rest) x.2 (first.0, following ∙ ap (λ (l : List ℕ). k ∷ l) first.1)
    by false m e c =
        let next = next_is k bytes false m e in
        let y = seen_ok {A = Value b} {B = Choice} inr (only_if test (reads g) m) z rest c in
        let first = q.takes m y.0 rest (bytes_after bytes [] m next.0 h) y.1 in
        subst (λ (y : Choice). Taken bytes y rest) y.2 (first.0, next.0 ∙ first.1)

  choice_short : (z : Choice) (start : List ℕ) (c : ℕ) (more : List ℕ) → Fits chosen_form z → writes chosen_form z ≡ start ++ c ∷ more → reads chosen_form start ≡ Err Short
  choice_short z [] c more h e = refl
  choice_short (inl x) (d ∷ start) c more h e =
      let same : k ≡ d = cc in
      let rest : writes f x ≡ start ++ c ∷ more = cc in
      rw (sym same, here_next k start, p.short x start c more h rest) refl
  choice_short (inr y) (d ∷ start) c more h e =
      let first : begins_otherwise k (d ∷ start) ≡ true = subst (λ (l : List ℕ). begins_otherwise k l ≡ true) e h.1 in
      rw (is_false (d == k) first, q.short y (d ∷ start) c more h e) refl

  abbrev ChoiceFaults : List ℕ → List ℕ → Type 0
  ChoiceFaults = Faults chosen_form

  choice_faulty : (before rest : List ℕ) → ChoiceFaults before rest → reads chosen_form (before ++ rest) ≡ Err (Bad (length rest))
  choice_faulty before rest (inl (m, e, h)) = rw (e, here_next k (m ++ rest), p.faulty m rest h) refl
  choice_faulty before rest (inr (o, h)) = rw (whole (before ++ rest) o, q.faulty before rest h) refl where
    whole : (bytes : List ℕ) → begins_otherwise k bytes ≡ true → is_next k bytes ≡ Ok (false, bytes)
    whole [] o = absurd cc
    whole (c ∷ bytes) o = rw (is_false (c == k) o) refl

  choice_stops : (bytes : List ℕ) (left : ℕ) → Bytes bytes → reads chosen_form bytes ≡ Err (Bad left) → (before rest : List ℕ) × (bytes ≡ before ++ rest) × (length rest ≡ left) × ChoiceFaults before rest
  choice_stops bytes left h e = elim (bind_err (is_next k bytes) pick (Bad left) e) [
    | inl g ↦ absurd (next_no_fault k bytes left g)
    | inr (n, g, c) ↦ by n.0 n.1 g c
  ] where
    by : (t : Bool) (m : List ℕ) → is_next k bytes ≡ Ok (t, m) → pick (t, m) ≡ Err (Bad left) → (before rest : List ℕ) × (bytes ≡ before ++ rest) × (length rest ≡ left) × ChoiceFaults before rest
    by true m e c =
        let following : bytes ≡ k ∷ m = next_is k bytes true m e in
        let s = p.stops m left (bytes_after bytes (k ∷ []) m following h) (seen_err {A = Value a} {B = Choice} inl (reads f m) (Bad left) c) in
        (k ∷ s.0, s.1, following ∙ ap (λ (l : List ℕ). k ∷ l) s.2, s.3, inl (s.0, refl, s.4))
    by false m e c =
        let next = next_is k bytes false m e in
        let s = q.stops m left (bytes_after bytes [] m next.0 h) (seen_err {A = Value b} {B = Choice} inr (only_if test (reads g) m) (Bad left) c) in
        (s.0, s.1, next.0 ∙ s.2, s.3, inr (subst (λ (l : List ℕ). begins_otherwise k l ≡ true) (next.0 ∙ s.2) next.1, s.4))

  choice_stays : (before rest more : List ℕ) → ChoiceFaults before rest → ChoiceFaults before (rest ++ more)
  choice_stays before rest more (inl (m, e, h)) = inl (m, e, p.stays m rest more h)
  choice_stays before rest more (inr (o, h)) = inr (rw (sym (append_assoc before rest more)) (otherwise_on k (before ++ rest) more o), q.stays before rest more h)

  choice_laws : Lawful chosen_form
  choice_laws = record { again = choice_again; takes = choice_takes; short = choice_short; faulty = choice_faulty; stops = choice_stops; stays = choice_stays }

-- ---- every form

abbrev fitting_list : {a : Shape} → ℕ → ByteForm a → List (Value a) → Type 0
fitting_list n f xs = (length xs ≡ n) × AllByRecursion (Fits f) xs

pub lawful : {a : Shape} (f : ByteForm a) → Lawful f
lawful (nothing only) = nothing_laws only
lawful (number w) = number_laws w
lawful (part p) = p.laws
lawful (front {a = a} k f) =
    joined_laws (Unit {0}) (Value a) (Value a) (λ u x. x) (constant_at k) (λ u. k) (λ u. Unit {0}) (Differs k) (λ u. reads f) (λ u. writes f) (λ u. Fits f) (λ u. Faults f) (λ x. k ++ writes f x) (Fits f)
    (constant_laws k) (λ u. lawful f)
    (λ z h. record { first = tt; next = z; fits_first = tt; fits_next = h; is = refl; bytes = refl })
    (λ u x h g. (g, refl))
lawful (back {a = a} f k) =
    joined_laws (Value a) (Unit {0}) (Value a) (λ x u. x) (reads f) (writes f) (Fits f) (Faults f) (λ x. constant_at k) (λ x u. k) (λ x u. Unit {0}) (λ x. Differs k) (λ x. writes f x ++ k) (Fits f)
    (lawful f) (λ x. constant_laws k)
    (λ z h. record { first = z; next = tt; fits_first = h; fits_next = tt; is = refl; bytes = refl })
    (λ x u h g. (h, refl))
lawful (or {b = b} k f g) =
    choice_laws k f g (lawful f) (that_laws (Value b) (λ y. begins_otherwise k (writes g y)) (reads g) (writes g) (Fits g) (Faults g) (lawful g))
lawful (pair_by {a = a} {b = b} f g) =
    joined_laws (Value a) (Value b) (Value a × Value b) (λ x y. (x, y)) (reads f) (writes f) (Fits f) (Faults f) (λ x. reads (g x)) (λ x. writes (g x)) (λ x. Fits (g x)) (λ x. Faults (g x)) (λ z. writes f z.0 ++ writes (g z.0) z.1) (λ z. Fits f z.0 × Fits (g z.0) z.1)
    (lawful f) (λ x. lawful (g x))
    (λ z h. record { first = z.0; next = z.1; fits_first = h.0; fits_next = h.1; is = refl; bytes = refl })
    (λ x y h g. ((h, g), refl))
lawful (times {a = a} n f) = items_laws (Value a) (reads f) (writes f) (Fits f) (Faults f) (lawful f) n
lawful (counted {a = a} w f) =
    joined_laws ℕ (List (Value a)) (List (Value a)) (λ n xs. xs) (number_at w) (number_bytes w) (λ n. n < 256 ^ w) (λ m r. ⊥) (λ n. times_by n (reads f)) (λ n. flat_map (writes f)) (λ n. fitting_list n f) (λ n. TimesFaults n (writes f) (Fits f) (Faults f))
    (λ xs. number_bytes w (length xs) ++ flat_map (writes f) xs) (λ xs. (length xs < 256 ^ w) × AllByRecursion (Fits f) xs)
    (number_laws w) (λ n. items_laws (Value a) (reads f) (writes f) (Fits f) (Faults f) (lawful f) n)
    (λ xs h. record { first = length xs; next = xs; fits_first = h.0; fits_next = (refl, h.1); is = refl; bytes = refl })
    (λ n xs h g. ((subst (λ (m : ℕ). m < 256 ^ w) (sym g.0) h, g.1), ap (λ (m : ℕ). number_bytes w m ++ flat_map (writes f) xs) g.0))
lawful (that {a = a} test f) = that_laws (Value a) test (reads f) (writes f) (Fits f) (Faults f) (lawful f)

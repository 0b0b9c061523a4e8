-- The laws of whole texts: a text is read exactly when the grammar has it, and a refusal is at the place, and of the kind, that the
-- grammar gives.
use Rattle.std.proofs.{Common.{◌≡◌, ℕ, zero, suc, ◌+◌, ◌-◌, ◌<◌, ◌≤◌, true, List, [], ◌∷◌, ◌++◌, length, take, drop, Result, Ok, Err, ◌⊎◌, inl, inr, refl, sym, ap, subst, ◌∙◌, append_assoc, append-nil, arith}, lemmas.List.{length-append, take_at, drop_at}}
use Rattle.pf_form.specs.declared.{form.fault.Kind.Kind, form.fault.Kind.TheVariants.BadWord}
use Rattle.pf_form.specs.{Form.Words.Word, Form.Forms.{Form, Spells, Faults, Grammar, Begins, StopsAt, StandsAt, RefusedAt, reads, ended, read_all, is_decided}, Laws.Form.Decided.{bind_ok, bind_err, leaves, err_is, not_both, Stopped, Lawful}, Laws.Form.Forms.lawful}

-- ---- a text is refused at one place, and in one way

begins_less : (A : Type 0) (spells : Grammar A) (a b : List Word) → Begins spells (a ++ b) → Begins spells a
begins_less A spells a b h = (h.0, b ++ h.1, subst (λ (m : List Word). spells h.0 m) (append_assoc a b h.1) h.2)

shorter : (A : Type 0) (spells : Grammar A) (ws : List Word) (m n : ℕ) → m ≤ n → Begins spells (take n ws) → Begins spells (take m ws)
shorter A spells ws zero n le h = begins_less A spells [] (take n ws) h
shorter A spells [] (suc m) zero le h = absurd (omega (arith, le))
shorter A spells [] (suc m) (suc n) le h = h
shorter A spells (w ∷ ws) (suc m) zero le h = absurd (omega (arith, le))
shorter A spells (w ∷ ws) (suc m) (suc n) le h = shorter A (λ x vs. spells x (w ∷ vs)) ws m n (omega (arith, le)) h

not_before : (A : Type 0) (spells : Grammar A) (ws : List Word) (m n : ℕ) → StopsAt A spells ws m → StopsAt A spells ws n → m < n → ⊥
not_before A spells ws m n p q lt = p.word_at (omega (arith, lt, q.within)) (shorter A spells ws (m + 1) n (omega (arith, lt)) q.before)

one_place : (A : Type 0) (spells : Grammar A) (ws : List Word) (m n : ℕ) → StopsAt A spells ws m → StopsAt A spells ws n → m ≡ n
one_place A spells ws m n p q = omega (arith, not_before A spells ws m n p q, not_before A spells ws n m q p)

one_kind : (A : Type 0) (f : Form A) (ws : List Word) (at : ℕ) (j k : Kind) → RefusedAt A f ws at j → RefusedAt A f ws at k → j ≡ k
one_kind A f ws at j k p q = by p.other q.other where
  by : (j ≡ BadWord) ⊎ ((w : Word) × StandsAt ws at w × Faults f (take at ws) w j) → (k ≡ BadWord) ⊎ ((w : Word) × StandsAt ws at w × Faults f (take at ws) w k) → j ≡ k
  by (inl a) (inl b) = a ∙ sym b
  by (inl a) (inr b) = p.tested b.0 k b.1 b.2
  by (inr a) b = sym (q.tested a.0 j a.1 a.2)

pub one_refusal : (A : Type 0) (f : Form A) (ws : List Word) (m n : ℕ) (j k : Kind) → RefusedAt A f ws m j → RefusedAt A f ws n k → (m ≡ n) × (j ≡ k)
one_refusal A f ws m n j k p q =
    let same = one_place A (Spells f) ws m n p.place q.place in
    (same, one_kind A f ws m j k p (subst (λ (i : ℕ). RefusedAt A f ws i k) (sym same) q))

-- ---- reading whole texts

ended_ok : (A : Type 0) (x : A) (m : List Word) (y : A) → ended (x, m) ≡ Ok y → (x ≡ y) × (m ≡ [])
ended_ok A x [] y e = (cc, refl)
ended_ok A x (w ∷ m) y e = absurd cc

abbrev ended_at : {A : Type 0} → Kind → List Word → Result A (Kind × List Word)
ended_at k ws = Err (k, ws)

ended_err : (A : Type 0) (x : A) (m : List Word) (k : Kind) (rest : List Word) → ended (x, m) ≡ Err (k, rest) → (BadWord ≡ k) × (m ≡ rest)
ended_err A x [] k rest e = absurd cc
ended_err A x (w ∷ m) k rest e = err_is {A = A} BadWord k (w ∷ m) rest e

module _ (A : Type 0) (f : Form A) (decided : is_decided f ≡ true) where
  p : Lawful f
  p = lawful f decided

  pub found : (ws : List Word) (x : A) → read_all f ws ≡ Ok x → Spells f x ws
  found ws x e =
      let a = bind_ok (reads f ws) ended x e in
      let g = ended_ok A a.0.0 a.0.1 x a.2 in
      let t = p.takes ws a.0.0 a.0.1 a.1 in
      let all : t.0 ≡ ws = sym (t.2 ∙ ap (λ (m : List Word). t.0 ++ m) g.1 ∙ append-nil t.0) in
      subst (λ (m : List Word). Spells f x m) all (subst (λ (y : A). Spells f y t.0) g.0 t.1)

  pub only : (ws : List Word) (x : A) → Spells f x ws → read_all f ws ≡ Ok x
  only ws x h =
      let one : reads f ws ≡ Ok (x, []) = subst (λ (m : List Word). reads f m ≡ Ok (x, [])) (append-nil ws) (p.again x ws [] h tt) in
      rw one refl

  -- where reading a whole text stops
  whole_stops : (ws : List Word) (k : Kind) (rest : List Word) → read_all f ws ≡ Err (k, rest) → Stopped A (Spells f) (Faults f) ws k rest
  whole_stops ws k rest e = elim (bind_err (reads f ws) ended (k, rest) e) [
    | inl h ↦ p.stops ws k rest h
    | inr (x, h, g) ↦
        let end = ended_err A x.0 x.1 k rest g in
        let t = p.takes ws x.0 x.1 h in
        record { front = t.0; parts = t.2 ∙ ap (λ (m : List Word). t.0 ++ m) end.1; starts = (x.0, [], rw append-nil t.1); kind = inl (sym end.0) }
  ]

  -- whatever comes after the word at which it stops
  stops_so : (front : List Word) (k : Kind) (v : Word) (r s : List Word) → read_all f (front ++ v ∷ r) ≡ Err (k, v ∷ r) → read_all f (front ++ v ∷ s) ≡ Err (k, v ∷ s)
  stops_so front k v r s e = elim (bind_err (reads f (front ++ v ∷ r)) ended (k, v ∷ r) e) [
    | inl h ↦ rw (p.ahead (Err k) front [] v r s h) refl
    | inr (x, h, g) ↦
        let end = ended_err A x.0 x.1 k (v ∷ r) g in
        rw (p.ahead (Ok x.0) front [] v r s (h ∙ ap (λ (m : List Word). leaves (Ok x.0) m) end.1)) (ap (λ (j : Kind). ended_at j (v ∷ s)) end.0)
  ]

  no_more : (front rest : List Word) (k : Kind) → read_all f (front ++ rest) ≡ Err (k, rest) → length front < length (front ++ rest) → Begins (Spells f) (take (length front + 1) (front ++ rest)) → ⊥
  no_more front [] k e lt b = absurd (omega (arith, length-append front []))
  no_more front (v ∷ tail) k e lt b =
      let regrouped : (front ++ v ∷ []) ++ tail ≡ front ++ v ∷ tail = append_assoc front (v ∷ []) tail in
      let len : length (front ++ v ∷ []) ≡ length front + 1 = length-append front (v ∷ []) in
      let taken : take (length front + 1) (front ++ v ∷ tail) ≡ front ++ v ∷ [] = ap (take (length front + 1)) (sym regrouped) ∙ take_at (front ++ v ∷ []) tail (length front + 1) len in
      let c : Begins (Spells f) (front ++ v ∷ []) = subst (λ (m : List Word). Begins (Spells f) m) taken b in
      let text : Spells f c.0 (front ++ v ∷ c.1) = subst (λ (m : List Word). Spells f c.0 m) (append_assoc front (v ∷ []) c.1) c.2 in
      not_both (read_all f (front ++ v ∷ c.1)) c.0 (k, v ∷ c.1) (only (front ++ v ∷ c.1) c.0 text) (stops_so front k v tail c.1 e)

  refused_here : (front rest : List Word) (k : Kind) → Begins (Spells f) front → (k ≡ BadWord) ⊎ ((v : Word) × (tail : List Word) × Faults f front v k × (rest ≡ v ∷ tail)) → read_all f (front ++ rest) ≡ Err (k, rest) → RefusedAt A f (front ++ rest) (length front) k
  refused_here front rest k starts kind e =
      let taken : take (length front) (front ++ rest) ≡ front = take_at front rest (length front) refl in
      let dropped : drop (length front) (front ++ rest) ≡ rest = drop_at front rest (length front) refl in
      record {
        place = record {
          within = omega (arith, length-append front rest);
          before = rw taken starts;
          word_at = λ lt b. no_more front rest k e lt b;
          missing = λ here x h. not_both (read_all f (front ++ rest)) x (k, rest) (only (front ++ rest) x h) e;
        };
        tested = λ w j at h.
            let is : rest ≡ w ∷ at.0 = sym dropped ∙ at.1 in
            let faulted : read_all f (front ++ w ∷ at.0) ≡ Err (j, w ∷ at.0) = rw (p.faulty front w j at.0 (subst (λ (m : List Word). Faults f m w j) taken h)) refl in
            (err_is {A = A} k j rest (w ∷ at.0) (sym e ∙ ap (λ (m : List Word). read_all f (front ++ m)) is ∙ faulted)).0;
        other = elim kind [ inl h ↦ inl h | inr h ↦ inr (h.0, (h.1, dropped ∙ h.3), subst (λ (m : List Word). Faults f m h.0 k) (sym taken) h.2) ];
      }

  pub refused : (ws : List Word) (k : Kind) (rest : List Word) → read_all f ws ≡ Err (k, rest) → RefusedAt A f ws (length ws - length rest) k
  refused ws k rest e =
      let s = whole_stops ws k rest e in
      let at : length s.front ≡ length ws - length rest = omega (arith, ap length s.parts, length-append s.front rest) in
      let here : RefusedAt A f (s.front ++ rest) (length s.front) k = refused_here s.front rest k s.starts s.kind (subst (λ (m : List Word). read_all f m ≡ Err (k, rest)) s.parts e) in
      subst (λ (n : ℕ). RefusedAt A f ws n k) at (subst (λ (m : List Word). RefusedAt A f m (length s.front) k) (sym s.parts) here)

-- The laws of a part that is repeated up to the last word.
use Rattle.std.proofs.{Common.{◌≡◌, ℕ, zero, suc, ◌<◌, ◌≤◌, Bool, false, true, List, [], ◌∷◌, ◌++◌, length, Result, Ok, Err, inl, inr, refl, sym, ap, subst, ◌∙◌, append_assoc, append-nil, arith}, lemmas.List.length-append}
use Rattle.pf_form.specs.declared.form.fault.Kind.{Kind}
use Rattle.pf_form.specs.{Form.Words.Word, Form.Forms.{Form, any_number, InOrder, Spells, Faults, Read, Reader, reads, empties, begins, follow, ◌>>=◌, the_end, may_follow, at_most, any_by}, Form.Readers.Shrinks, Laws.Form.Decided.{Clear, Heads, clears, clears_heads, bind_ok, bind_err, leaves, ok_is, seen_ok, seen_err, not_both, Stopped, Lawful, takes_some, stopped_after}}

abbrev pub in_front : {A : Type 0} → A → List A × List Word → Read (List A)
in_front x y = Ok (x ∷ y.0, y.1)

module _ (A : Type 0) (read : Reader A) where
  abbrev pub others : ℕ → A × List Word → Read (List A)
  others n x = at_most n read x.1 >>= in_front x.0

  pub opened : (n : ℕ) (ws : List Word) → 0 < length ws → at_most (suc n) read ws ≡ (read ws >>= others n)
  opened n [] lt = absurd (omega (arith, lt))
  opened n (w ∷ ws) lt = refl

  pub none_left : (n : ℕ) → at_most n read [] ≡ Ok ([], [])
  none_left zero = refl
  none_left (suc n) = refl

module _ (A : Type 0) (read : Reader A) (shrinks : Shrinks read) where
  -- no more steps are needed than there are words
  pub enough : (n m : ℕ) (ws : List Word) → length ws ≤ n → length ws ≤ m → at_most n read ws ≡ at_most m read ws
  enough n m [] g h = none_left A read n ∙ sym (none_left A read m)
  enough zero m (w ∷ ws) g h = absurd (omega (arith, g))
  enough (suc n) zero (w ∷ ws) g h = absurd (omega (arith, h))
  enough (suc n) (suc m) (w ∷ ws) g h = by (read (w ∷ ws)) refl (λ rest lt. enough n m rest (omega (arith, lt, g)) (omega (arith, lt, h))) where
    by : (r : Read A) → read (w ∷ ws) ≡ r → ((rest : List Word) → length rest < length (w ∷ ws) → at_most n read rest ≡ at_most m read rest) → (r >>= others A read n) ≡ (r >>= others A read m)
    by (Ok x) e same = ap (λ (y : Read (List A)). y >>= in_front x.0) (same x.1 (shrinks (w ∷ ws) x.0 x.1 e))
    by (Err d) e same = refl

  -- one item, and then the others
  pub one_more : (ws : List Word) (x : A) (rest : List Word) → read ws ≡ Ok (x, rest) → any_by read ws ≡ (any_by read rest >>= in_front x)
  one_more ws x rest e =
      let lt = shrinks ws x rest e in
      enough (length ws) (suc (length ws)) ws (omega arith) (omega arith) ∙ opened A read (length ws) ws (omega (arith, lt)) ∙ rw e (ap (λ (y : Read (List A)). y >>= in_front x) (enough (length ws) (length rest) rest (omega (arith, lt)) (omega arith)))

  pub one_failed : (ws : List Word) (d : Kind × List Word) → 0 < length ws → read ws ≡ Err d → any_by read ws ≡ Err d
  one_failed ws d lt e = enough (length ws) (suc (length ws)) ws (omega arith) (omega arith) ∙ opened A read (length ws) ws lt ∙ rw e refl

module _ {A : Type 0} (f : Form A) (p : Lawful f) (some : empties f ≡ false) (decided : may_follow (follow f) (begins f) ≡ true) where
  abbrev Items : List A → List Word → Type 0
  Items = InOrder (Spells f)

  -- a part takes a word or more
  fewer : Shrinks (reads f)
  fewer = takes_some p some

  -- words that begin with an item, or none
  starts : (x : A) (a : List Word) → Spells f x a → Heads false (begins f) a
  starts x a h = subst (λ (e : Bool). Heads e (begins f) a) some (p.heads x a h)

  item_heads : (xs : List A) (ws : List Word) → Items xs ws → Heads true (begins f) ws
  item_heads [] ws h = rw h refl
  item_heads (x ∷ xs) ws (a, c, h, k, e) = rw e (by a (starts x a h)) where
    by : (a : List Word) → Heads false (begins f) a → Heads true (begins f) (a ++ c)
    by [] s = absurd cc
    by (w ∷ a) s = s

  -- an item in front of others
  after_item : (x : A) (a rest : List Word) (r : Read (List A)) → Spells f x a → Clear (follow f) rest → any_by (reads f) rest ≡ r → any_by (reads f) (a ++ rest) ≡ (r >>= in_front x)
  after_item x a rest r h c e = one_more A (reads f) fewer (a ++ rest) x rest (p.again x a rest h c) ∙ ap (λ (y : Read (List A)). y >>= in_front x) e

  items_again : (xs : List A) (ws : List Word) → Items xs ws → any_by (reads f) ws ≡ Ok (xs, [])
  items_again [] ws h = rw h refl
  items_again (x ∷ xs) ws (a, c, h, k, e) = rw e (after_item x a c (Ok (xs, [])) h (by c (item_heads xs c k)) (items_again xs c k)) where
    by : (ws : List Word) → Heads true (begins f) ws → Clear (follow f) ws
    by [] h = tt
    by (w ∷ ws) h = clears (follow f) (begins f) w ws decided h

  items_faulty : (xs : List A) (a c : List Word) (w : Word) (k : Kind) (tail : List Word) → Items xs a → Faults f c w k → any_by (reads f) (a ++ (c ++ w ∷ tail)) ≡ Err (k, w ∷ tail)
  items_faulty [] a c w k tail h g = rw h (one_failed A (reads f) fewer (c ++ w ∷ tail) (k, w ∷ tail) (omega (arith, length-append c (w ∷ tail))) (p.faulty c w k tail g))
  items_faulty (x ∷ xs) a c w k tail (a1, a2, h, i, e) g =
      rw (e, append_assoc a1 a2 (c ++ w ∷ tail)) (after_item x a1 (a2 ++ (c ++ w ∷ tail)) (Err (k, w ∷ tail)) h (by a2 (item_heads xs a2 i)) (items_faulty xs a2 c w k tail i g)) where
        by : (m : List Word) → Heads true (begins f) m → Clear (follow f) (m ++ (c ++ w ∷ tail))
        by [] s = clears_heads (follow f) (begins f) c w tail [] decided (p.fault_heads c w k g)
        by (u ∷ m) s = clears (follow f) (begins f) u (m ++ (c ++ w ∷ tail)) decided s

  fault_begins : (a c : List Word) (w : Word) → Heads true (begins f) a → Heads false (begins f) (c ++ w ∷ []) → Heads false (begins f) (a ++ (c ++ w ∷ []))
  fault_begins [] c w h k = k
  fault_begins (u ∷ a) c w h k = h

  -- all words are taken
  items_take : (n : ℕ) (ws : List Word) (ys : List A) (rest : List Word) → length ws ≤ n → at_most n (reads f) ws ≡ Ok (ys, rest) → Items ys ws × (rest ≡ [])
  items_take n [] ys rest le e =
      let g = ok_is [] ys [] rest (sym (none_left A (reads f) n) ∙ e) in
      (subst (λ (zs : List A). Items zs []) g.0 refl, sym g.1)
  items_take zero (w ∷ ws) ys rest le e = absurd (omega (arith, le))
  items_take (suc n) (w ∷ ws) ys rest le e =
      let x = bind_ok (reads f (w ∷ ws)) (others A (reads f) n) (ys, rest) e in
      let xs = seen_ok (λ (xs : List A). x.0.0 ∷ xs) (at_most n (reads f) x.0.1) ys rest x.2 in
      let first = p.takes (w ∷ ws) x.0.0 x.0.1 x.1 in
      let lt = fewer (w ∷ ws) x.0.0 x.0.1 x.1 in
      let further = items_take n x.0.1 xs.0 rest (omega (arith, lt, le)) xs.1 in
      (subst (λ (zs : List A). Items zs (w ∷ ws)) xs.2 (first.0, x.0.1, first.1, further.0, first.2), further.1)

  abbrev ListStops : List Word → Kind → List Word → Type 0
  ListStops = Stopped (List A) Items (Faults (any_number f))

  list_stops : (n : ℕ) (ws : List Word) (k : Kind) (rest : List Word) → length ws ≤ n → at_most n (reads f) ws ≡ Err (k, rest) → ListStops ws k rest
  list_stops n [] k rest le e = absurd (not_both (at_most n (reads f) []) ([], []) (k, rest) (none_left A (reads f) n) e)
  list_stops zero (w ∷ ws) k rest le e = absurd (omega (arith, le))
  list_stops (suc n) (w ∷ ws) k rest le e = elim (bind_err (reads f (w ∷ ws)) (others A (reads f) n) (k, rest) e) [
    | inl h ↦ stopped_after [] (w ∷ ws) (w ∷ ws) (p.stops (w ∷ ws) k rest h) refl (λ front s. (s.0 ∷ [], s.1, (front ++ s.1, [], s.2, refl, sym (append-nil (front ++ s.1))))) (λ front v g. ([], [], front, refl, g, refl))
    | inr (x, h, g) ↦
        let first = p.takes (w ∷ ws) x.0 x.1 h in
        let lt = fewer (w ∷ ws) x.0 x.1 h in
        let further = list_stops n x.1 k rest (omega (arith, lt, le)) (seen_err (λ (xs : List A). x.0 ∷ xs) (at_most n (reads f) x.1) (k, rest) g) in
        stopped_after first.0 x.1 (w ∷ ws) further first.2
        (λ front s. (x.0 ∷ s.0, s.1, (first.0, front ++ s.1, first.1, s.2, append_assoc first.0 front s.1)))
        (λ front v i. (x.0 ∷ i.0, first.0 ++ i.1, i.2, (first.0, i.1, first.1, i.3, refl), i.4, ap (λ (m : List Word). first.0 ++ m) i.5 ∙ sym (append_assoc first.0 i.1 i.2)))
  ]

  list_ahead : (n : ℕ) (k : Kind) (part left : List Word) (v : Word) (r s : List Word) → length (part ++ v ∷ r) ≤ n → at_most n (reads f) (part ++ v ∷ r) ≡ Err (k, left ++ v ∷ r) → any_by (reads f) (part ++ v ∷ s) ≡ Err (k, left ++ v ∷ s)
  list_ahead zero k part left v r s le e = absurd (omega (arith, le, length-append part (v ∷ r)))
  list_ahead (suc n) k part left v r s le e =
      let some : 0 < length (part ++ v ∷ r) = omega (arith, length-append part (v ∷ r)) in
      elim (bind_err (reads f (part ++ v ∷ r)) (others A (reads f) n) (k, left ++ v ∷ r) (sym (opened A (reads f) n (part ++ v ∷ r) some) ∙ e)) [
        | inl h ↦ one_failed A (reads f) fewer (part ++ v ∷ s) (k, left ++ v ∷ s) (omega (arith, length-append part (v ∷ s))) (p.ahead (Err k) part left v r s h)
        | inr (x, h, g) ↦
            let lt = fewer (part ++ v ∷ r) x.0 x.1 h in
            let failed = seen_err (λ (xs : List A). x.0 ∷ xs) (at_most n (reads f) x.1) (k, left ++ v ∷ r) g in
            let d = list_stops n x.1 k (left ++ v ∷ r) (omega (arith, lt, le)) failed in
            let is : x.1 ≡ (d.front ++ left) ++ v ∷ r = d.parts ∙ sym (append_assoc d.front left (v ∷ r)) in
            let after : reads f (part ++ v ∷ s) ≡ Ok (x.0, (d.front ++ left) ++ v ∷ s) = p.ahead (Ok x.0) part (d.front ++ left) v r s (h ∙ ap (λ (m : List Word). leaves (Ok x.0) m) is) in
            let further = list_ahead n k (d.front ++ left) left v r s (omega (arith, lt, le, ap length is)) (subst (λ (m : List Word). at_most n (reads f) m ≡ Err (k, left ++ v ∷ r)) is failed) in
            one_more A (reads f) fewer (part ++ v ∷ s) x.0 ((d.front ++ left) ++ v ∷ s) after ∙ ap (λ (y : Read (List A)). y >>= in_front x.0) further
      ]

  items_ahead : (o : Result (List A) Kind) (part left : List Word) (v : Word) (r s : List Word) → any_by (reads f) (part ++ v ∷ r) ≡ leaves o (left ++ v ∷ r) → any_by (reads f) (part ++ v ∷ s) ≡ leaves o (left ++ v ∷ s)
  items_ahead (Ok ys) part left v r s e = let t = items_take (length (part ++ v ∷ r)) (part ++ v ∷ r) ys (left ++ v ∷ r) (omega arith) e in absurd (omega (arith, ap length t.1, length-append left (v ∷ r)))
  items_ahead (Err k) part left v r s e = list_ahead (length (part ++ v ∷ r)) k part left v r s (omega arith) e

  ends : (xs : List A) (part rest : List Word) → Items xs part → Clear the_end rest → any_by (reads f) (part ++ rest) ≡ Ok (xs, rest)
  ends xs part [] h c = rw append-nil (items_again xs part h)
  ends xs part (w ∷ rest) h c = absurd c

  pub items_laws : Lawful (any_number f)
  items_laws = record {
    some = ([], [], refl);
    heads = item_heads;
    fault_heads = λ front w k (xs, a, c, h, g, e). rw (e, append_assoc a c (w ∷ [])) (fault_begins a c w (item_heads xs a h) (p.fault_heads c w k g));
    takes = λ ws ys rest e. let t = items_take (length ws) ws ys rest (omega arith) e in (ws, t.0, rw t.1 (sym (append-nil ws)));
    again = ends;
    faulty = λ front w k tail (xs, a, c, h, g, e). rw (e, append_assoc a c (w ∷ tail)) (items_faulty xs a c w k tail h g);
    stops = λ ws k rest e. list_stops (length ws) ws k rest (omega arith) e;
    ahead = items_ahead;
  }

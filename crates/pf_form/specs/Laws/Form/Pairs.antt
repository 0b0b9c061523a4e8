-- The laws of one part and the next, and of a part seen as another value.
use Rattle.std.proofs.Common.{◌≡◌, Bool, true, false, List, [], ◌∷◌, ◌++◌, Result, Ok, Err, ◌⊎◌, inl, inr, refl, sym, ap, subst, ◌∙◌, append_assoc}
use Rattle.std.specs.Prelude.{◌&&◌, ◌||◌}
use Rattle.pf_form.specs.declared.form.fault.Kind.{Kind}
use Rattle.pf_form.specs.{Form.Words.Word, Form.Forms.{Form, making, Grammar, Read, Reader, reads, ◌>>=◌, Follow, plus, where_empty, may_follow}, Laws.Form.Decided.{Clear, Heads, clear_both, clears, clears_heads, or_left, or_right, and_join, bind_ok, bind_err, leaves, leaves_is, seen_ahead, seen_ok, seen_err, Faulting, Stopped, Laws, Lawful, splits, stopped_after}}

module _ (A B : Type 0) (spells : Grammar A) (spells' : A → Grammar B) (faults : Faulting) (faults' : A → Faulting) (e e' : Bool) (b b' : Word → Bool) (f f' : Follow) (read : Reader A) (read' : A → Reader B)
    (p : Laws A spells faults e b f read) (q : (x : A) → Laws B (spells' x) (faults' x) e' b' f' (read' x)) (decided : may_follow f b' ≡ true) where
  abbrev Both : Grammar (A × B)
  Both x ws = (a c : List Word) × spells x.0 a × spells' x.0 x.1 c × (ws ≡ a ++ c)

  abbrev BothFaults : Faulting
  BothFaults front w k = faults front w k ⊎ ((x : A) × (a c : List Word) × spells x a × faults' x c w k × (front ≡ a ++ c))

  abbrev begin : Word → Bool
  begin w = b w || (e && b' w)

  abbrev fol : Follow
  fol = plus f' (where_empty e' f)

  abbrev with_next : A × List Word → Read (A × B)
  with_next x = read' x.0 x.1 >>= λ y. Ok ((x.0, y.0), y.1)

  abbrev read_both : Reader (A × B)
  read_both ws = read ws >>= λ x. read' x.0 x.1 >>= λ y. Ok ((x.0, y.0), y.1)

  heads_by : (a c : List Word) → Heads e b a → Heads e' b' c → Heads (e && e') begin (a ++ c)
  heads_by [] [] h k = and_join e e' h k
  heads_by [] (w ∷ c) h k = or_right (b w) (e && b' w) (and_join e (b' w) h k)
  heads_by (w ∷ a) c h k = or_left (b w) (e && b' w) h

  both_fault_heads : (front : List Word) (w : Word) (k : Kind) → BothFaults front w k → Heads false begin (front ++ w ∷ [])
  both_fault_heads front w k (inl h) = first front (p.fault_heads front w k h) where
    first : (ws : List Word) → Heads false b (ws ++ w ∷ []) → Heads false begin (ws ++ w ∷ [])
    first [] h = or_left (b w) (e && b' w) h
    first (u ∷ ws) h = or_left (b u) (e && b' u) h
  both_fault_heads front w k (inr (x, a, c, h, g, is)) = rw (is, append_assoc a c (w ∷ [])) (next a c (p.heads x a h) ((q x).fault_heads c w k g)) where
    next : (a c : List Word) → Heads e b a → Heads false b' (c ++ w ∷ []) → Heads false begin (a ++ (c ++ w ∷ []))
    next [] [] h k = or_right (b w) (e && b' w) (and_join e (b' w) h k)
    next [] (u ∷ c) h k = or_right (b u) (e && b' u) (and_join e (b' u) h k)
    next (u ∷ a) c h k = or_left (b u) (e && b' u) h

  both_takes : (ws : List Word) (z : A × B) (rest : List Word) → read_both ws ≡ Ok (z, rest) → (part : List Word) × Both z part × (ws ≡ part ++ rest)
  both_takes ws z rest e =
      let x = bind_ok (read ws) with_next (z, rest) e in
      let y = seen_ok (λ (y : B). (x.0.0, y)) (read' x.0.0 x.0.1) z rest x.2 in
      let first = p.takes ws x.0.0 x.0.1 x.1 in
      let second = (q x.0.0).takes x.0.1 y.0 rest y.1 in
      (first.0 ++ second.0, subst (λ (t : A × B). Both t (first.0 ++ second.0)) y.2 (first.0, second.0, first.1, second.1, refl), first.2 ∙ ap (λ (m : List Word). first.0 ++ m) second.2 ∙ sym (append_assoc first.0 second.0 rest))

  both_again : (z : A × B) (part rest : List Word) → Both z part → Clear fol rest → read_both (part ++ rest) ≡ Ok (z, rest)
  both_again z part rest (a, c, h, k, is) d =
      let following = clear_both f' (where_empty e' f) rest d in
      rw (is, append_assoc a c rest, p.again z.0 a (c ++ rest) h (lift c ((q z.0).heads z.1 c k) following.1), (q z.0).again z.1 c rest k following.0) refl where
        lift : (c : List Word) → Heads e' b' c → Clear (where_empty e' f) rest → Clear f (c ++ rest)
        lift [] h k = rw h at k
        lift (w ∷ c) h k = clears f b' w (c ++ rest) decided h

  both_faulty : (front : List Word) (w : Word) (k : Kind) (tail : List Word) → BothFaults front w k → read_both (front ++ w ∷ tail) ≡ Err (k, w ∷ tail)
  both_faulty front w k tail (inl h) = rw (p.faulty front w k tail h) refl
  both_faulty front w k tail (inr (x, a, c, h, g, is)) =
      rw (is, append_assoc a c (w ∷ tail), p.again x a (c ++ w ∷ tail) h (clears_heads f b' c w tail [] decided ((q x).fault_heads c w k g)), (q x).faulty c w k tail g) refl

  both_stops : (ws : List Word) (k : Kind) (rest : List Word) → read_both ws ≡ Err (k, rest) → Stopped (A × B) Both BothFaults ws k rest
  both_stops ws k rest e = elim (bind_err (read ws) with_next (k, rest) e) [
    | inl h ↦
        stopped_after [] ws ws (p.stops ws k rest h) refl (λ front s. ((s.0, (q s.0).some.0), s.1 ++ (q s.0).some.1, (front ++ s.1, (q s.0).some.1, s.2, (q s.0).some.2, sym (append_assoc front s.1 (q s.0).some.1)))) (λ front v g. inl g)
    | inr (x, h, g) ↦
        let first = p.takes ws x.0 x.1 h in
        let second = (q x.0).stops x.1 k rest (seen_err (λ (y : B). (x.0, y)) (read' x.0 x.1) (k, rest) g) in
        stopped_after first.0 x.1 ws second first.2 (λ front s. ((x.0, s.0), s.1, (first.0, front ++ s.1, first.1, s.2, append_assoc first.0 front s.1))) (λ front v i. inr (x.0, first.0, front, first.1, i, refl))
  ]

  both_ahead : (o : Result (A × B) Kind) (part left : List Word) (v : Word) (r s : List Word) → read_both (part ++ v ∷ r) ≡ leaves o (left ++ v ∷ r) → read_both (part ++ v ∷ s) ≡ leaves o (left ++ v ∷ s)
  both_ahead o part left v r s e = by (read (part ++ v ∷ r)) refl e where
    by : (t : Read A) → read (part ++ v ∷ r) ≡ t → (t >>= with_next) ≡ leaves o (left ++ v ∷ r) → read_both (part ++ v ∷ s) ≡ leaves o (left ++ v ∷ s)
    by (Err (k, n)) h e =
        let g = leaves_is {A = A × B} (Err k) o n (left ++ v ∷ r) e in
        rw (p.ahead (Err k) part left v r s (rw g.1 at h)) (ap (λ (t : Result (A × B) Kind). leaves t (left ++ v ∷ s)) g.0)
    by (Ok (x, n)) h e = seen_ahead (λ (y : B). (x, y)) (read' x n) o (left ++ v ∷ r) (left ++ v ∷ s) (read_both (part ++ v ∷ s)) e (λ t g.
        let d = splits (q x) t n (left ++ v ∷ r) g in
        let is : n ≡ (d.0 ++ left) ++ v ∷ r = d.1 ∙ sym (append_assoc d.0 left (v ∷ r)) in
        let first = p.ahead (Ok x) part (d.0 ++ left) v r s (h ∙ ap (λ (l : List Word). leaves (Ok x) l) is) in
        let second = (q x).ahead t (d.0 ++ left) left v r s (subst (λ (l : List Word). read' x l ≡ leaves t (left ++ v ∷ r)) is g) in
        rw (first, second) refl)

  pub both_laws : Laws (A × B) Both BothFaults (e && e') begin fol read_both
  both_laws = record {
    some = let x = p.some in let y = (q x.0).some in ((x.0, y.0), x.1 ++ y.1, (x.1, y.1, x.2, y.2, refl));
    heads = λ x ws (a, c, h, k, is). rw is (heads_by a c (p.heads x.0 a h) ((q x.0).heads x.1 c k));
    fault_heads = both_fault_heads;
    takes = both_takes;
    again = both_again;
    faulty = both_faulty;
    stops = both_stops;
    ahead = both_ahead;
  }

-- ---- seen as another value

pub made_laws : {A B : Type 0} (make : A → B) (f : Form A) → Lawful f → Lawful (making make f)
made_laws {A = A} make f p = record {
  some = (make p.some.0, p.some.1, (p.some.0, p.some.2, refl));
  heads = λ y ws h. p.heads h.0 ws h.1;
  fault_heads = p.fault_heads;
  takes = λ ws y rest e. let x = seen_ok make (reads f ws) y rest e in let t = p.takes ws x.0 rest x.1 in (t.0, (x.0, t.1, sym x.2), t.2);
  again = λ y part rest h c. rw (h.2, p.again h.0 part rest h.1 c) refl;
  faulty = λ front w k tail h. rw (p.faulty front w k tail h) refl;
  stops = λ ws k rest e. stopped_after [] ws ws (p.stops ws k rest (seen_err make (reads f ws) (k, rest) e)) refl (λ front s. (make s.0, s.1, (s.0, s.2, refl))) (λ front v g. g);
  ahead = λ o part left v r s e. seen_ahead make (reads f (part ++ v ∷ r)) o (left ++ v ∷ r) (left ++ v ∷ s) (reads (making make f) (part ++ v ∷ s)) e (λ t g. rw (p.ahead t part left v r s g) refl);
}

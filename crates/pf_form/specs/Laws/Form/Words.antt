-- The laws of no word, one word, a word that has to stand, and a word that chooses.
use Rattle.std.proofs.{Common.{◌≡◌, ◌≢◌, Bool, true, false, List, [], ◌∷◌, ◌++◌, length, Result, Ok, Err, ◌⊎◌, inl, inr, refl, sym, ap, ◌∙◌, arith}, lemmas.List.length-append}
use Rattle.std.specs.Str.{bytes_eq}
use Rattle.pf_form.specs.declared.{form.fault.Kind.Kind, form.fault.Kind.TheVariants.{BadWord, NameTooLong, BadProto}}
use Rattle.pf_form.specs.{Form.Words.Word, Form.Forms.{Form, nothing, word, key, or, Test, Spells, Faults, reads, empties, begins, knows, follow, tested, but, plus, where_empty}, Laws.Form.Decided.{Clear, Heads, clear_both, differs, or_left, or_right, word_is, word_same, leaves, leaves_is, ok_is, still, Stopped, Lawful, heads_more, splits, misplaced_here, stopped_after}}

-- ---- no word

pub nothing_laws : {A : Type 0} (none : A) → Lawful (nothing none)
nothing_laws {A = A} none = record {
  some = (none, [], (refl, refl));
  heads = λ x ws h. rw h.1 refl;
  fault_heads = λ front w k h. absurd h;
  takes = λ ws x rest e. let g = ok_is none x ws rest e in ([], (sym g.0, refl), g.1);
  again = λ x part rest h c. rw (h.0, h.1) refl;
  faulty = λ front w k tail h. absurd h;
  stops = λ ws k rest e. absurd cc;
  ahead = λ o part left v r s e. still (Ok none) o part left v r s e;
}

-- ---- one word

-- a word that is faulted with a kind of its own is known
known : (A : Type 0) (k : Kind) → k ≢ BadWord → knows {A = A} (Err k) ≡ true
known A BadWord own = absurd (own refl)
known A NameTooLong own = refl
known A BadProto own = refl

bad_or_own : (k : Kind) → (k ≡ BadWord) ⊎ (k ≢ BadWord)
bad_or_own BadWord = inl refl
bad_or_own NameTooLong = inr (λ e. cc)
bad_or_own BadProto = inr (λ e. cc)

module _ {A : Type 0} (t : Test A) where
  word_takes : (ws : List Word) (x : A) (rest : List Word) → reads (word t) ws ≡ Ok (x, rest) → (part : List Word) × Spells (word t) x part × (ws ≡ part ++ rest)
  word_takes [] x rest e = absurd cc
  word_takes (w ∷ ws) x rest e = by (t.of w) refl e where
    by : (r : Result A Kind) → t.of w ≡ r → tested r w ws ≡ Ok (x, rest) → (part : List Word) × Spells (word t) x part × (w ∷ ws ≡ part ++ rest)
    by (Ok y) h e = let g = leaves_is (Ok y) (Ok x) ws rest e in (w ∷ [], (w, h ∙ g.0, refl), ap (λ (m : List Word). w ∷ m) g.1)
    by (Err k) h e = absurd cc

  word_stops : (ws : List Word) (k : Kind) (rest : List Word) → reads (word t) ws ≡ Err (k, rest) → Stopped A (Spells (word t)) (Faults (word t)) ws k rest
  word_stops [] k rest e = misplaced_here (Spells (word t)) (Faults (word t)) [] k rest (t.value, t.sample ∷ [], (t.sample, t.takes, refl)) e
  word_stops (w ∷ ws) k rest e = by (t.of w) refl e where
    by : (r : Result A Kind) → t.of w ≡ r → tested r w ws ≡ Err (k, rest) → Stopped A (Spells (word t)) (Faults (word t)) (w ∷ ws) k rest
    by (Ok y) h e = absurd cc
    by (Err j) h e =
        let g = leaves_is {A = A} (Err j) (Err k) (w ∷ ws) rest e in
        let is : t.of w ≡ Err k = h ∙ g.0 in
        let kind : (k ≡ BadWord) ⊎ ((v : Word) × (tail : List Word) × Faults (word t) [] v k × (rest ≡ v ∷ tail)) = elim (bad_or_own k) [ inl bad ↦ inl bad | inr own ↦ inr (w, ws, (is, own, refl), sym g.1) ] in
        record { front = []; parts = g.1; starts = (t.value, t.sample ∷ [], (t.sample, t.takes, refl)); kind = kind }

  word_ahead : (o : Result A Kind) (part left : List Word) (v : Word) (r s : List Word) → reads (word t) (part ++ v ∷ r) ≡ leaves o (left ++ v ∷ r) → reads (word t) (part ++ v ∷ s) ≡ leaves o (left ++ v ∷ s)
  word_ahead o [] left v r s e = by (t.of v) e where
    by : (a : Result A Kind) → tested a v r ≡ leaves o (left ++ v ∷ r) → tested a v s ≡ leaves o (left ++ v ∷ s)
    by (Ok x) e = let g = leaves_is (Ok x) o r (left ++ v ∷ r) e in absurd (omega (arith, ap length g.1, length-append left (v ∷ r)))
    by (Err k) e = still (Err k) o [] left v r s e
  word_ahead o (w ∷ part) left v r s e = by (t.of w) e where
    by : (a : Result A Kind) → tested a w (part ++ v ∷ r) ≡ leaves o (left ++ v ∷ r) → tested a w (part ++ v ∷ s) ≡ leaves o (left ++ v ∷ s)
    by (Ok x) e = still (Ok x) o part left v r s e
    by (Err k) e = still (Err k) o (w ∷ part) left v r s e

  pub word_laws : Lawful (word t)
  word_laws = record {
    some = (t.value, t.sample ∷ [], (t.sample, t.takes, refl));
    heads = λ x ws h. rw (h.2, h.1) refl;
    fault_heads = λ front w k h. rw (h.2, h.0) (known A k h.1);
    takes = word_takes;
    again = λ x part rest h c. rw (h.2, h.1) refl;
    faulty = λ front w k tail h. rw (h.2, h.0) refl;
    stops = word_stops;
    ahead = word_ahead;
  }

-- ---- a word that has to stand

module _ {A : Type 0} (k : Word) (f : Form A) (p : Lawful f) where
  -- at the word as the form, else nowhere
  at_key : (ws : List Word) → reads (key k f) (k ∷ ws) ≡ reads f ws
  at_key ws = rw (word_same k) refl

  key_some : (x : A) × (ws : List Word) × Spells (key k f) x ws
  key_some = (p.some.0, k ∷ p.some.1, (p.some.1, p.some.2, refl))

  key_takes : (ws : List Word) (x : A) (rest : List Word) → reads (key k f) ws ≡ Ok (x, rest) → (part : List Word) × Spells (key k f) x part × (ws ≡ part ++ rest)
  key_takes [] x rest e = absurd cc
  key_takes (w ∷ ws) x rest e = by (bytes_eq w k) refl where
    by : (b : Bool) → bytes_eq w k ≡ b → (part : List Word) × Spells (key k f) x part × (w ∷ ws ≡ part ++ rest)
    by true t = let g = p.takes ws x rest (rw t at e) in (k ∷ g.0, (g.0, g.1, refl {a = k ∷ g.0}), cc (word_is w k t, g.2))
    by false t = let none = rw t at e in absurd cc

  key_stops : (ws : List Word) (kind : Kind) (rest : List Word) → reads (key k f) ws ≡ Err (kind, rest) → Stopped A (Spells (key k f)) (Faults (key k f)) ws kind rest
  key_stops [] kind rest e = misplaced_here (Spells (key k f)) (Faults (key k f)) [] kind rest key_some e
  key_stops (w ∷ ws) kind rest e = by (bytes_eq w k) refl where
    by : (b : Bool) → bytes_eq w k ≡ b → Stopped A (Spells (key k f)) (Faults (key k f)) (w ∷ ws) kind rest
    by true t = stopped_after (k ∷ []) ws (w ∷ ws) (p.stops ws kind rest (rw t at e)) (ap (λ (u : Word). u ∷ ws) (word_is w k t)) (λ front b. (b.0, b.1, (front ++ b.1, b.2, refl))) (λ front v g. (front, g, refl))
    by false t = misplaced_here (Spells (key k f)) (Faults (key k f)) (w ∷ ws) kind rest key_some (rw t at e)

  key_ahead : (o : Result A Kind) (part left : List Word) (v : Word) (r s : List Word) → reads (key k f) (part ++ v ∷ r) ≡ leaves o (left ++ v ∷ r) → reads (key k f) (part ++ v ∷ s) ≡ leaves o (left ++ v ∷ s)
  key_ahead o [] left v r s e = by (bytes_eq v k) refl where
    by : (b : Bool) → bytes_eq v k ≡ b → reads (key k f) (v ∷ s) ≡ leaves o (left ++ v ∷ s)
    by true t = let g = splits p o r (left ++ v ∷ r) (rw t at e) in absurd (omega (arith, ap (λ (m : List Word). length m) g.1, length-append g.0 (left ++ v ∷ r), length-append left (v ∷ r)))
    by false t = rw t (still (Err BadWord) o [] left v r s (rw t at e))
  key_ahead o (w ∷ part) left v r s e = by (bytes_eq w k) refl where
    by : (b : Bool) → bytes_eq w k ≡ b → reads (key k f) (w ∷ (part ++ v ∷ s)) ≡ leaves o (left ++ v ∷ s)
    by true t = rw t (p.ahead o part left v r s (rw t at e))
    by false t = rw t (still (Err BadWord) o (w ∷ part) left v r s (rw t at e))

  pub key_laws : Lawful (key k f)
  key_laws = record {
    some = key_some;
    heads = λ x ws h. rw h.2 (word_same k);
    fault_heads = λ front w kind h. rw h.2 (word_same k);
    takes = key_takes;
    again = λ x part rest h c. rw h.2 (at_key (h.0 ++ rest) ∙ p.again x h.0 rest h.1 c);
    faulty = λ front w kind tail h. rw h.2 (at_key (h.0 ++ w ∷ tail) ∙ p.faulty h.0 w kind tail h.1);
    stops = key_stops;
    ahead = key_ahead;
  }

-- ---- a word that chooses

module _ {A : Type 0} (k : Word) (f g : Form A) (p : Lawful (key k f)) (q : Lawful g) (clear : begins g k ≡ false) where
  -- At each word it reads as the one with the word, or as the other.
  at_word : (w : Word) → ((ws : List Word) → reads (or k f g) (w ∷ ws) ≡ reads (key k f) (w ∷ ws)) ⊎ ((ws : List Word) → reads (or k f g) (w ∷ ws) ≡ reads g (w ∷ ws))
  at_word w = by (bytes_eq w k) refl where
    by : (b : Bool) → bytes_eq w k ≡ b → ((ws : List Word) → reads (or k f g) (w ∷ ws) ≡ reads (key k f) (w ∷ ws)) ⊎ ((ws : List Word) → reads (or k f g) (w ∷ ws) ≡ reads g (w ∷ ws))
    by true t = inl (λ ws. rw t refl)
    by false t = inr (λ ws. rw t refl)

  -- where the other may begin so
  at_other : (w : Word) (ws : List Word) → begins g w ≡ true → reads (or k f g) (w ∷ ws) ≡ reads g (w ∷ ws)
  at_other w ws h = rw (differs (begins g) w k h clear (bytes_eq w k) refl) refl

  or_takes : (ws : List Word) (x : A) (rest : List Word) → reads (or k f g) ws ≡ Ok (x, rest) → (part : List Word) × Spells (or k f g) x part × (ws ≡ part ++ rest)
  or_takes [] x rest e = let t = q.takes [] x rest e in (t.0, inr t.1, t.2)
  or_takes (w ∷ ws) x rest e = elim (at_word w) [
    | inl same ↦ let t = p.takes (w ∷ ws) x rest (sym (same ws) ∙ e) in (t.0, inl t.1, t.2)
    | inr same ↦ let t = q.takes (w ∷ ws) x rest (sym (same ws) ∙ e) in (t.0, inr t.1, t.2)
  ]

  or_again : (x : A) (part rest : List Word) → Spells (or k f g) x part → Clear (follow (or k f g)) rest → reads (or k f g) (part ++ rest) ≡ Ok (x, rest)
  or_again x part rest (inl (more, h, e)) c =
      let here = p.again x (k ∷ more) rest (more, h, refl) (clear_both (follow f) (plus (follow g) (where_empty (empties g) (but (k ∷ [])))) rest c).0 in
      rw (e, word_same k) (rw (word_same k) at here)
  or_again x part rest (inr h) c =
      let d = clear_both (follow g) (where_empty (empties g) (but (k ∷ []))) rest (clear_both (follow f) (plus (follow g) (where_empty (empties g) (but (k ∷ [])))) rest c).1 in
      by part rest h (q.heads x part h) d.0 d.1 where
        by : (part rest : List Word) → Spells g x part → Heads (empties g) (begins g) part → Clear (follow g) rest → Clear (where_empty (empties g) (but (k ∷ []))) rest → reads (or k f g) (part ++ rest) ≡ Ok (x, rest)
        by [] [] h s c d = q.again x [] [] h c
        by [] (w ∷ rest) h s c d = let is : bytes_eq w k ≡ false = (rw s at d).0 in rw is (q.again x [] (w ∷ rest) h c)
        by (w ∷ part) rest h s c d = at_other w (part ++ rest) s ∙ q.again x (w ∷ part) rest h c

  or_faulty : (front : List Word) (w : Word) (kind : Kind) (tail : List Word) → Faults (or k f g) front w kind → reads (or k f g) (front ++ w ∷ tail) ≡ Err (kind, w ∷ tail)
  or_faulty front w kind tail (inl (more, h, e)) =
      let here = p.faulty (k ∷ more) w kind tail (more, h, refl) in
      rw (e, word_same k) (rw (word_same k) at here)
  or_faulty front w kind tail (inr h) = by front h (q.fault_heads front w kind h) where
    by : (front : List Word) → Faults g front w kind → Heads false (begins g) (front ++ w ∷ []) → reads (or k f g) (front ++ w ∷ tail) ≡ Err (kind, w ∷ tail)
    by [] h s = at_other w tail s ∙ q.faulty [] w kind tail h
    by (u ∷ front) h s = at_other u (front ++ w ∷ tail) s ∙ q.faulty (u ∷ front) w kind tail h

  as_here : (ws : List Word) (kind : Kind) (rest : List Word) → Stopped A (Spells (key k f)) (Faults (key k f)) ws kind rest → Stopped A (Spells (or k f g)) (Faults (or k f g)) ws kind rest
  as_here ws kind rest s = stopped_after [] ws ws s refl (λ front b. (b.0, b.1, inl b.2)) (λ front v h. inl h)

  as_there : (ws : List Word) (kind : Kind) (rest : List Word) → Stopped A (Spells g) (Faults g) ws kind rest → Stopped A (Spells (or k f g)) (Faults (or k f g)) ws kind rest
  as_there ws kind rest s = stopped_after [] ws ws s refl (λ front b. (b.0, b.1, inr b.2)) (λ front v h. inr h)

  or_stops : (ws : List Word) (kind : Kind) (rest : List Word) → reads (or k f g) ws ≡ Err (kind, rest) → Stopped A (Spells (or k f g)) (Faults (or k f g)) ws kind rest
  or_stops [] kind rest e = as_there [] kind rest (q.stops [] kind rest e)
  or_stops (w ∷ ws) kind rest e = elim (at_word w) [
    | inl same ↦ as_here (w ∷ ws) kind rest (p.stops (w ∷ ws) kind rest (sym (same ws) ∙ e))
    | inr same ↦ as_there (w ∷ ws) kind rest (q.stops (w ∷ ws) kind rest (sym (same ws) ∙ e))
  ]

  or_ahead : (o : Result A Kind) (part left : List Word) (v : Word) (r s : List Word) → reads (or k f g) (part ++ v ∷ r) ≡ leaves o (left ++ v ∷ r) → reads (or k f g) (part ++ v ∷ s) ≡ leaves o (left ++ v ∷ s)
  or_ahead o [] left v r s e = elim (at_word v) [
    | inl same ↦ same s ∙ p.ahead o [] left v r s (sym (same r) ∙ e)
    | inr same ↦ same s ∙ q.ahead o [] left v r s (sym (same r) ∙ e)
  ]
  or_ahead o (w ∷ part) left v r s e = elim (at_word w) [
    | inl same ↦ same (part ++ v ∷ s) ∙ p.ahead o (w ∷ part) left v r s (sym (same (part ++ v ∷ r)) ∙ e)
    | inr same ↦ same (part ++ v ∷ s) ∙ q.ahead o (w ∷ part) left v r s (sym (same (part ++ v ∷ r)) ∙ e)
  ]

  pub or_laws : Lawful (or k f g)
  or_laws = record {
    some = (p.some.0, p.some.1, inl p.some.2);
    heads = λ x ws. elim [
      | inl h ↦ heads_more false (empties g) (begins (key k f)) (begins (or k f g)) (λ e. absurd cc) (λ w e. or_left (bytes_eq w k) (begins g w) e) ws (p.heads x ws h)
      | inr h ↦ heads_more (empties g) (empties g) (begins g) (begins (or k f g)) (λ e. e) (λ w e. or_right (bytes_eq w k) (begins g w) e) ws (q.heads x ws h)
    ];
    fault_heads = λ front w kind. elim [
      | inl h ↦ heads_more false false (begins (key k f)) (begins (or k f g)) (λ e. e) (λ u e. or_left (bytes_eq u k) (begins g u) e) (front ++ w ∷ []) (p.fault_heads front w kind h)
      | inr h ↦ heads_more false false (begins g) (begins (or k f g)) (λ e. e) (λ u e. or_right (bytes_eq u k) (begins g u) e) (front ++ w ∷ []) (q.fault_heads front w kind h)
    ];
    takes = or_takes;
    again = or_again;
    faulty = or_faulty;
    stops = or_stops;
    ahead = or_ahead;
  }

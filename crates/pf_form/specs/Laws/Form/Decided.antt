-- What holds of a form: its grammar and its reader belong together.
use Rattle.std.proofs.{Common.{◌≡◌, ◌<◌, Bool, true, false, List, [], ◌∷◌, ◌++◌, length, Result, Ok, Err, ◌⊎◌, inl, inr, refl, sym, ap, ◌∙◌, append_assoc, arith}, lemmas.List.{length-append, append_cancel_right}, lemmas.Slice.Eq.bytes_eq-Decides}
use Rattle.std.specs.{Prelude.{◌&&◌, ◌||◌, not}, Str.bytes_eq}
use Rattle.pf_form.specs.declared.{form.fault.Kind.Kind, form.fault.Kind.TheVariants.BadWord}
use Rattle.pf_form.specs.{Form.Words.Word, Form.Forms.{Form, Grammar, Spells, Faults, Begins, Read, Reader, ◌>>=◌, reads, misplaced, empties, begins, Follow, but, the_end, follow, plus, none_of, may_follow}, Form.Readers.Shrinks}

-- ---- what may follow

abbrev pub NotIn : Word → List Word → Type 0
NotIn w [] = Unit {0}
NotIn w (v ∷ vs) = (bytes_eq w v ≡ false) × NotIn w vs

abbrev pub Clear : Follow → List Word → Type 0
Clear f [] = Unit {0}
Clear (but vs) (w ∷ ws) = NotIn w vs
Clear the_end (w ∷ ws) = ⊥

not_in_both : (w : Word) (a b : List Word) → NotIn w (a ++ b) → NotIn w a × NotIn w b
not_in_both w [] b h = (tt, h)
not_in_both w (v ∷ a) b h = let r = not_in_both w a b h.1 in ((h.0, r.0), r.1)

pub clear_both : (f g : Follow) (ws : List Word) → Clear (plus f g) ws → Clear f ws × Clear g ws
clear_both f g [] h = (tt, tt)
clear_both (but a) (but b) (w ∷ ws) h = not_in_both w a b h
clear_both (but a) the_end (w ∷ ws) h = absurd h
clear_both the_end g (w ∷ ws) h = absurd h

-- ---- tests

pub both : (a b : Bool) → (a && b) ≡ true → (a ≡ true) × (b ≡ true)
both true b e = (refl, e)
both false b e = absurd cc

pub or_left : (a b : Bool) → a ≡ true → (a || b) ≡ true
or_left true b e = refl
or_left false b e = absurd cc

pub or_right : (a b : Bool) → b ≡ true → (a || b) ≡ true
or_right true b e = refl
or_right false b e = e

pub and_join : (a b : Bool) → a ≡ true → b ≡ true → (a && b) ≡ true
and_join true b e f = f
and_join false b e f = absurd cc

pub is_not : (a : Bool) → not a ≡ true → a ≡ false
is_not true e = absurd cc
is_not false e = refl

pub word_is : (w k : Word) → bytes_eq w k ≡ true → w ≡ k
word_is w k e = (bytes_eq-Decides w k).0 e

pub word_same : (k : Word) → bytes_eq k k ≡ true
word_same k = (bytes_eq-Decides k k).1 refl

-- a word that may begin something isn't one that may not
pub differs : (begin : Word → Bool) (w k : Word) → begin w ≡ true → begin k ≡ false → (b : Bool) → bytes_eq w k ≡ b → b ≡ false
differs begin w k can cannot true e = let same : begin w ≡ begin k = ap begin (word_is w k e) in absurd cc
differs begin w k can cannot false e = refl

-- What may begin so may follow.
pub clears : (f : Follow) (begin : Word → Bool) (w : Word) (ws : List Word) → may_follow f begin ≡ true → begin w ≡ true → Clear f (w ∷ ws)
clears the_end begin w ws e h = absurd cc
clears (but []) begin w ws e h = tt
clears (but (v ∷ vs)) begin w ws e h =
    let parts = both (not (begin v)) (none_of begin vs) e in
    (differs begin w v h (is_not (begin v) parts.0) (bytes_eq w v) refl, clears (but vs) begin w ws parts.1 h)

-- ---- how texts begin

abbrev pub Heads : Bool → (Word → Bool) → List Word → Type 0
Heads empty begin [] = empty ≡ true
Heads empty begin (w ∷ ws) = begin w ≡ true

pub clears_heads : (f : Follow) (begin : Word → Bool) (a : List Word) (w : Word) (tail more : List Word) → may_follow f begin ≡ true → Heads false begin (a ++ w ∷ more) → Clear f (a ++ w ∷ tail)
clears_heads f begin [] w tail more e h = clears f begin w tail e h
clears_heads f begin (u ∷ a) w tail more e h = clears f begin u (a ++ w ∷ tail) e h

-- ---- answers

pub bind_ok : {A B E : Type 0} (r : Result A E) (f : A → Result B E) (y : B) → (r >>= f) ≡ Ok y → (x : A) × (r ≡ Ok x) × (f x ≡ Ok y)
bind_ok (Ok x) f y e = (x, refl, e)
bind_ok (Err d) f y e = absurd cc

pub bind_err : {A B E : Type 0} (r : Result A E) (f : A → Result B E) (d : E) → (r >>= f) ≡ Err d → (r ≡ Err d) ⊎ ((x : A) × (r ≡ Ok x) × (f x ≡ Err d))
bind_err (Ok x) f d e = inr (x, refl, e)
bind_err (Err c) f d e = inl cc

-- an answer, and the words that are left
abbrev pub leaves : {A : Type 0} → Result A Kind → List Word → Read A
leaves (Ok x) ws = Ok (x, ws)
leaves (Err kind) ws = Err (kind, ws)

pub ok_is : {A : Type 0} (x y : A) (a b : List Word) → leaves (Ok x) a ≡ leaves (Ok y) b → (x ≡ y) × (a ≡ b)
ok_is x y a b e = let p : (x, a) ≡ (y, b) = cc in (ap (λ (q : _ × List Word). q.0) p, ap (λ (q : _ × List Word). q.1) p)

pub err_is : {A : Type 0} (j k : Kind) (a b : List Word) → ◌≡◌ {A = Result A (Kind × List Word)} (Err (j, a)) (Err (k, b)) → (j ≡ k) × (a ≡ b)
err_is j k a b e = let p : ◌≡◌ {A = Kind × List Word} (j, a) (k, b) = cc in (ap (λ (q : Kind × List Word). q.0) p, ap (λ (q : Kind × List Word). q.1) p)

pub leaves_is : {A : Type 0} (o t : Result A Kind) (a b : List Word) → leaves o a ≡ leaves t b → (o ≡ t) × (a ≡ b)
leaves_is {A = A} (Ok x) (Ok y) a b e = let g = ok_is x y a b e in (ap (λ (z : A). Ok z) g.0, g.1)
leaves_is (Ok x) (Err k) a b e = absurd cc
leaves_is (Err j) (Ok y) a b e = absurd cc
leaves_is {A = A} (Err j) (Err k) a b e = let g = err_is {A = A × List Word} j k a b e in (ap (λ (i : Kind). Err i) g.0, g.1)

-- the same answer as another value
abbrev pub see : {A B : Type 0} → (A → B) → A × List Word → Read B
see make x = Ok (make x.0, x.1)

pub seen_ahead : {A B : Type 0} (make : A → B) (r : Read A) (o : Result B Kind) (ws vs : List Word) (after : Read B) → (r >>= see make) ≡ leaves o ws → ((t : Result A Kind) → r ≡ leaves t ws → after ≡ (leaves t vs >>= see make)) → after ≡ leaves o vs
seen_ahead {B = B} make (Ok (x, n)) o ws vs after e same =
    let g = leaves_is (Ok (make x)) o n ws e in
    same (Ok x) (ap (λ (m : List Word). leaves (Ok x) m) g.1) ∙ ap (λ (t : Result B Kind). leaves t vs) g.0
seen_ahead {A = A} {B = B} make (Err (k, n)) o ws vs after e same =
    let g = leaves_is (Err k) o n ws e in
    same (Err k) (ap (λ (m : List Word). leaves {A = A} (Err k) m) g.1) ∙ ap (λ (t : Result B Kind). leaves t vs) g.0

pub seen_ok : {A B : Type 0} (make : A → B) (r : Read A) (y : B) (ws : List Word) → (r >>= see make) ≡ Ok (y, ws) → (x : A) × (r ≡ Ok (x, ws)) × (make x ≡ y)
seen_ok make (Ok (x, n)) y ws e = let g = ok_is (make x) y n ws e in (x, ap (λ (m : List Word). leaves (Ok x) m) g.1, g.0)
seen_ok make (Err d) y ws e = absurd cc

pub seen_err : {A B : Type 0} (make : A → B) (r : Read A) (d : Kind × List Word) → (r >>= see make) ≡ Err d → r ≡ Err d
seen_err make (Ok x) d e = absurd cc
seen_err make (Err c) d e = cc

pub not_both : {A E : Type 0} (r : Result A E) (x : A) (e : E) → r ≡ Ok x → r ≡ Err e → ⊥
not_both r x e a b = cc

-- the same answer, with other words after one that is left
pub still : {A : Type 0} (t o : Result A Kind) (a b : List Word) (v : Word) (r s : List Word) → leaves t (a ++ v ∷ r) ≡ leaves o (b ++ v ∷ r) → leaves t (a ++ v ∷ s) ≡ leaves o (b ++ v ∷ s)
still t o a b v r s e =
    let g = leaves_is t o (a ++ v ∷ r) (b ++ v ∷ r) e in
    rw (append_cancel_right a b (v ∷ r) g.1, g.0) refl

-- ---- the laws

abbrev pub Faulting : Type 1
Faulting = List Word → Word → Kind → Type 0

-- Reading stopped before these words. What comes before them begins some text; a test that may stand there faults the
-- first of them so, or it is bad or missing.
pub record Stopped (A : Type 0) (spells : Grammar A) (faults : Faulting) (ws : List Word) (k : Kind) (rest : List Word) : Type 0 where
  pub front : List Word
  pub parts : ws ≡ front ++ rest
  pub starts : Begins spells front
  pub kind : (k ≡ BadWord) ⊎ ((v : Word) × (tail : List Word) × faults front v k × (rest ≡ v ∷ tail))

-- There is a text. What a text, or a word that is faulted, begins with; what is read is a text, and a text is read if
-- what follows may; what is faulted is refused so; where reading stops; and words after the first one left don't count.
pub record Laws (A : Type 0) (spells : Grammar A) (faults : Faulting) (empty : Bool) (begin : Word → Bool) (follow : Follow)
    (read : Reader A) : Type 0 where
  pub some : Begins spells []
  pub heads : (x : A) (ws : List Word) → spells x ws → Heads empty begin ws
  pub fault_heads : (front : List Word) (w : Word) (k : Kind) → faults front w k → Heads false begin (front ++ w ∷ [])
  pub takes : (ws : List Word) (x : A) (rest : List Word) → read ws ≡ Ok (x, rest) → (part : List Word) × spells x part
      × (ws ≡ part ++ rest)
  pub again : (x : A) (part rest : List Word) → spells x part → Clear follow rest → read (part ++ rest) ≡ Ok (x, rest)
  pub faulty : (front : List Word) (w : Word) (k : Kind) (tail : List Word) → faults front w k →
      read (front ++ w ∷ tail) ≡ Err (k, w ∷ tail)
  pub stops : (ws : List Word) (k : Kind) (rest : List Word) → read ws ≡ Err (k, rest) → Stopped A spells faults ws k rest
  pub ahead : (o : Result A Kind) (part left : List Word) (v : Word) (r s : List Word) → read (part ++ v ∷ r) ≡ leaves o (left ++ v ∷ r) →
      read (part ++ v ∷ s) ≡ leaves o (left ++ v ∷ s)

abbrev pub Lawful : {A : Type 0} → Form A → Type 0
Lawful {A = A} f = Laws A (Spells f) (Faults f) (empties f) (begins f) (follow f) (reads f)

pub heads_more : (e e' : Bool) (b b' : Word → Bool) → (e ≡ true → e' ≡ true) → ((w : Word) → b w ≡ true → b' w ≡ true) → (ws : List Word) → Heads e b ws → Heads e' b' ws
heads_more e e' b b' m n [] h = m h
heads_more e e' b b' m n (w ∷ ws) h = n w h

-- The same with more ways to begin, and fewer to follow.
pub weaken : (A : Type 0) (spells : Grammar A) (faults : Faulting) (e e' : Bool) (b b' : Word → Bool) (f f' : Follow) (read : Reader A) → (e ≡ true → e' ≡ true) → ((w : Word) → b w ≡ true → b' w ≡ true) → ((ws : List Word) → Clear f' ws → Clear f ws)
    → Laws A spells faults e b f read → Laws A spells faults e' b' f' read
weaken A spells faults e e' b b' f f' read m n less p = record {
  some = p.some;
  heads = λ x ws h. heads_more e e' b b' m n ws (p.heads x ws h);
  fault_heads = λ front w k h. heads_more false false b b' (λ x. x) n (front ++ w ∷ []) (p.fault_heads front w k h);
  takes = p.takes;
  again = λ x part rest h c. p.again x part rest h (less rest c);
  faulty = p.faulty;
  stops = p.stops;
  ahead = p.ahead;
}

-- what is read comes before what is left
pub splits : {A : Type 0} {spells : Grammar A} {faults : Faulting} {e : Bool} {b : Word → Bool} {f : Follow} {read : Reader A} → Laws A spells faults e b f read → (o : Result A Kind) (ws rest : List Word) → read ws ≡ leaves o rest → (part : List Word) × (ws ≡ part ++ rest)
splits p (Ok x) ws rest e = let t = p.takes ws x rest e in (t.0, t.2)
splits p (Err k) ws rest e = let s = p.stops ws k rest e in (s.front, s.parts)

-- A form that is never empty takes a word or more.
pub takes_some : {A : Type 0} {spells : Grammar A} {faults : Faulting} {e : Bool} {b : Word → Bool} {f : Follow} {read : Reader A} → Laws A spells faults e b f read → e ≡ false → Shrinks read
takes_some {e = e} {b = b} p some ws x rest is =
    let t = p.takes ws x rest is in
    omega (arith, by t.0 (p.heads x t.0 t.1), ap length t.2, length-append t.0 rest) where
      by : (ws : List Word) → Heads e b ws → 0 < length ws
      by [] h = absurd cc
      by (w ∷ ws) h = omega arith

-- ---- where reading stops

-- a word that no text can begin with, or none
pub misplaced_here : {A : Type 0} (spells : Grammar A) (faults : Faulting) (ws : List Word) (k : Kind) (rest : List Word) → Begins spells [] → misplaced {A = A} ws ≡ Err (k, rest) → Stopped A spells faults ws k rest
misplaced_here {A = A} spells faults ws k rest some e =
    let g = err_is {A = A × List Word} BadWord k ws rest e in
    record { front = []; parts = g.1; starts = some; kind = inl (sym g.0) }

-- Where a part stops the whole stops, after what comes before the part as well.
pub stopped_after : {A B : Type 0} {spells : Grammar A} {spells' : Grammar B} {faults faults' : Faulting} {k : Kind} {rest : List Word} (before part ws : List Word) → Stopped A spells faults part k rest → ws ≡ before ++ part
    → ((front : List Word) → Begins spells front → Begins spells' (before ++ front)) → ((front : List Word) (v : Word) → faults front v k → faults' (before ++ front) v k) → Stopped B spells' faults' ws k rest
stopped_after {rest = rest} before part ws s is starts kinds = record {
  front = before ++ s.front;
  parts = is ∙ ap (λ (m : List Word). before ++ m) s.parts ∙ sym (append_assoc before s.front rest);
  starts = starts s.front s.starts;
  kind = elim s.kind [ inl e ↦ inl e | inr h ↦ inr (h.0, h.1, kinds s.front h.0 h.2, h.3) ];
}

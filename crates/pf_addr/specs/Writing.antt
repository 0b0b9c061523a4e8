-- What a call that writes a text leaves in the writer, if the writer's bytes are known.
use Rattle.std.proofs.{Common.{◌≡◌, ℕ, ◌+◌, min, List, [], ◌++◌, length, take, arith, Option, Some, None, Result, Ok, Err, sym, ap, ◌∙◌, subst, append_assoc, append-nil}, lemmas.List.{take-append-le, take_min}, Math.Seq.take-append-add}
use Rattle.std.specs.{Prelude.{◌≢◌, IfErr}, Io.KnownBytes.{Appends, Keeps}, IoError.error_kind}
use Rattle.std.specs.declared.{io.Error.Error, io.ErrorKind.TheVariants.Interrupted}

-- some front of the text
abbrev pub WritesFront : Option (List ℕ) → Option (List ℕ) → List ℕ → Type 0
WritesFront old new text = (k : ℕ) × Appends old new (take k text)

-- the whole text on `Ok`, some front of it on `Err`
abbrev pub Writes : {A E : Type 0} → Result A E → Option (List ℕ) → Option (List ℕ) → List ℕ → Type 0
Writes (Ok u) old new text = Appends old new text
Writes (Err e) old new text = WritesFront old new text

-- The text is written; a write that a signal interrupts is tried again.
abbrev pub Wrote : {A : Type 0} → Result A Error → Option (List ℕ) → Option (List ℕ) → List ℕ → Type 0
Wrote r old new text = Writes r old new text × IfErr r (λ e. error_kind e ≢ Interrupted)

-- The text is written after what was written so far; if an earlier write failed, its error stays, and nothing more is written.
pub record Continues {A B : Type 0} (so_far : Result A Error) (mid : Option (List ℕ))
    (r : Result B Error) (new : Option (List ℕ)) (text : List ℕ) : Type 0 where
  pub following : (old : Option (List ℕ)) (front : List ℕ) → Wrote so_far old mid front → Wrote r old new (front ++ text)

-- ---- laws

pub Appends-none : (old : Option (List ℕ)) → Appends old old []
Appends-none None = tt
Appends-none (Some xs) = sym (append-nil xs)

pub Appends-then : (old mid new : Option (List ℕ)) (a b : List ℕ) → Appends old mid a → Appends mid new b → Appends old new (a ++ b)
Appends-then None mid new a b p q = tt
Appends-then (Some xs) None new a b p q = absurd p
Appends-then (Some xs) (Some ys) None a b p q = absurd q
Appends-then (Some xs) (Some ys) (Some zs) a b p q = q ∙ ap (λ (l : List ℕ). l ++ b) p ∙ append_assoc xs a b

pub Appends-kept : (old mid new : Option (List ℕ)) (a : List ℕ) → Appends old mid a → Keeps mid new → Appends old new a
Appends-kept None mid new a p q = tt
Appends-kept (Some xs) None new a p q = absurd p
Appends-kept (Some xs) (Some ys) None a p q = absurd q
Appends-kept (Some xs) (Some ys) (Some zs) a p q = q ∙ p

-- If the first of two texts fails, a front of both is written.
pub WritesFront-longer : (old new : Option (List ℕ)) (a b : List ℕ) → WritesFront old new a → WritesFront old new (a ++ b)
WritesFront-longer old new a b w = (min w.0 (length a), rw (take-append-le (min w.0 (length a)) a b (omega arith), take_min w.0 a) w.1)

-- If the second fails, the first text and a front of the second are a front of both.
pub WritesFront-then : (old mid new : Option (List ℕ)) (a b : List ℕ) → Appends old mid a → WritesFront mid new b →
    WritesFront old new (a ++ b)
WritesFront-then old mid new a b p w = (length a + w.0, rw (take-append-add a b w.0) (Appends-then old mid new a (take w.0 b) p w.1))

-- One text and then another.
pub Writes-then : {A E : Type 0} (r : Result A E) (old mid new : Option (List ℕ)) (a b : List ℕ) → Appends old mid a → Writes r mid new b →
    Writes r old new (a ++ b)
Writes-then (Ok u) old mid new a b p w = Appends-then old mid new a b p w
Writes-then (Err e) old mid new a b p w = WritesFront-then old mid new a b p w

-- ---- one after the other

pub Continues-then : {A B C : Type 0} {q : Result A Error} {r : Result B Error} {s : Result C Error} {old mid new : Option (List ℕ)}
    {a b : List ℕ} → Continues q old r mid a → Continues r mid s new b → Continues q old s new (a ++ b)
Continues-then {s = s} {new = new} {a = a} {b = b} first second = record {
  following = λ at front w. subst (λ (text : List ℕ). Wrote s at new text) (append_assoc front a b)
      (second.following at (front ++ a) (first.following at front w));
}

pub Continues-ok : {A B : Type 0} (q : Result A Error) (u : A) (r : Result B Error) (mid new : Option (List ℕ)) (text : List ℕ) → q ≡ Ok u →
    Writes r mid new text → IfErr r (λ e. error_kind e ≢ Interrupted) → Continues q mid r new text
Continues-ok {A = A} q u r mid new text is p retried = record {
  following = λ old front w. (
    Writes-then r old mid new front text (let h : Wrote {A = A} (Ok u) old mid front =
        subst (λ (x : Result A Error). Wrote x old mid front) is w in h.0) p,
    retried,
  );
}

pub Continues-err : {A B : Type 0} (q : Result A Error) (e : Error) (mid : Option (List ℕ)) (text : List ℕ) → q ≡ Err e →
    Continues {B = B} q mid (Err e) mid text
Continues-err {A = A} q e mid text is = record {
  following = λ old front w. let h : Wrote {A = A} (Err e) old mid front = subst (λ (x : Result A Error). Wrote x old mid front) is w in
      (WritesFront-longer old mid front text h.0, h.1);
}

-- after nothing
pub after_nothing : {A B : Type 0} (u : A) {r : Result B Error} {mid new : Option (List ℕ)} {text : List ℕ} →
    Continues {A = A} (Ok u) mid r new text → Wrote r mid new text
after_nothing u {mid = mid} all = all.following mid [] (Appends-none mid, tt)

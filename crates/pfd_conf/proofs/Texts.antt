-- Texts that are written one after another.
use Rattle.std.proofs.Common.{◌≡◌, ℕ, ◌+◌, ◌<◌, ◌≤◌, List, [], ◌∷◌, ◌++◌, length, take, drop, get_or, Option, Result, Ok, Err, refl, sym, ap, ◌∙◌, subst, append_assoc, append-nil, arith}
use Rattle.std.proofs.{lemmas.List.{take_all, take-append-drop, get_or_default}, lemmas.Grind.flat_map-append, Math.Seq.take-append_seam}
use Rattle.std.specs.{List.flat_map, Prelude.codes, Io.KnownBytes.{Appends, Keeps}, Result.{IsErrAnd, OnOk}, declared.io.Error.Error}
use denote.Ref.{Bor}
use Rattle.pf_addr.specs.Writing.{Writes, WritesFront, WritesFront-longer, WritesFront-then, Continues, Continues-then, Appends-none, Appends-then, Appends-kept}
use Rattle.pf_form.specs.Form.Words.{Word, texts}
use Rattle.pfd_conf.specs.Reports.{spaced}
use Rattle.pf_conf.proofs.{Steps.{take_item, drop_item}, Texts.Before}

-- ---- a text for each of a list

more_text : {X : Type 0} → (text : X → List ℕ) (xs : List X) (i : ℕ) (x : X) → i < length xs → x ≡ get_or xs i x →
    flat_map text (take (i + 1) xs) ≡ flat_map text (take i xs) ++ text x
more_text {X} text xs i x within here =
    ap (flat_map text) (take_item xs i x within here) ∙ flat_map-append text (take i xs) (x ∷ [])
    ∙ ap (λ (t : List ℕ). flat_map text (take i xs) ++ t) (append-nil (text x))

pub one_more : {X : Type 0} → (text : X → List ℕ) (p q r : Result (Unit {0}) Error) (old mid new : Option (List ℕ)) (xs : List X) (i : ℕ)
    (x : X) → i < length xs → x ≡ get_or xs i x → Before text p old q mid xs i → Continues q mid r new (text x) →
    Before text p old r new xs (i + 1)
one_more {X} text p q r old mid new xs i x within here so_far next =
    subst (λ (t : List ℕ). Continues p old r new t) (sym (more_text text xs i x within here)) (Continues-then so_far next)

pub all_written : {X : Type 0} → (text : X → List ℕ) (p q : Result (Unit {0}) Error) (old new : Option (List ℕ)) (xs : List X) (i : ℕ) →
    length xs ≤ i → Before text p old q new xs i → Continues p old q new (flat_map text xs)
all_written {X} text p q old new xs i past so_far = subst (λ (ys : List X). Continues p old q new (flat_map text ys)) (take_all i xs past)
    so_far

-- a word behind a space, for each word
abbrev pub after_space : Bor Word → List ℕ
after_space w = codes " " ++ w.now

pub spaced_words : (ws : List (Bor Word)) → flat_map after_space ws ≡ spaced (texts ws)
spaced_words [] = refl
spaced_words (w ∷ ws) = ap (λ (t : List ℕ). after_space w ++ t) (spaced_words ws)

-- ---- texts that may stop

pub whole_front : (old new : Option (List ℕ)) (text : List ℕ) → Appends old new text → WritesFront old new text
whole_front old new text p =
    let all : length text ≤ length text = omega arith in
    (length text, subst (Appends old new) (sym (take_all (length text) text all)) p)

pub some_front : {A E : Type 0} → (r : Result A E) (old new : Option (List ℕ)) (text : List ℕ) → Writes r old new text →
    WritesFront old new text
some_front (Ok u) old new text w = whole_front old new text w
some_front (Err e) old new text w = w

pub all_at_ok : {A E : Type 0} → (r : Result A E) (u : A) (old new : Option (List ℕ)) (text : List ℕ) → r ≡ Ok u → Writes r old new text →
    Appends old new text
all_at_ok {A} {E} r u old new text is w =
    let h : Writes {A = A} {E = E} (Ok u) old new text =
    subst (λ (x : Result A E). Writes x old new text) is w in
    h

-- a text, and nothing of the next
pub front_only : (old new : Option (List ℕ)) (a b : List ℕ) → Appends old new a → WritesFront old new (a ++ b)
front_only old new a b p = (length a, subst (Appends old new) (sym (take-append_seam a b)) p)

-- a front is enough where it stops
pub stopped : {A E : Type 0} → (Q : E → Type 0) (r : Result A E) (old new : Option (List ℕ)) (text : List ℕ) → IsErrAnd r Q →
    WritesFront old new text → Writes r old new text
stopped Q (Ok x) old new text is w = absurd is
stopped Q (Err e) old new text is w = w

-- what was written stays when it is flushed
pub kept_front : (old mid new : Option (List ℕ)) (text : List ℕ) → Appends old mid text → Keeps mid new → WritesFront old new text
kept_front old mid new text p kept = whole_front old new text (Appends-kept old mid new text p kept)

-- a result that tells of a text whether it was written
pub as_written : {A B E F : Type 0} → (r : Result B F) (p : Result A E) (u : A) (old new : Option (List ℕ)) (text : List ℕ) →
    OnOk r (p ≡ Ok u) → Writes p old new text → Writes r old new text
as_written (Ok x) p u old new text is w = all_at_ok p u old new text is w
as_written (Err e) p u old new text is w = some_front p old new text w

-- the last flush
pub flushed : {E : Type 0} → (r : Result (Unit {0}) E) (old mid new : Option (List ℕ)) (text : List ℕ) → Appends old mid text →
    Keeps mid new → Writes r old new text
flushed (Ok u) old mid new text p kept = Appends-kept old mid new text p kept
flushed (Err e) old mid new text p kept = kept_front old mid new text p kept

-- Of a text this much was written, and this is left.
pub record WroteOf (old new : Option (List ℕ)) (all left : List ℕ) : Type 0 where
  pub done : List ℕ
  pub whole : all ≡ done ++ left
  pub written : Appends old new done

pub none_of : (old : Option (List ℕ)) (all : List ℕ) → WroteOf old old all all
none_of old all = record { done = []; whole = refl; written = Appends-none old }

pub more_of : (old mid new : Option (List ℕ)) (all left text rest : List ℕ) → WroteOf old mid all left → left ≡ text ++ rest →
    Appends mid new text → WroteOf old new all rest
more_of old mid new all left text rest so_far is next = record {
  done = so_far.done ++ text;
  whole = so_far.whole ∙ ap (λ (l : List ℕ). so_far.done ++ l) is ∙ sym (append_assoc so_far.done text rest);
  written = Appends-then old mid new so_far.done text so_far.written next;
}

pub stopped_of : (old mid new : Option (List ℕ)) (all left text rest : List ℕ) → WroteOf old mid all left → left ≡ text ++ rest →
    WritesFront mid new text → WritesFront old new all
stopped_of old mid new all left text rest so_far is next =
    subst (WritesFront old new) (sym (so_far.whole ∙ ap (λ (l : List ℕ). so_far.done ++ l) is))
    (WritesFront-then old mid new so_far.done (text ++ rest) so_far.written (WritesFront-longer mid new text rest next))

-- where nothing more is written, what was is a front
pub front_of : (old new : Option (List ℕ)) (all left : List ℕ) → WroteOf old new all left → WritesFront old new all
front_of old new all left so_far = subst (WritesFront old new) (sym so_far.whole) (front_only old new so_far.done left so_far.written)

pub all_of : (old new : Option (List ℕ)) (all left : List ℕ) → WroteOf old new all left → left ≡ [] → Appends old new all
all_of old new all left so_far none =
    subst (Appends old new) (sym (so_far.whole ∙ ap (λ (l : List ℕ). so_far.done ++ l) none ∙ append-nil so_far.done)) so_far.written

-- ---- steps of which each may stop

-- the texts of those before this one are written
abbrev pub AreWrittenBefore : {X : Type 0} → (X → List ℕ) → Option (List ℕ) → Option (List ℕ) → List X → ℕ → Type 0
AreWrittenBefore text old new xs i = Appends old new (flat_map text (take i xs))

pub one_written : {X : Type 0} → (text : X → List ℕ) (old mid new : Option (List ℕ)) (xs : List X) (i : ℕ) (x : X) → i < length xs →
    x ≡ get_or xs i x → AreWrittenBefore text old mid xs i → Appends mid new (text x) → AreWrittenBefore text old new xs (i + 1)
one_written {X} text old mid new xs i x within here so_far next =
    subst (Appends old new) (sym (more_text text xs i x within here))
    (Appends-then old mid new (flat_map text (take i xs)) (text x) so_far next)

pub all_are_written : {X : Type 0} → (text : X → List ℕ) (old new : Option (List ℕ)) (xs : List X) (i : ℕ) → length xs ≤ i →
    AreWrittenBefore text old new xs i → Appends old new (flat_map text xs)
all_are_written {X} text old new xs i past so_far = subst (λ (ys : List X). Appends old new (flat_map text ys)) (take_all i xs past) so_far

-- where one stops, a front of all is written
pub front_written : {X : Type 0} → (text : X → List ℕ) (old mid new : Option (List ℕ)) (xs : List X) (i : ℕ) (x : X) → i < length xs →
    x ≡ get_or xs i x → AreWrittenBefore text old mid xs i → WritesFront mid new (text x) → WritesFront old new (flat_map text xs)
front_written {X} text old mid new xs i x within here so_far next =
    let rest : List ℕ = flat_map text (drop (i + 1) xs) in
    let whole : flat_map text xs ≡ flat_map text (take i xs) ++ (text x ++ rest) =
    ap (flat_map text) (sym (take-append-drop i xs)) ∙ flat_map-append text (take i xs) (drop i xs)
    ∙ ap (λ (ys : List X). flat_map text (take i xs) ++ flat_map text ys) (drop_item xs i x within here) in
    subst (WritesFront old new) (sym whole)
    (WritesFront-then old mid new (flat_map text (take i xs)) (text x ++ rest) so_far (WritesFront-longer mid new (text x) rest next))

-- ---- the same, where one of them is read by its place

pub one_written_at : {X : Type 0} → (text : X → List ℕ) (old mid new : Option (List ℕ)) (xs : List X) (i : ℕ) (d : X) → i < length xs →
    AreWrittenBefore text old mid xs i → Appends mid new (text (get_or xs i d)) → AreWrittenBefore text old new xs (i + 1)
one_written_at text old mid new xs i d within so_far next =
    one_written text old mid new xs i (get_or xs i d) within (get_or_default xs i d (get_or xs i d) within) so_far next

pub front_written_at : {X : Type 0} → (text : X → List ℕ) (old mid new : Option (List ℕ)) (xs : List X) (i : ℕ) (d : X) → i < length xs →
    AreWrittenBefore text old mid xs i → WritesFront mid new (text (get_or xs i d)) → WritesFront old new (flat_map text xs)
front_written_at text old mid new xs i d within so_far next =
    front_written text old mid new xs i (get_or xs i d) within (get_or_default xs i d (get_or xs i d) within) so_far next

-- A list that is read part after part.
use Rattle.std.proofs.{Common.{◌≡◌, ◌<◌, true, false, List, [], ◌∷◌, ◌++◌, length, Result, Ok, Err, refl, sym, ap, subst, ◌∙◌, append_assoc, append-nil, arith}, lemmas.Bool.Decides.nat_tests}
use Rattle.std.specs.Prelude.{IsErrAnd, ◌==◌}
use denote.Ref.{Bor}
use Rattle.pf_form.specs.declared.{form.fault.Kind.Kind, form.fault.WordFault.WordFault, form.fault.Unread.Unread, form.fault.Unread.TheVariants.Stopped}
use Rattle.pf_form.specs.{Form.Words.{Word, texts}, Form.Forms.{Reader, Read, ◌>>=◌, any_by, onto, one_or_more_by}, Form.Readers.{Fails, GivesAll, Shrinks, each_by}, Laws.Form.Decided.leaves, Laws.Form.Lists.{in_front, one_more, one_failed}}

-- these, and then what the others gave
abbrev pub after : {A : Type 0} → List A → Read (List A) → Read (List A)
after xs r = r >>= λ y. Ok (xs ++ y.0, y.1)

not_none : (ws : List (Bor Word)) → (length ws == 0) ≡ false → 0 < length (texts ws)
not_none [] e = absurd cc
not_none (w ∷ ws) e = omega arith

abbrev IsFault : {A : Type 0} → Result A Unread → WordFault → Type 0
IsFault r s = IsErrAnd r (λ e. e ≡ Stopped s)

fails_so : {X A : Type 0} (view : X → A) (r : Result X Unread) (s : WordFault) (q : Result A (Kind × List Word)) → IsFault r s → Fails s q → GivesAll view r q
fails_so view (Ok x) s q h e = absurd h
fails_so view (Err d) s q h e = subst (λ (u : Unread). GivesAll view (Err u) q) (sym h) e

-- the fault that made a function fail
fault_of : {A : Type 0} (s : WordFault) (r : Result A (Kind × List Word)) → Fails s r → (d : Kind × List Word) × (r ≡ Err d) × ((s.kind ≡ d.0) × (s.left ≡ length d.1))
fault_of s (Ok x) h = absurd h
fault_of s (Err d) h = (d, refl, h)

module _ (A : Type 0) (read : Reader A) (shrinks : Shrinks read) where
  abbrev pairing : A → List A × List Word → Read (A × List A)
  pairing x y = Ok ((x, y.0), y.1)

  abbrev joining : (A × List A) × List Word → Read (List A)
  joining z = Ok (onto z.0, z.1)

  pub first_read : (ws : List Word) (x : A) (rest : List Word) → read ws ≡ Ok (x, rest) → one_or_more_by read ws ≡ after (x ∷ []) (any_by read rest)
  first_read ws x rest e = rw e (by_others (any_by read rest)) where
    by_others : (r : Read (List A)) → (r >>= pairing x >>= joining) ≡ after (x ∷ []) r
    by_others (Ok y) = refl
    by_others (Err d) = refl

  after_all : (x : A) (xs : List A) (r : Read (List A)) → after xs (r >>= in_front x) ≡ after (xs ++ x ∷ []) r
  after_all x xs (Ok y) = ap (λ (zs : List A). leaves (Ok zs) y.1) (sym (append_assoc xs (x ∷ []) y.0))
  after_all x xs (Err d) = refl

  pub one_further : (all : List Word) (xs ys : List A) (x : A) (ws vs : List Word) → one_or_more_by read all ≡ after xs (any_by read ws) → read ws ≡ Ok (x, vs) → ys ≡ xs ++ x ∷ [] → one_or_more_by read all ≡ after ys (any_by read vs)
  one_further all xs ys x ws vs so_far e is = so_far ∙ ap (after xs) (one_more A read shrinks ws x vs e) ∙ after_all x xs (any_by read vs) ∙ ap (λ (zs : List A). after zs (any_by read vs)) (sym is)

  failed : (ws : List Word) (s : WordFault) (d : Kind × List Word) → one_or_more_by read ws ≡ Err d → (s.kind ≡ d.0) × (s.left ≡ length d.1) → Fails s (each_by read ws)
  failed ws s d e h = rw e h

  first_failed : (ws : List Word) (d : Kind × List Word) → read ws ≡ Err d → one_or_more_by read ws ≡ Err d
  first_failed ws d e = rw e refl

  pub first_fault : {X : Type 0} (view : X → List A) (r : Result X Unread) (ws : List Word) (s : WordFault) → IsFault r s → Fails s (read ws) → GivesAll view r (each_by read ws)
  first_fault view r ws s h f =
      let d = fault_of s (read ws) f in
      fails_so view r s (each_by read ws) h (failed ws s d.0 (first_failed ws d.0 d.1) d.2)

  pub further_fault : {X : Type 0} (view : X → List A) (r : Result X Unread) (all : List Word) (xs : List A) (ws : List (Bor Word)) (s : WordFault) → one_or_more_by read all ≡ after xs (any_by read (texts ws)) → (length ws == 0) ≡ false → IsFault r s → Fails s (read (texts ws)) → GivesAll view r (each_by read all)
  further_fault view r all xs ws s so_far some h f =
      let d = fault_of s (read (texts ws)) f in
      let lt : 0 < length (texts ws) = not_none ws some in
      let one : any_by read (texts ws) ≡ Err d.0 = one_failed A read shrinks (texts ws) d.0 lt d.1 in
      fails_so view r s (each_by read all) h (failed all s d.0 (so_far ∙ ap (after xs) one) d.2)

  pub all_read : (all : List Word) (xs : List A) (ws : List (Bor Word)) → one_or_more_by read all ≡ after xs (any_by read (texts ws)) → (length ws == 0) ≡ true → each_by read all ≡ Ok xs
  all_read all xs [] so_far none = rw (so_far ∙ ap (λ (zs : List A). leaves (Ok zs) []) (append-nil xs)) refl
  all_read all xs (w ∷ ws) so_far none = absurd (grind (arith, nat_tests))

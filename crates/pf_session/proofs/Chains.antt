-- Steps one after the other.
use Rattle.std.proofs.Common.{◌≡◌, ◌∙◌, ℕ, List, [], ◌∷◌, ◌++◌, refl, sym, ap, subst, append_assoc, append-nil}
use Rattle.pf_session.specs.LineEngine.Chains.{Chain}

module _ {S L : Type 0} (Step : L → S → S → List ℕ → Type 0) where
  -- no steps leave the state and have no text
  pub chain-none : (a : S) → Chain Step a a [] []
  chain-none a = (refl, refl)

  pub chain-one : (a b : S) (x : L) (s : List ℕ) → Step x a b s → Chain Step a b (x ∷ []) s
  chain-one a b x s step = (b, s, [], step, (refl, refl), sym (append-nil s))

  pub chain-then : (a b c : S) (xs ys : List L) (s t : List ℕ) → Chain Step a b xs s → Chain Step b c ys t → Chain Step a c (xs ++ ys) (s ++ t)
  chain-then a b c [] ys s t p q =
      let from : Chain Step a c ys t = subst (λ (x : S). Chain Step x c ys t) p.0 q in
      subst (λ (l : List ℕ). Chain Step a c ys (l ++ t)) (sym p.1) from
  chain-then a b c (x ∷ xs) ys s t (mid, first, rest, step, more, text) q =
      (mid, first, rest ++ t, step, chain-then mid b c xs ys rest t more q, ap (λ (l : List ℕ). l ++ t) text ∙ append_assoc first rest t)

  -- what each step does to the state, all of them do
  pub chain-moves : (Moves : S → S → Type 0) → ((a b : S) → b ≡ a → Moves a b) → ((a b c : S) → Moves a b → Moves b c → Moves a c)
      → ((x : L) (a b : S) (text : List ℕ) → Step x a b text → Moves a b) → (a b : S) (xs : List L) (text : List ℕ) → Chain Step a b xs text → Moves a b
  chain-moves Moves still then one a b [] text (same, none) = still a b same
  chain-moves Moves still then one a b (x ∷ xs) text (mid, first, rest, step, more, is) =
      then a mid b (one x a mid first step) (chain-moves Moves still then one mid b xs rest more)

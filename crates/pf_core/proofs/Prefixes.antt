-- Fronts of lists, and some groups among others.
use Rattle.std.proofs.Common.{◌≡◌, ℕ, zero, suc, inl, inr, List, [], ◌∷◌, ◌++◌, take, drop, take-append-drop, refl, sym, ap, ◌∙◌, subst, append_assoc}
use Rattle.pf_core.specs.{Durable.Changes.PlainChange, History.AreAmong, Laws.Openings.IsFrontOf, Worlds.flat}

pub flat-append : (xs ys : List (List PlainChange)) → flat (xs ++ ys) ≡ flat xs ++ flat ys
flat-append [] ys = refl
flat-append (x ∷ xs) ys = ap (λ (z : List PlainChange). x ++ z) (flat-append xs ys) ∙ sym (append_assoc x (flat xs) (flat ys))

-- ---- fronts

pub front-more : {A : Type 0} (xs ys : List A) → IsFrontOf xs (xs ++ ys)
front-more xs ys = (ys, refl)

pub front-trans : {A : Type 0} (xs ys zs : List A) → IsFrontOf xs ys → IsFrontOf ys zs → IsFrontOf xs zs
front-trans {A} xs ys zs f g = (f.0 ++ g.0, g.1 ∙ ap (λ (l : List A). l ++ g.0) f.1 ∙ append_assoc xs f.0 g.0)

pub front-onto : {A : Type 0} (ps xs ys : List A) → IsFrontOf xs ys → IsFrontOf (ps ++ xs) (ps ++ ys)
front-onto {A} ps xs ys f = (f.0, ap (λ (l : List A). ps ++ l) f.1 ∙ sym (append_assoc ps xs f.0))

pub front-take : {A : Type 0} (n : ℕ) (xs : List A) → IsFrontOf (take n xs) xs
front-take n xs = (drop n xs, sym (take-append-drop n xs))

pub front-flat : (xs ys : List (List PlainChange)) → IsFrontOf xs ys → IsFrontOf (flat xs) (flat ys)
front-flat xs ys f = (flat f.0, ap flat f.1 ∙ flat-append xs f.0)

-- ---- parts

pub among-none : (os : List (List PlainChange)) → AreAmong [] os
among-none [] = refl
among-none (o ∷ os) = inl (among-none os)

pub among-refl : (os : List (List PlainChange)) → AreAmong os os
among-refl [] = refl
among-refl (o ∷ os) = inr (os, refl, among-refl os)

pub among-take : (n : ℕ) (os : List (List PlainChange)) → AreAmong (take n os) os
among-take zero os = among-none os
among-take (suc n) [] = refl
among-take (suc n) (o ∷ os) = inr (take n os, refl, among-take n os)

pub among-append : (gs os gs' os' : List (List PlainChange)) → AreAmong gs os → AreAmong gs' os' → AreAmong (gs ++ gs') (os ++ os')
among-append gs [] gs' os' h k = subst (λ (l : List (List PlainChange)). AreAmong (l ++ gs') os') (sym h) k
among-append gs (o ∷ os) gs' os' (inl h) k = inl (among-append gs os gs' os' h k)
among-append gs (o ∷ os) gs' os' (inr h) k = inr (h.0 ++ gs', ap (λ (l : List (List PlainChange)). l ++ gs') h.1, among-append h.0 os gs' os' h.2 k)

pub among-trans : (xs ys zs : List (List PlainChange)) → AreAmong xs ys → AreAmong ys zs → AreAmong xs zs
among-trans xs ys [] h k = subst (λ (l : List (List PlainChange)). AreAmong xs l) k h
among-trans xs ys (z ∷ zs) h (inl k) = inl (among-trans xs ys zs h k)
among-trans xs ys (z ∷ zs) h (inr k) = below xs k.0 z zs (subst (λ (l : List (List PlainChange)). AreAmong xs l) k.1 h) (λ us. among-trans us k.0 zs) k.2
  where
    below : (xs rest : List (List PlainChange)) (z : List PlainChange) (zs : List (List PlainChange)) → AreAmong xs (z ∷ rest) → ((us : List (List PlainChange)) → AreAmong us rest → AreAmong rest zs → AreAmong us zs) → AreAmong rest zs → AreAmong xs (z ∷ zs)
    below xs rest z zs (inl h) on k = inl (on xs h k)
    below xs rest z zs (inr h) on k = inr (h.0, h.1, on h.0 h.2 k)

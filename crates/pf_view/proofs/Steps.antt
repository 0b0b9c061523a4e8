-- Each step keeps the rule of the copies.
use Rattle.std.proofs.Common.{◌≡◌, ◌≢◌, ◌⊎◌, ℕ, List, [], ◌∷◌, fold, set, refl, sym, subst, inl, inr}
use mathlib.Core.List.{IsPrefix}
use mathlib.Core.Option.{some}
use lib.ListN.{get_elem?}
use Rattle.crossbeam_utils.specs.Register.{Admits, TurnsAt}
use Rattle.atomic_table.proofs.Lists.{at_set, at_snoc}
use Rattle.logbook.specs.Pages.{Book}
use Rattle.pf_core.specs.Durable.Changes.{PlainDurable, PlainChange}
use Rattle.pf_view.specs.Copies.{PlainShown, with_operation, offered_version, IsChain, Keeps, Sees}
use Rattle.pf_view.proofs.Prefixes.{prefix_self, prefix_trans}

-- a new view has seen nothing
pub admits : (base : PlainDurable) (history : Book) → Admits (Keeps base history) []
admits base history x views h = (h.0, λ seat v at. front seat v (at_snoc views [] v seat at))
  where
    front : (seat : ℕ) (v : List PlainChange) → (get_elem? views seat ≡ some v) ⊎ ([] ≡ v) → IsPrefix v x.changes
    front seat v (inl t) = h.1 seat v t
    front seat v (inr e) = subst (λ (l : List PlainChange). IsPrefix l x.changes) e (x.changes, refl)

-- a copy that only adds changes, and is a chain, may be shown
pub turns : (base : PlainDurable) (history : Book) (seat : ℕ) (v : List PlainChange) (x y : PlainShown) → IsPrefix x.changes y.changes →
    IsChain base history y → TurnsAt (Keeps base history) seat v x y (Sees base history)
turns base history seat v x y grows chain views h at = (w, (chain, fronts), (mine, refl, chain))
  where
    w : List PlainChange
    w = y.changes

    mine : IsPrefix v w
    mine = prefix_trans v x.changes w (h.1 seat v at) grows

    front : (j : ℕ) (u : List PlainChange) → ((j ≡ seat) × (w ≡ u)) ⊎ ((j ≢ seat) × (get_elem? views j ≡ some u)) → IsPrefix u w
    front j u (inl t) = subst (λ (l : List PlainChange). IsPrefix l w) t.1 (prefix_self w)
    front j u (inr t) = prefix_trans u x.changes w (h.1 j u t.1) grows

    fronts : (j : ℕ) (u : List PlainChange) → get_elem? (set views seat w) j ≡ some u → IsPrefix u w
    fronts j u e = front j u (at_set views seat j w u e)

-- a seer takes the copy as it is
pub enters : (base : PlainDurable) (history : Book) (seat : ℕ) (v : List PlainChange) (x : PlainShown) → TurnsAt (Keeps base history) seat v x x (Sees base history)
enters base history seat v x views h at = turns base history seat v x x (prefix_self x.changes) h.0 views h at

-- operations only add changes
pub fold_grows : (x : PlainShown) (operations : List PlainShown) → IsPrefix x.changes (fold with_operation x operations).changes
fold_grows x [] = prefix_self x.changes
fold_grows x (o ∷ os) = prefix_trans x.changes (with_operation x o).changes (fold with_operation (with_operation x o) os).changes
    (o.changes, refl) (fold_grows (with_operation x o) os)

-- what is offered may be shown
pub publishes : (base : PlainDurable) (history : Book) (seat : ℕ) (v : List PlainChange) (x y : PlainShown) (operations : List PlainShown) →
    y ≡ offered_version x operations → IsChain base history (offered_version x operations) → TurnsAt (Keeps base history) seat v x y (Sees base history)
publishes base history seat v x y operations is chain = turns base history seat v x y
    (subst (λ (s : PlainShown). IsPrefix x.changes s.changes) (sym is) (fold_grows x operations))
    (subst (λ (s : PlainShown). IsChain base history s) (sym is) chain)

-- Maps whose values are lists: what is left of them once lists were replaced in turn.
use Rattle.std.proofs.{Common.{◌≡◌, ◌≢◌, Bool, true, false, cond, List, [], ◌∷◌, Option, Some, None, refl, sym, ap, subst, ◌∙◌}, lemmas.Cmp.eq_by_cmp_equiv}
use Rattle.std.specs.{Cmp.IsTotalOrder, FinMap.find, FinMap.Entries.same_entries, Ordering.eq_by_cmp}
use Rattle.std.specs.declared.cmp.Ordering.{Ordering}
use Rattle.pf_map.specs.{ListMaps.{unless_empty, list_in, list_at, with_list, IsListMap, list_by, ReplacesLists, StaysListMap, OneListMap}, Maps.IsMap}
use Rattle.pf_map.proofs.Maps.{replaces_the_key, stays_sorted}

list_kept : {X : Type 0} (b : Bool) (xs : List X) (old : Option (List X)) → list_in (cond b (unless_empty xs) old) ≡ cond b xs (list_in old)
list_kept true [] old = refl
list_kept true (x ∷ xs) old = refl
list_kept false xs old = refl

never_empty : {X : Type 0} (b : Bool) (xs : List X) (old : Option (List X)) → old ≢ Some [] → cond b (unless_empty xs) old ≢ Some []
never_empty true [] old h = λ e. absurd (cc (e))
never_empty true (x ∷ xs) old h = λ e. absurd (cc (e))
never_empty false xs old h = h

found_kept : {X : Type 0} (v : Option (List X)) → v ≢ Some [] → unless_empty (list_in v) ≡ v
found_kept None some = refl
found_kept (Some []) some = absurd (some refl)
found_kept (Some (x ∷ xs)) some = refl

module _ {K : Type 0} (X : Type 0) {R : K → K → Ordering} (o : IsTotalOrder R) where
  pub list_replaced : (es : List (K × List X)) (new : K × List X) (q : K) → list_at R q (with_list R es new) ≡ cond (eq_by_cmp R new.0 q) new.1 (list_at R q es)
  list_replaced es new q =
      ap list_in (replaces_the_key (List X) o es new.0 (unless_empty new.1) q)
      ∙ list_kept (eq_by_cmp R q new.0) new.1 (find R q es)
      ∙ ap (λ (b : Bool). cond b new.1 (list_at R q es)) ((eq_by_cmp_equiv o).symm q new.0)

  map_with : (es : List (K × List X)) (new : K × List X) → IsListMap R es → IsListMap R (with_list R es new)
  map_with es new is = record {
    sorted = stays_sorted (List X) o es new.0 (unless_empty new.1) is.sorted;
    filled = λ k. subst (λ v. v ≢ Some []) (sym (replaces_the_key (List X) o es new.0 (unless_empty new.1) k)) (never_empty (eq_by_cmp R k new.0) new.1 (find R k es) (is.filled k));
  }

  pub list_maps_stay : StaysListMap X R
  list_maps_stay [] es is = is
  list_maps_stay (i ∷ items) es is = list_maps_stay items (with_list R es i) (map_with es i is)

  pub lists_replaced : ReplacesLists X R
  lists_replaced [] es k = refl
  lists_replaced (i ∷ items) es k = lists_replaced items (with_list R es i) k ∙ ap (λ (old : List X). list_by R items k old) (list_replaced es i k)

  pub one_list_map : OneListMap X R
  one_list_map same a b left right read =
      same_entries R o same a b left.sorted right.sorted
      (λ k. sym (found_kept (find R k a) (left.filled k)) ∙ ap unless_empty (read k) ∙ found_kept (find R k b) (right.filled k))

-- a map of kept lists has no empty one
pub list_map_is : {K X : Type 0} {R : K → K → Ordering} (es : List (K × List X)) → IsMap R unless_empty es → IsListMap R es
list_map_is es is = record { sorted = is.sorted; filled = λ k there. absurd (cc (is.some k [] there)) }

kept_some : {X : Type 0} (xs : List X) → xs ≢ [] → unless_empty xs ≡ Some xs
kept_some [] some = absurd (some refl)
kept_some (x ∷ xs) some = refl

-- and of one that has no empty list all are kept
pub is_kept_map : {K X : Type 0} {R : K → K → Ordering} (es : List (K × List X)) → IsListMap R es → IsMap R unless_empty es
is_kept_map es is = record { sorted = is.sorted; some = λ k v there. kept_some v (λ empty. is.filled k (there ∙ ap (λ xs. Some xs) empty)) }

-- The answers of the tables at one path stand together, and a name is found among them as it is among all.
use Rattle.std.proofs.{Common.{◌≡◌, ℕ, zero, suc, ◌<◌, ◌≤◌, T, Bool, true, false, cond, List, [], ◌∷◌, length, take, drop, get_or, None, Some, ◌-◌, refl, sym, ap, subst, ◌∙◌, arith}, lemmas.{Cmp.{upto, alike_right, nat_list_cmp_total}, List.take_rest}}
use Rattle.std.specs.{declared.{cmp.Ordering.Ordering, cmp.Ordering.TheVariants.Less, cmp.Ordering.TheVariants.Equal, cmp.Ordering.TheVariants.Greater}, Ordering.{is_gt, is_ge, is_eq, eq_by_cmp, ordering_then}, Cmp.IsTotalOrder, FinMap.{find, is_sorted}, FinMap.Entries.below_all, List.Sorted.{IsPartitionedBy, IsPartitionPoint}}
use Rattle.pf_addr.specs.Path.Paths.{path_order}
use Rattle.pf_rule.specs.Packets.{PlainPacket}
use Rattle.pf_map.proofs.Tests.{both_of, first_of, second_of}
use Rattle.pf_anchor.specs.{Tables.{PlainPlacedTable, table_order}, Answered.{PlainAnswered, AreAnswered, AreAnsweredAt}}
use Rattle.pf_anchor.proofs.{TableMaps.table_order_total, TablesAnswered.{rising, front_passed, find_no, sorted_back, answer_found}}

-- ---- a part of entries in the order of their keys

module _ {K X : Type 0} (R : K → K → Ordering) where
  below_front : (q : K) (n : ℕ) (es : List (K × X)) → T (below_all R q es) → T (below_all R q (take n es))
  below_front q zero es all = tt
  below_front q (suc n) [] all = tt
  below_front q (suc n) (e ∷ es) all = both_of _ _ (first_of _ _ all) (below_front q n es (second_of _ _ all))

  sorted_front : (n : ℕ) (es : List (K × X)) → T (is_sorted R es) → T (is_sorted R (take n es))
  sorted_front zero es sorted = tt
  sorted_front (suc n) [] sorted = tt
  sorted_front (suc n) (e ∷ es) sorted = both_of _ _ (below_front e.0 n es (first_of _ _ sorted)) (sorted_front n es (second_of _ _ sorted))

module _ {K X : Type 0} {R : K → K → Ordering} (o : IsTotalOrder R) where
  none_at_all : (k : K) (es : List (K × X)) → ((i : ℕ) (d : K × X) → i < length es → eq_by_cmp R k (get_or es i d).0 ≡ false) → find R k es ≡ None
  none_at_all k [] none = refl
  none_at_all k (e ∷ es) none = find_no o k e es (none 0 e (omega arith)) ∙ none_at_all k es (λ i d few. none (suc i) d (omega (arith, few)))

  -- where none of those behind a front has a key, it is found in the front alone
  back_passed : (k : K) (n : ℕ) (es : List (K × X)) → ((i : ℕ) (d : K × X) → n ≤ i → i < length es → eq_by_cmp R k (get_or es i d).0 ≡ false) → find R k (take n es) ≡ find R k es
  back_passed k zero es none = sym (none_at_all k es (λ i d few. none i d (omega arith) few))
  back_passed k (suc n) [] none = refl
  back_passed k (suc n) (e ∷ es) none =
      ap (cond (eq_by_cmp R k e.0) (Some e.1)) (back_passed k n es (λ i d past few. none (suc i) d (omega (arith, past)) (omega (arith, few))))

-- what is before another is before those behind it
module _ {K : Type 0} {R : K → K → Ordering} (o : IsTotalOrder R) where
  less_on : (p q x : K) → R p q ≡ Less → is_gt (R q x) ≡ false → R p x ≡ Less
  less_on p q x less from = by (R q x) refl from where
    by : (r : Ordering) → R q x ≡ r → is_gt r ≡ false → R p x ≡ Less
    by Less is h = o.trans p q x less is
    by Equal is h = sym (alike_right o q x p is) ∙ less
    by Greater is h = absurd (cc (h))

-- ---- keys whose first parts are paths

first_not_gt : (r s : Ordering) → is_gt (ordering_then r s) ≡ false → is_gt r ≡ false
first_not_gt Less s is = refl
first_not_gt Equal s is = refl
first_not_gt Greater s is = is

gt_differs : (r s : Ordering) → is_gt r ≡ true → is_eq (ordering_then r s) ≡ false
gt_differs Less s is = absurd (cc (is))
gt_differs Equal s is = absurd (cc (is))
gt_differs Greater s is = refl

less_differs : (r s : Ordering) → is_ge r ≡ false → is_eq (ordering_then r s) ≡ false
less_differs Less s is = refl
less_differs Equal s is = absurd (cc (is))
less_differs Greater s is = absurd (cc (is))

ge_less : (r : Ordering) → is_ge r ≡ false → r ≡ Less
ge_less Less is = refl
ge_less Equal is = absurd (cc (is))
ge_less Greater is = absurd (cc (is))

abbrev IsInOrder : List PlainAnswered → Type 0
IsInOrder known = T (is_sorted table_order known)

paths_rise : (known : List PlainAnswered) → IsInOrder known → (i j : ℕ) (d : PlainAnswered) → i ≤ j → j < length known → is_gt (path_order (get_or known i d).0.0 (get_or known j d).0.0) ≡ false
paths_rise known sorted i j d le lt = first_not_gt _ _ (rising table_order_total known sorted i j d le lt)

-- those at paths before one stand in front
pub paths_before : (p : List ℕ) (known : List PlainAnswered) → IsInOrder known → IsPartitionedBy (λ a. is_gt (path_order p a.0.0)) known
paths_before p known sorted i j d le lt is = by (is_gt (path_order p (get_or known i d).0.0)) refl where
  by : (b : Bool) → is_gt (path_order p (get_or known i d).0.0) ≡ b → is_gt (path_order p (get_or known i d).0.0) ≡ true
  by true e = e
  by false e = absurd (cc (sym is ∙ upto nat_list_cmp_total p (get_or known i d).0.0 (get_or known j d).0.0 e (paths_rise known sorted i j d le lt)))

-- so do those up to a path
pub paths_up_to : (p : List ℕ) (known : List PlainAnswered) → IsInOrder known → IsPartitionedBy (λ a. is_ge (path_order p a.0.0)) known
paths_up_to p known sorted i j d le lt is = by (is_ge (path_order p (get_or known i d).0.0)) refl where
  by : (b : Bool) → is_ge (path_order p (get_or known i d).0.0) ≡ b → is_ge (path_order p (get_or known i d).0.0) ≡ true
  by true e = e
  by false e =
      let less = less_on nat_list_cmp_total p (get_or known i d).0.0 (get_or known j d).0.0 (ge_less _ e) (paths_rise known sorted i j d le lt) in
      absurd (cc (sym is ∙ ap is_ge less))

-- ---- the answers at a path

abbrev pub IsBefore : List ℕ → List PlainAnswered → ℕ → Type 0
IsBefore p known n = IsPartitionPoint (λ a. is_gt (path_order p a.0.0) ≡ true) (λ a. is_gt (path_order p a.0.0) ≡ false) known n

abbrev pub IsUpTo : List ℕ → List PlainAnswered → ℕ → Type 0
IsUpTo p known n = IsPartitionPoint (λ a. is_ge (path_order p a.0.0) ≡ true) (λ a. is_ge (path_order p a.0.0) ≡ false) known n

-- those behind a number of them, as a slice has them
abbrev pub rest_from : ℕ → List PlainAnswered → List PlainAnswered
rest_from n known = take (length known - n) (drop n known)

pub rest_sorted : (n : ℕ) (known : List PlainAnswered) → IsInOrder known → IsInOrder (rest_from n known)
rest_sorted n known sorted = subst IsInOrder (sym (take_rest known n)) (sorted_back table_order_total n known sorted)

found_in_rest : (p : List ℕ) (known : List PlainAnswered) (start count : ℕ) → IsInOrder known → IsBefore p known start →
    (packet : PlainPacket) (ts : List PlainPlacedTable) → AreAnswered packet ts known → IsUpTo p (drop start known) count → AreAnsweredAt packet ts p (take count (drop start known))
found_in_rest p known start count sorted before packet ts are upto = record {
  sorted = sorted_front table_order count (drop start known) (sorted_back table_order_total start known sorted);
  each = λ name.
      back_passed table_order_total (p, name) count (drop start known) (λ i d past few. less_differs (path_order p (get_or (drop start known) i d).0.0) _ (upto.1 i d past few))
      ∙ sym (front_passed table_order_total (p, name) start known (λ i d lt few. gt_differs (path_order p (get_or known i d).0.0) _ (before.0 i d (omega arith) lt)))
      ∙ ap (find table_order (p, name)) are.each ∙ answer_found packet (p, name) ts;
}

pub found_at_path : (p : List ℕ) (known : List PlainAnswered) (start count : ℕ) → IsInOrder known → IsBefore p known start → IsUpTo p (rest_from start known) count →
    (packet : PlainPacket) (ts : List PlainPlacedTable) → AreAnswered packet ts known → AreAnsweredAt packet ts p (take count (rest_from start known))
found_at_path p known start count sorted before upto packet ts are =
    subst (λ (xs : List PlainAnswered). IsUpTo p xs count → AreAnsweredAt packet ts p (take count xs)) (sym (take_rest known start))
    (found_in_rest p known start count sorted before packet ts are) upto

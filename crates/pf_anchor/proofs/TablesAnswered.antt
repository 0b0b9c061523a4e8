-- What tables say of a packet's addresses, as the code looks for it: by places in order.
use Rattle.std.proofs.{Common.{◌≡◌, ℕ, zero, suc, ◌<◌, ◌≤◌, ◌+◌, T, Bool, true, false, cond, List, [], ◌∷◌, length, drop, get_or, Option, Some, None, refl, sym, ap, subst, ◌∙◌, arith}, lemmas.{Cmp.{upto, tied_itself}, List.{drop_more, drop_all}}}
use Rattle.std.specs.{declared.{cmp.Ordering.Ordering, cmp.Ordering.TheVariants.Less, cmp.Ordering.TheVariants.Equal, cmp.Ordering.TheVariants.Greater}, Ordering.{is_gt, is_eq, eq_by_cmp}, Cmp.IsTotalOrder, FinMap.{find, is_sorted}, FinMap.Entries.below_all, List.Sorted.{IsPartitionedBy, IsPartitionPoint}, Option.{option_map, option_map_or, option_or, unwrap_or}}
use Rattle.pf_addr.specs.declared.addr.Addr.{Addr}
use Rattle.pf_rule.specs.Packets.{PlainPacket}
use Rattle.pf_table.specs.{Entries.PlainEntry, Tables.table_holds}
use Rattle.pf_map.proofs.Tests.{both_of, first_of, second_of, less_of}
use Rattle.pf_anchor.specs.{Tables.{TableKey, PlainPlacedTable, table_order, table_found, named_table, tables_say}, Answered.{Answers, PlainAnswered, answers, answered_by, AreAnswered}}

-- ---- entries in the order of their keys

not_eq : (o : Ordering) → is_gt o ≡ true → is_eq o ≡ false
not_eq Less is = absurd (cc (is))
not_eq Equal is = absurd (cc (is))
not_eq Greater is = refl

not_past : (r : Ordering) → is_gt r ≡ false → is_eq r ≡ false → r ≡ Less
not_past Less gt eq = refl
not_past Equal gt eq = absurd (cc (eq))
not_past Greater gt eq = absurd (cc (gt))

module _ {K X : Type 0} {R : K → K → Ordering} (o : IsTotalOrder R) where
  below_at : (q : K) (es : List (K × X)) → T (below_all R q es) → (j : ℕ) (d : K × X) → j < length es → R q (get_or es j d).0 ≡ Less
  below_at q [] all j d lt = absurd (omega (arith, lt))
  below_at q (e ∷ es) all zero d lt = less_of (R q e.0) (first_of _ _ all)
  below_at q (e ∷ es) all (suc j) d lt = below_at q es (second_of _ _ all) j d (omega (arith, lt))

  pub rising : (es : List (K × X)) → T (is_sorted R es) → (i j : ℕ) (d : K × X) → i ≤ j → j < length es → is_gt (R (get_or es i d).0 (get_or es j d).0) ≡ false
  rising [] sorted i j d le lt = absurd (omega (arith, lt))
  rising (e ∷ es) sorted zero zero d le lt = ap is_gt (tied_itself o e.0)
  rising (e ∷ es) sorted zero (suc j) d le lt = ap is_gt (below_at e.0 es (first_of _ _ sorted) j d (omega (arith, lt)))
  rising (e ∷ es) sorted (suc i) zero d le lt = absurd (omega (arith, le))
  rising (e ∷ es) sorted (suc i) (suc j) d le lt = rising es (second_of _ _ sorted) i j d (omega (arith, le)) (omega (arith, lt))

  -- those before a key stand in front
  pub parted_at : (k : K) (es : List (K × X)) → T (is_sorted R es) → IsPartitionedBy (λ e. is_gt (R k e.0)) es
  parted_at k es sorted i j d le lt is = by (is_gt (R k (get_or es i d).0)) refl where
    by : (b : Bool) → is_gt (R k (get_or es i d).0) ≡ b → is_gt (R k (get_or es i d).0) ≡ true
    by true e = e
    by false e = absurd (cc (sym is ∙ upto o k (get_or es i d).0 (get_or es j d).0 e (rising es sorted i j d le lt)))

  -- ---- the place of a key

  abbrev pub IsKeyPlace : K → List (K × X) → ℕ → Type 0
  IsKeyPlace k es n = IsPartitionPoint (λ e. is_gt (R k e.0) ≡ true) (λ e. is_gt (R k e.0) ≡ false) es n

  find_yes : (k : K) (e : K × X) (es : List (K × X)) → eq_by_cmp R k e.0 ≡ true → find R k (e ∷ es) ≡ Some e.1
  find_yes k e es is = ap (λ (b : Bool). cond b (Some e.1) (find R k es)) is

  pub find_no : (k : K) (e : K × X) (es : List (K × X)) → eq_by_cmp R k e.0 ≡ false → find R k (e ∷ es) ≡ find R k es
  find_no k e es is = ap (λ (b : Bool). cond b (Some e.1) (find R k es)) is

  pub front_passed : (k : K) (n : ℕ) (es : List (K × X)) → ((i : ℕ) (d : K × X) → i < n → i < length es → eq_by_cmp R k (get_or es i d).0 ≡ false) → find R k es ≡ find R k (drop n es)
  front_passed k zero es none = refl
  front_passed k (suc n) [] none = refl
  front_passed k (suc n) (e ∷ es) none = find_no k e es (none 0 e (omega arith) (omega arith)) ∙ front_passed k n es (λ i d lt few. none (suc i) d (omega (arith, lt)) (omega (arith, few)))

  key_front : (k : K) (es : List (K × X)) (n : ℕ) → IsKeyPlace k es n → find R k es ≡ find R k (drop n es)
  key_front k es n place = front_passed k n es (λ i d lt few. not_eq (R k (get_or es i d).0) (place.0 i d (omega arith) lt))

  from_key : (es : List (K × X)) (n : ℕ) (e : K × X) → n < length es → e ≡ get_or es n e → drop n es ≡ e ∷ drop (n + 1) es
  from_key es n e lt is = drop_more es n e lt ∙ ap (λ (x : K × X). x ∷ drop (n + 1) es) (sym is)

  pub found_there : (k : K) (es : List (K × X)) (n : ℕ) (e : K × X) → IsKeyPlace k es n → n < length es → e ≡ get_or es n e → eq_by_cmp R k e.0 ≡ true → find R k es ≡ Some e.1
  found_there k es n e place lt at is = key_front k es n place ∙ ap (find R k) (from_key es n e lt at) ∙ find_yes k e (drop (n + 1) es) is

  pub none_past : (k : K) (es : List (K × X)) (n : ℕ) → IsKeyPlace k es n → length es ≤ n → find R k es ≡ None
  none_past k es n place past = key_front k es n place ∙ ap (find R k) (drop_all n es past)

  before_all : (k q : K) (es : List (K × X)) → R k q ≡ Less → T (below_all R q es) → find R k es ≡ None
  before_all k q [] less all = refl
  before_all k q (e ∷ es) less all =
      find_no k e es (ap is_eq (o.trans k q e.0 less (less_of (R q e.0) (first_of _ _ all)))) ∙ before_all k q es less (second_of _ _ all)

  pub sorted_back : (n : ℕ) (es : List (K × X)) → T (is_sorted R es) → T (is_sorted R (drop n es))
  sorted_back zero es sorted = sorted
  sorted_back (suc n) [] sorted = tt
  sorted_back (suc n) (e ∷ es) sorted = sorted_back n es (second_of _ _ sorted)

  pub none_there : (k : K) (es : List (K × X)) (n : ℕ) (e : K × X) → T (is_sorted R es) → IsKeyPlace k es n → n < length es → e ≡ get_or es n e → eq_by_cmp R k e.0 ≡ false → find R k es ≡ None
  none_there k es n e sorted place lt at is =
      let left = from_key es n e lt at in
      let from : is_gt (R k e.0) ≡ false = ap (λ (x : K × X). is_gt (R k x.0)) at ∙ place.1 n e (omega arith) lt in
      let back = subst (λ (xs : List (K × X)). T (is_sorted R xs)) left (sorted_back n es sorted) in
      key_front k es n place ∙ ap (find R k) left ∙ find_no k e (drop (n + 1) es) is ∙ before_all k e.0 (drop (n + 1) es) (not_past (R k e.0) from is) (first_of _ _ back)

-- ---- tables with their answers

module _ (packet : PlainPacket) where
  answered_below : (k : TableKey) (ts : List PlainPlacedTable) → T (below_all table_order k ts) → T (below_all table_order k (answered_by packet ts))
  answered_below k [] all = tt
  answered_below k (t ∷ ts) all = both_of _ _ (first_of _ _ all) (answered_below k ts (second_of _ _ all))

  answered_sorted : (ts : List PlainPlacedTable) → T (is_sorted table_order ts) → T (is_sorted table_order (answered_by packet ts))
  answered_sorted [] sorted = tt
  answered_sorted (t ∷ ts) sorted = both_of _ _ (answered_below t.0 ts (first_of _ _ sorted)) (answered_sorted ts (second_of _ _ sorted))

  pub all_answered : (ts : List PlainPlacedTable) (known : List PlainAnswered) → T (is_sorted table_order ts) → known ≡ answered_by packet ts → AreAnswered packet ts known
  all_answered ts known sorted each =
      record { sorted = subst (λ (xs : List PlainAnswered). T (is_sorted table_order xs)) (sym each) (answered_sorted ts sorted); each = each }

  pub answer_found : (k : TableKey) (ts : List PlainPlacedTable) → find table_order k (answered_by packet ts) ≡ option_map (answers packet) (find table_order k ts)
  answer_found k [] = refl
  answer_found k (t ∷ ts) = by (eq_by_cmp table_order k t.0) (answer_found k ts) where
    by : (b : Bool) → find table_order k (answered_by packet ts) ≡ option_map (answers packet) (find table_order k ts) →
        cond b (Some (answers packet t.1)) (find table_order k (answered_by packet ts)) ≡ option_map (answers packet) (cond b (Some t.1) (find table_order k ts))
    by true rest = refl
    by false rest = rest

  abbrev said : Option (List PlainEntry) → Addr → Bool
  said t a = option_map_or (λ es. table_holds es a) t false

  answer_said : (t : Option (List PlainEntry)) (x : Answers) (a : Addr) (b : Bool) → Some x ≡ option_map (answers packet) t → ((es : List PlainEntry) → x ≡ answers packet es → b ≡ table_holds es a) → b ≡ said t a
  answer_said None x a b is says = absurd (cc (is))
  answer_said (Some es) x a b is says = says es (ap (λ (o : Option Answers). unwrap_or o x) is)

  nothing_said : (t : Option (List PlainEntry)) (a : Addr) → None ≡ option_map (answers packet) t → false ≡ said t a
  nothing_said None a is = refl
  nothing_said (Some es) a is = absurd (cc (is))

  module _ (ts : List PlainPlacedTable) (p name : List ℕ) (a : Addr) where
    pub answer_known : (x : Answers) (b : Bool) → Some x ≡ option_map (answers packet) (named_table ts p name) → ((es : List PlainEntry) → x ≡ answers packet es → b ≡ table_holds es a) → b ≡ tables_say ts p name a
    answer_known x b found says = answer_said (named_table ts p name) x a b found says

    pub none_known : None ≡ option_map (answers packet) (named_table ts p name) → false ≡ tables_say ts p name a
    none_known found = nothing_said (named_table ts p name) a found

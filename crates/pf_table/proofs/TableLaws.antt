-- The laws of tables.
use Rattle.std.proofs.{Common.{◌≡◌, ◌≢◌, ℕ, zero, suc, ◌+◌, ◌<◌, T, Bool, true, false, not, cond, List, [], ◌∷◌, ◌++◌, ◌&&◌, length, get_or, slice_get, take, append-nil, append_assoc, length-append, filter, Option, Some, None, is_some, is_none, option_map, refl, sym, ap, ◌∙◌, subst, true≢false, arith, Contains}, lemmas.List.Elements.{All-from_recursion, recursion_from_All}, lemmas.Option.{slice_get_within, get_or_from_slice_get}}
use Rattle.std.specs.{Bool.beq, Cmp.tied_itself, FinMap.{put, is_sorted}, FinMap.Entries.{where_key, find-put, length-put, length_without, is_sorted-put, is_sorted-where_key}, List.list_any, Option.{option_or, option_map_or}, Ordering.{eq_by_cmp, is_eq}}
use Rattle.pf_addr.specs.Address.{PlainNet, contains, IsNetwork}
use Rattle.pf_table.specs.{declared.answer.{Addition.{Addition, TheVariants.{Same, Conflict}}, Deletion.{Deletion, TheVariants.Absent}}, Entries.PlainEntry, Tables.{sign_of, Decides, deciding, table_holds}, Edits.{added, addition, additions, with_entry, is_sign, has_entry, without_entry, deleted, deletion, deletions, same_entry, is_opposite, conflict_after, conflict_in}, Laws.Edits.{exchanged, or_none, sign_added, sign_deleted, sign_left, sorted_added, sorted_deleted, added_all, deleted_all, deleted_fewer, one_table}}
use Rattle.pf_addr.specs.{NetOrder.net_order, Laws.NetOrder.net_total}
use Rattle.pf_table.specs.Laws.Tables as Laws
use Rattle.pf_table.proofs.{Batches.{reported, none_before, no_other_sign, adds_by_signs, dels_by_old}, Edits.still_few, Lookups.{none_contains, decides, decided, contains_family}}

pub table_decides : Laws.TableDecides
table_decides es a is = record {
  decides = λ e. (decides es a e is, decided es a e is);
  none = (none_contains es a, λ none. by none (deciding es a) refl);
  one = λ e f p q. inside e f (sym (decided es a e is p) ∙ decided es a f is q);
}
  where
    inside : {A : Type 0} (x y : A) → Some x ≡ Some y → x ≡ y
    inside x y e = cc

    by : ((e : PlainEntry) → Contains es e → contains e.0 a ≡ false) → (o : Option PlainEntry) → deciding es a ≡ o → o ≡ None
    by none None found = refl
    by none (Some e) found = let d = decides es a e is found in absurd (true≢false (sym d.holds ∙ none e d.member))

pub table_matches : Laws.TableMatches
unfolding table_holds
table_matches es a is = (by (deciding es a) refl, λ d. ap (λ o. option_map_or (λ (e : PlainEntry). not e.1) o false) (decided es a d.0 is d.1) ∙ ap not d.2) where
  plain : (s : Bool) → not s ≡ true → s ≡ false
  plain true e = absurd (true≢false (sym e))
  plain false e = refl

  by : (o : Option PlainEntry) → deciding es a ≡ o → option_map_or (λ (e : PlainEntry). not e.1) (deciding es a) false ≡ true → (e : PlainEntry) × Decides es a e × (e.1 ≡ false)
  by None none holds = absurd (true≢false (sym holds ∙ ap (λ o. option_map_or (λ (e : PlainEntry). not e.1) o false) none))
  by (Some e) some holds = (e, decides es a e is some, plain e.1 (sym (ap (λ o. option_map_or (λ (f : PlainEntry). not f.1) o false) some) ∙ holds))

pub families_apart : Laws.FamiliesApart
families_apart e a is = contains_family e.0 a is

pub one_table_law : Laws.OneTable
one_table_law = one_table

pub holds_the_list : Laws.HoldsTheList
holds_the_list xs q = sign_added [] xs q

named_with : (xs : List PlainEntry) (q : PlainNet) (s : Bool) → sign_of q xs ≡ None → list_any (same_entry (q, s)) xs ≡ false
named_with [] q s none = refl
named_with (x ∷ xs) q s none = by (eq_by_cmp net_order q x.0) refl (named_with xs q s) where
  by : (t : Bool) → eq_by_cmp net_order q x.0 ≡ t → (sign_of q xs ≡ None → list_any (same_entry (q, s)) xs ≡ false) → list_any (same_entry (q, s)) (x ∷ xs) ≡ false
  by true tied rest = let some : Some x.1 ≡ None = rw tied at none in absurd (true≢false (ap is_some some))
  by false other rest = let later : sign_of q xs ≡ None = rw other at none in rw other (rest later)

pub all_else_stays : Laws.AllElseStays
all_else_stays es xs q none = (sign_added es xs q ∙ ap (option_or (sign_of q es)) none ∙ sym (or_none (sign_of q es)), sign_deleted es xs q ∙ left (sign_of q es)) where
  left : (o : Option Bool) → sign_left xs q o ≡ o
  left None = refl
  left (Some s) = ap (λ b. cond b None (Some s)) (named_with xs q s none)

pub stays_table : Laws.StaysTable
stays_table es xs is = record {
  added = λ networks few. record {
    sorted = sorted_added es xs is.sorted;
    networks = All-from_recursion _ _ (added_all IsNetwork es xs (recursion_from_All _ es is.networks) (recursion_from_All _ xs networks));
    few = few;
  };
  deleted = record {
    sorted = sorted_deleted es xs is.sorted;
    networks = All-from_recursion _ _ (deleted_all IsNetwork es xs (recursion_from_All _ es is.networks));
    few = still_few _ _ _ (deleted_fewer es xs) is.few;
  };
}

adds_each : (es xs : List PlainEntry) → length (additions es xs) ≡ length xs
unfolding additions
adds_each es [] = refl
adds_each es (x ∷ xs) = ap suc (adds_each (with_entry es x) xs)

dels_each : (es xs : List PlainEntry) → length (deletions es xs) ≡ length xs
unfolding deletions
dels_each es [] = refl
dels_each es (x ∷ xs) = ap suc (dels_each (without_entry es x) xs)

pub one_answer_each : Laws.OneAnswerEach
one_answer_each es xs = (adds_each es xs, dels_each es xs)

abbrev others : List PlainEntry → PlainEntry → List PlainEntry
others es x = where_key net_order (λ n. not (eq_by_cmp net_order x.0 n)) es

with_sorted : (es : List PlainEntry) (x : PlainEntry) → T (is_sorted net_order es) → T (is_sorted net_order (with_entry es x))
with_sorted es x is = by (is_some (sign_of x.0 es)) where
  by : (t : Bool) → T (is_sorted net_order (cond t es (put net_order x.0 x.1 es)))
  by true = is
  by false = is_sorted-put net_order net_total x.0 x.1 es is

without_sorted : (es : List PlainEntry) (x : PlainEntry) → T (is_sorted net_order es) → T (is_sorted net_order (without_entry es x))
without_sorted es x is = by (has_entry es x) where
  by : (t : Bool) → T (is_sorted net_order (cond t (others es x) es))
  by true = is_sorted-where_key net_order (λ n. not (eq_by_cmp net_order x.0 n)) es is
  by false = is

grows : (es : List PlainEntry) (x : PlainEntry) → T (is_sorted net_order es) → length (with_entry es x) ≡ length es + cond (Laws.is_added (addition (sign_of x.0 es) x.1)) 1 0
grows es x is = by (sign_of x.0 es) refl where
  there : (b : Bool) → length es ≡ length es + cond (Laws.is_added (cond b Same Conflict)) 1 0
  there true = omega arith
  there false = omega arith

  by : (o : Option Bool) → sign_of x.0 es ≡ o → length (with_entry es x) ≡ length es + cond (Laws.is_added (addition o x.1)) 1 0
  by None none = rw none (length-put net_order net_total x.0 x.1 es is ∙ ap (λ (o : Option Bool). cond (is_some o) (length es) (length es + 1)) none)
  by (Some t) some = rw some (there (beq x.1 t))

counts_added : (es xs : List PlainEntry) → T (is_sorted net_order es) → length (added es xs) ≡ length es + length (filter Laws.is_added (additions es xs))
unfolding added additions
counts_added es [] is = omega arith
counts_added es (x ∷ xs) is = counts_added (with_entry es x) xs (with_sorted es x is) ∙ by (Laws.is_added answer) (grows es x is) where
  answer : Addition
  answer = addition (sign_of x.0 es) x.1

  by : (b : Bool) → length (with_entry es x) ≡ length es + cond b 1 0 → length (with_entry es x) + length (filter Laws.is_added (additions (with_entry es x) xs)) ≡ length es + length (cond b (answer ∷ filter Laws.is_added (additions (with_entry es x) xs)) (filter Laws.is_added (additions (with_entry es x) xs)))
  by true e = omega (arith, e)
  by false e = omega (arith, e)

shrinks : (es : List PlainEntry) (x : PlainEntry) → T (is_sorted net_order es) → length (without_entry es x) + cond (Laws.is_deleted (deletion (has_entry es x))) 1 0 ≡ length es
shrinks es x is = by (sign_of x.0 es) refl where
  by : (o : Option Bool) → sign_of x.0 es ≡ o → length (cond (is_sign x.1 (sign_of x.0 es)) (others es x) es) + cond (Laws.is_deleted (deletion (is_sign x.1 (sign_of x.0 es)))) 1 0 ≡ length es
  by None none = rw none (omega arith)
  by (Some t) some = rw some (there (beq x.1 t)) where
    gone : 1 + length (others es x) ≡ length es
    gone = ap (λ (o : Option Bool). cond (is_some o) 1 0 + length (others es x)) (sym some) ∙ length_without net_order net_total x.0 es is

    there : (b : Bool) → length (cond b (others es x) es) + cond (Laws.is_deleted (deletion b)) 1 0 ≡ length es
    there true = omega (arith, gone)
    there false = omega arith

counts_deleted : (es xs : List PlainEntry) → T (is_sorted net_order es) → length (deleted es xs) + length (filter Laws.is_deleted (deletions es xs)) ≡ length es
unfolding deleted deletions
counts_deleted es [] is = omega arith
counts_deleted es (x ∷ xs) is = by (Laws.is_deleted answer) (shrinks es x is) (counts_deleted (without_entry es x) xs (without_sorted es x is)) where
  answer : Deletion
  answer = deletion (has_entry es x)

  by : (b : Bool) → length (without_entry es x) + cond b 1 0 ≡ length es → length (deleted (without_entry es x) xs) + length (filter Laws.is_deleted (deletions (without_entry es x) xs)) ≡ length (without_entry es x) →
      length (deleted (without_entry es x) xs) + length (cond b (answer ∷ filter Laws.is_deleted (deletions (without_entry es x) xs)) (filter Laws.is_deleted (deletions (without_entry es x) xs))) ≡ length es
  by true e f = omega (arith, e, f)
  by false e f = omega (arith, e, f)

pub counts_what_changed : Laws.CountsWhatChanged
counts_what_changed es xs is = (counts_added es xs is, counts_deleted es xs is)

own_sign : (s : Bool) → beq s s ≡ true
own_sign true = refl
own_sign false = refl

pub repeats_change_nothing : Laws.RepeatsChangeNothing
unfolding added deleted
repeats_change_nothing es x = record {
  same = λ other. again (sign_of x.0 es) refl other;
  absent = gone;
  added = ap (λ b. cond b (with_entry es x) (put net_order x.0 x.1 (with_entry es x))) there;
  deleted = ap (λ b. cond b (others (without_entry es x) x) (without_entry es x)) gone;
}
  where
    itself : eq_by_cmp net_order x.0 x.0 ≡ true
    itself = ap is_eq (tied_itself net_total x.0)

    again : (o : Option Bool) → sign_of x.0 es ≡ o → sign_of x.0 es ≢ Some (not x.1) → addition (sign_of x.0 (with_entry es x)) x.1 ≡ Same
    again None none other = rw none (ap (λ o. addition o x.1) (find-put net_order net_total x.0 x.0 x.1 es ∙ ap (λ b. cond b (Some x.1) (sign_of x.0 es)) itself) ∙ ap (λ b. cond b Same Conflict) (own_sign x.1))
    again (Some t) some other = rw (some, some) (sign t x.1 (λ e. other (some ∙ ap (λ b. Some b) e))) where
      sign : (t s : Bool) → t ≢ not s → cond (beq s t) Same Conflict ≡ Same
      sign true true apart = refl
      sign false true apart = absurd (apart refl)
      sign true false apart = absurd (apart refl)
      sign false false apart = refl

    there : is_some (sign_of x.0 (with_entry es x)) ≡ true
    there = ap is_some (sign_added es (x ∷ []) x.0) ∙ some (sign_of x.0 es) where
      some : (o : Option Bool) → is_some (option_or o (sign_of x.0 (x ∷ []))) ≡ true
      some None = rw itself refl
      some (Some t) = refl

    gone : has_entry (without_entry es x) x ≡ false
    gone = ap (is_sign x.1) (sign_deleted es (x ∷ []) x.0) ∙ left (sign_of x.0 es) where
      left : (o : Option Bool) → is_sign x.1 (sign_left (x ∷ []) x.0 o) ≡ false
      left None = refl
      left (Some t) = by (beq t x.1) refl where
        by : (b : Bool) → beq t x.1 ≡ b → is_sign x.1 (sign_left (x ∷ []) x.0 (Some t)) ≡ false
        by true same = rw (itself, same) refl
        by false other = rw (itself, other) (exchanged x.1 t ∙ other)

-- ---- each entry's answer

adds_at : (es xs : List PlainEntry) (i : ℕ) (x : PlainEntry) → slice_get xs i ≡ Some x → slice_get (additions es xs) i ≡ Some (addition (sign_of x.0 (added es (take i xs))) x.1)
unfolding added additions
adds_at es [] i x at = absurd (true≢false (sym (ap is_some at)))
adds_at es (y ∷ xs) zero x at = ap (option_map (λ (e : PlainEntry). addition (sign_of e.0 es) e.1)) at
adds_at es (y ∷ xs) (suc i) x at = adds_at (with_entry es y) xs i x at

dels_at : (es xs : List PlainEntry) (i : ℕ) (x : PlainEntry) → slice_get xs i ≡ Some x → slice_get (deletions es xs) i ≡ Some (deletion (has_entry (deleted es (take i xs)) x))
unfolding deleted deletions
dels_at es [] i x at = absurd (true≢false (sym (ap is_some at)))
dels_at es (y ∷ xs) zero x at = ap (option_map (λ (e : PlainEntry). deletion (has_entry es e))) at
dels_at es (y ∷ xs) (suc i) x at = dels_at (without_entry es y) xs i x at

other_sign : (s : Bool) → beq s (not s) ≡ false
other_sign true = refl
other_sign false = refl

pub answers_in_order : Laws.AnswersInOrder
answers_in_order es xs none i x at = record {
  added = λ there before. adds ∙ by_old there ∙ ap (λ o. Some (reported None (is_none o) x.1)) before;
  added_before = λ there before. adds ∙ by_old there ∙ again (sign_of x.0 (take i xs)) before;
  same = λ there. adds ∙ by_old there ∙ ap (λ b. Some (cond b Same Conflict)) (own_sign x.1);
  conflict = λ there. adds ∙ by_old there ∙ ap (λ b. Some (cond b Same Conflict)) (other_sign x.1);
  deleted = λ there before. dels ∙ ap (λ o. Some (deletion (is_none o && is_sign x.1 (sign_of x.0 es)))) before ∙ ap (λ o. Some (deletion (is_sign x.1 o))) there ∙ ap (λ b. Some (deletion b)) (own_sign x.1);
  deleted_before = λ before. dels ∙ gone (sign_of x.0 (take i xs)) before;
  absent = λ apart. dels ∙ ap (λ b. Some (deletion (is_none (sign_of x.0 (take i xs)) && b))) (no_sign (sign_of x.0 es) x.1 apart) ∙ ap (λ b. Some (deletion b)) (and_no (is_none (sign_of x.0 (take i xs))));
}
  where
    lt : i < length xs
    lt = slice_get_within xs i x at

    read : x ≡ get_or xs i x
    read = sym (get_or_from_slice_get xs i x x at)

    adds : slice_get (additions es xs) i ≡ Some (reported (sign_of x.0 es) (is_none (sign_of x.0 (take i xs))) x.1)
    adds = adds_at es xs i x at ∙ ap (λ o. Some (addition o x.1)) (sign_added es (take i xs) x.0) ∙ ap (λ a. Some a) (adds_by_signs (sign_of x.0 es) (sign_of x.0 (take i xs)) x.1 (no_other_sign xs i x none lt read))

    dels : slice_get (deletions es xs) i ≡ Some (deletion (is_none (sign_of x.0 (take i xs)) && is_sign x.1 (sign_of x.0 es)))
    dels = dels_at es xs i x at ∙ ap (λ b. Some (deletion b)) (dels_by_old es xs i x none lt read)

    by_old : {o : Option Bool} → sign_of x.0 es ≡ o → Some (reported (sign_of x.0 es) (is_none (sign_of x.0 (take i xs))) x.1) ≡ Some (reported o (is_none (sign_of x.0 (take i xs))) x.1)
    by_old there = ap (λ o. Some (reported o (is_none (sign_of x.0 (take i xs))) x.1)) there

    again : (o : Option Bool) → o ≢ None → Some (reported None (is_none o) x.1) ≡ Some Same
    again None some = absurd (some refl)
    again (Some s) some = refl

    gone : (o : Option Bool) → o ≢ None → Some (deletion (is_none o && is_sign x.1 (sign_of x.0 es))) ≡ Some Absent
    gone None some = absurd (some refl)
    gone (Some s) some = refl

    no_sign : (o : Option Bool) (s : Bool) → o ≢ Some s → is_sign s o ≡ false
    no_sign None s apart = refl
    no_sign (Some true) true apart = absurd (apart refl)
    no_sign (Some false) true apart = refl
    no_sign (Some true) false apart = refl
    no_sign (Some false) false apart = absurd (apart refl)

    and_no : (b : Bool) → (b && false) ≡ false
    and_no true = refl
    and_no false = refl

-- ---- conflicts

first_from : (before xs : List PlainEntry) (n : ℕ) → conflict_after before xs ≡ Some n → (i : ℕ) × (n ≡ length before + i) × (i < length xs) × ((x : PlainEntry) → x ≡ get_or xs i x → list_any (is_opposite x) (before ++ take i xs) ≡ true) × ((j : ℕ) → j < i → (x : PlainEntry) → x ≡ get_or xs j x → list_any (is_opposite x) (before ++ take j xs) ≡ false)
unfolding conflict_after
first_from before [] n is = absurd (true≢false (sym (ap is_some is)))
first_from before (y ∷ xs) n is = by (list_any (is_opposite y) before) refl (first_from (before ++ y ∷ []) xs n) where
  by : (b : Bool) → list_any (is_opposite y) before ≡ b → (conflict_after (before ++ y ∷ []) xs ≡ Some n → (i : ℕ) × (n ≡ length (before ++ y ∷ []) + i) × (i < length xs) × ((x : PlainEntry) → x ≡ get_or xs i x → list_any (is_opposite x) ((before ++ y ∷ []) ++ take i xs) ≡ true) × ((j : ℕ) → j < i → (x : PlainEntry) → x ≡ get_or xs j x → list_any (is_opposite x) ((before ++ y ∷ []) ++ take j xs) ≡ false)) →
      (i : ℕ) × (n ≡ length before + i) × (i < suc (length xs)) × ((x : PlainEntry) → x ≡ get_or (y ∷ xs) i x → list_any (is_opposite x) (before ++ take i (y ∷ xs)) ≡ true) × ((j : ℕ) → j < i → (x : PlainEntry) → x ≡ get_or (y ∷ xs) j x → list_any (is_opposite x) (before ++ take j (y ∷ xs)) ≡ false)
  by true found rest =
      let some : Some (length before) ≡ Some n = rw found at is in
      let same : length before ≡ n = cc in
      (0, omega (arith, same), omega arith, λ x at. ap (list_any (is_opposite x)) (append-nil before) ∙ ap (λ e. list_any (is_opposite e) before) at ∙ found, λ j lt. absurd (omega (arith, lt)))
  by false none rest =
      let later : conflict_after (before ++ y ∷ []) xs ≡ Some n = rw none at is in
      let (i, at_i, within, here, earlier) = rest later in (
        suc i,
        omega (arith, at_i, length-append before (y ∷ [])),
        omega (arith, within),
        λ x at. ap (list_any (is_opposite x)) (sym (append_assoc before (y ∷ []) (take i xs))) ∙ here x at,
        first i earlier,
      )
    where
      first : (i : ℕ) → ((k : ℕ) → k < i → (x : PlainEntry) → x ≡ get_or xs k x → list_any (is_opposite x) ((before ++ y ∷ []) ++ take k xs) ≡ false) → (j : ℕ) → j < suc i → (x : PlainEntry) → x ≡ get_or (y ∷ xs) j x → list_any (is_opposite x) (before ++ take j (y ∷ xs)) ≡ false
      first i earlier zero lt x at = ap (list_any (is_opposite x)) (append-nil before) ∙ ap (λ e. list_any (is_opposite e) before) at ∙ none
      first i earlier (suc j) lt x at = ap (list_any (is_opposite x)) (sym (append_assoc before (y ∷ []) (take j xs))) ∙ earlier j (omega arith) x at

pub tells_the_first_conflict : Laws.TellsTheFirstConflict
tells_the_first_conflict xs = (first, λ none j x at. none_before [] xs j x (slice_get_within xs j x at) (read j x at) none) where
  read : (j : ℕ) (x : PlainEntry) → slice_get xs j ≡ Some x → x ≡ get_or xs j x
  read j x at = sym (get_or_from_slice_get xs j x x at)

  first : (i : ℕ) → conflict_in xs ≡ Some i → Laws.IsFirstConflict xs i
  first n is =
      let (i, at_i, within, here, earlier) = first_from [] xs n is in
      let same : n ≡ i = omega (arith, at_i) in
      subst (Laws.IsFirstConflict xs) (sym same) (record { within = within; here = λ x at. here x (read i x at); before = λ j lt x at. earlier j lt x (read j x at) })

-- How entries are gathered, added and deleted in turn, and what is answered for each.
use Rattle.std.proofs.{Common.{◌≡◌, ℕ, zero, suc, ◌+◌, ◌<◌, ◌≤◌, Bool, true, false, not, cond, ◌&&◌, List, [], ◌∷◌, ◌++◌, length, get_or, take, drop, append-nil, append_assoc, drop-cons, Option, Some, None, is_some, is_none, refl, sym, ap, ◌∙◌, subst, true≢false, arith}, Math.Seq.take-suc, lemmas.Bool.or_parts, lemmas.List.take-append-drop, lemmas.List.Folds.list_any-append, lemmas.List.Sums.fold-append, lemmas.List.Elements.{All-nil, All-push}}
use Rattle.std.specs.{Bool.beq, FinMap.put, FinMap.Entries.find_tied, Ordering.is_eq, List.{list_any, All, fold}, Option.option_or}
use Rattle.pf_addr.specs.Address.{IsNetwork, PlainNet}
use Rattle.pf_table.specs.{declared.answer.{Addition.{Addition, TheVariants.{Added, Same, Conflict}}, Deletion.Deletion}, Entries.PlainEntry, Laws.Edits.{Agree, any_is_sign, agree_push, or_none, sign_added, sign_left, sign_deleted}, Tables.sign_of, Edits.{with_entry, added, addition, additions, is_sign, has_entry, without_entry, deleted, deletion, deletions, same_entry, is_opposite, conflict_after, conflict_in}, Noted.{first_sign, noted_with}}
use Rattle.pf_addr.specs.{NetOrder.net_order, Laws.NetOrder.net_total}
use Rattle.pf_map.specs.Maps.{with_value, without}
use Rattle.pf_map.proofs.Tests.{equal_of}

-- ---- lists

pub next_cut : (xs : List PlainEntry) (i : ℕ) (x : PlainEntry) → i < length xs → x ≡ get_or xs i x →
    (drop i xs ≡ x ∷ drop (i + 1) xs) × (take (i + 1) xs ≡ take i xs ++ x ∷ [])
next_cut xs i x lt at =
    let next : suc i ≡ i + 1 = omega arith in (
      drop-cons xs i x lt ∙ ap (λ e. e ∷ drop (suc i) xs) (sym at) ∙ ap (λ n. x ∷ drop n xs) next,
      ap (λ n. take n xs) (sym next) ∙ take-suc xs i x lt ∙ ap (λ e. take i xs ++ e ∷ []) (sym at),
    )

pub all_taken : (xs : List PlainEntry) (i : ℕ) → length xs ≤ i → (take i xs ≡ xs) × (drop i xs ≡ [])
all_taken [] zero le = (refl, refl)
all_taken [] (suc i) le = (refl, refl)
all_taken (x ∷ xs) zero le = absurd (omega arith)
all_taken (x ∷ xs) (suc i) le = let rest = all_taken xs i (omega arith) in (ap (λ l. x ∷ l) rest.0, rest.1)

-- ---- conflicts

-- where a list names no network with both signs, it is a list of networks with one sign each
agree_after : (before xs : List PlainEntry) → Agree before → conflict_after before xs ≡ None → Agree (before ++ xs)
unfolding conflict_after
agree_after before [] agree none = subst Agree (sym (append-nil before)) agree
agree_after before (x ∷ xs) agree none = by (list_any (is_opposite x) before) refl (agree_after (before ++ x ∷ []) xs) where
  by : (b : Bool) → list_any (is_opposite x) before ≡ b →
      (Agree (before ++ x ∷ []) → conflict_after (before ++ x ∷ []) xs ≡ None → Agree ((before ++ x ∷ []) ++ xs)) →
      Agree (before ++ x ∷ xs)
  by true is rest = let some : Some (length before) ≡ None = rw is at none in absurd (true≢false (ap is_some some))
  by false is rest = let later : conflict_after (before ++ x ∷ []) xs ≡ None = rw is at none in
      subst Agree (append_assoc before (x ∷ []) xs) (rest (agree_push before x agree is) later)

pub agreeing : (xs : List PlainEntry) → conflict_in xs ≡ None → Agree xs
agreeing xs none = agree_after [] xs tt none

agree_front : (xs ys : List PlainEntry) → Agree (xs ++ ys) → Agree xs
agree_front [] ys agree = tt
agree_front (x ∷ xs) ys agree = ((or_parts _ _ (sym (list_any-append (is_opposite x) xs ys) ∙ agree.0)).0, agree_front xs ys agree.1)

pub none_before : (before xs : List PlainEntry) (i : ℕ) (x : PlainEntry) → i < length xs → x ≡ get_or xs i x → conflict_after before xs ≡ None →
    list_any (is_opposite x) (before ++ take i xs) ≡ false
unfolding conflict_after
none_before before [] i x lt at none = absurd (omega arith)
none_before before (y ∷ xs) zero x lt at none = by (list_any (is_opposite y) before) refl where
  by : (b : Bool) → list_any (is_opposite y) before ≡ b → list_any (is_opposite x) (before ++ []) ≡ false
  by true is = let some : Some (length before) ≡ None = rw is at none in absurd (true≢false (ap is_some some))
  by false is = ap (list_any (is_opposite x)) (append-nil before) ∙ ap (λ e. list_any (is_opposite e) before) at ∙ is
none_before before (y ∷ xs) (suc i) x lt at none =
    by (list_any (is_opposite y) before) refl (none_before (before ++ y ∷ []) xs i x (omega arith) at) where
      by : (b : Bool) → list_any (is_opposite y) before ≡ b →
          (conflict_after (before ++ y ∷ []) xs ≡ None → list_any (is_opposite x) ((before ++ y ∷ []) ++ take i xs) ≡ false) →
          list_any (is_opposite x) (before ++ y ∷ take i xs) ≡ false
      by true is rest = let some : Some (length before) ≡ None = rw is at none in absurd (true≢false (ap is_some some))
      by false is rest = let later : conflict_after (before ++ y ∷ []) xs ≡ None = rw is at none in
          ap (list_any (is_opposite x)) (sym (append_assoc before (y ∷ []) (take i xs))) ∙ rest later

pub no_other_sign : (xs : List PlainEntry) (i : ℕ) (x : PlainEntry) → conflict_in xs ≡ None → i < length xs → x ≡ get_or xs i x →
    is_sign (not x.1) (sign_of x.0 (take i xs)) ≡ false
no_other_sign xs i x none lt at =
    let agree = agree_front (take i xs) (drop i xs) (subst Agree (sym (take-append-drop i xs)) (agreeing xs none)) in
    sym (any_is_sign (take i xs) agree x.0 (not x.1)) ∙ none_before [] xs i x lt at none

-- ---- gathering

-- what is gathered of the first i entries
pub record Gathering (xs : List PlainEntry) (i : ℕ) (rows : List PlainEntry) : Type 0 where
  pub named : rows ≡ added [] (take i xs)
  pub conflict : conflict_after (take i xs) (drop i xs) ≡ conflict_in xs
  pub agree : Agree (take i xs)
  pub networks : All (λ e. IsNetwork e.0) (take i xs)

pub gathering_nothing : (xs : List PlainEntry) → Gathering xs 0 []
unfolding added
gathering_nothing xs = record { named = refl; conflict = refl; agree = tt; networks = All-nil (λ e. IsNetwork e.0) }

other_named : (xs : List PlainEntry) (i : ℕ) (named : List PlainEntry) (x : PlainEntry) (b : Bool) → Gathering xs i named →
    is_sign (not x.1) (sign_of x.0 named) ≡ b → list_any (is_opposite x) (take i xs) ≡ b
other_named xs i named x b g is = any_is_sign (take i xs) g.agree x.0 (not x.1)
    ∙ ap (is_sign (not x.1)) (sym (sign_added [] (take i xs) x.0) ∙ ap (sign_of x.0) (sym g.named)) ∙ is

pub one_more : (es xs : List PlainEntry) (i : ℕ) (x : PlainEntry) → i < length xs → x ≡ get_or xs i x →
    with_entry (added es (take i xs)) x ≡ added es (take (i + 1) xs)
unfolding added
one_more es xs i x lt at = sym (ap (fold with_entry es) (next_cut xs i x lt at).1 ∙ fold-append with_entry es (take i xs) (x ∷ []))

pub gathers_next : (xs : List PlainEntry) (i : ℕ) (named : List PlainEntry) (x : PlainEntry) → Gathering xs i named → i < length xs → x ≡ get_or xs i x →
    IsNetwork x.0 → is_sign (not x.1) (sign_of x.0 named) ≡ false → Gathering xs (i + 1) (with_entry named x)
unfolding conflict_after
gathers_next xs i named x g lt at network is =
    let (rest, front) = next_cut xs i x lt at in
    let none = other_named xs i named x false g is in
    record {
      named = ap (λ l. with_entry l x) g.named ∙ one_more [] xs i x lt at;
      conflict = rw front (sym (ap (conflict_after (take i xs)) rest
          ∙ ap (λ b. cond b (Some (length (take i xs))) (conflict_after (take i xs ++ x ∷ []) (drop (i + 1) xs))) none)) ∙ g.conflict;
      agree = rw front (agree_push (take i xs) x g.agree none);
      networks = rw front (All-push (λ e. IsNetwork e.0) (take i xs) x g.networks network);
    }

pub gathers_no_more : (xs : List PlainEntry) (i : ℕ) (named : List PlainEntry) (x : PlainEntry) → Gathering xs i named → i < length xs → x ≡ get_or xs i x →
    is_sign (not x.1) (sign_of x.0 named) ≡ true → conflict_in xs ≡ Some i
unfolding conflict_after
gathers_no_more xs i named x g lt at is =
    let (rest, front) = next_cut xs i x lt at in
    let some = other_named xs i named x true g is in
    sym g.conflict ∙ ap (conflict_after (take i xs)) rest
    ∙ ap (λ b. cond b (Some (length (take i xs))) (conflict_after (take i xs ++ x ∷ []) (drop (i + 1) xs))) some
    ∙ ap (λ n. Some n) (length_of xs i lt)
  where
    length_of : (ys : List PlainEntry) (n : ℕ) → n < length ys → length (take n ys) ≡ n
    length_of [] n lt = absurd (omega arith)
    length_of (y ∷ ys) zero lt = refl
    length_of (y ∷ ys) (suc n) lt = ap suc (length_of ys n (omega arith))

-- what is gathered of all entries
pub record Gathered (xs rows : List PlainEntry) : Type 0 where
  pub none : conflict_in xs ≡ None
  pub named : rows ≡ added [] xs
  pub networks : All (λ e. IsNetwork e.0) xs

pub gathered_all : (xs : List PlainEntry) (i : ℕ) (named : List PlainEntry) → Gathering xs i named → length xs ≤ i → Gathered xs named
unfolding conflict_after
gathered_all xs i named g le =
    let (whole, none) = all_taken xs i le in
    record {
      none = sym g.conflict ∙ ap (conflict_after (take i xs)) none;
      named = g.named ∙ ap (added []) whole;
      networks = subst (All (λ e. IsNetwork e.0)) whole g.networks;
    }

-- ---- adding, and what is noted of the list

-- what is noted has, for each network of the table, the sign with which the list first named it
abbrev pub IsNoted : List PlainEntry → List PlainEntry → List PlainEntry → Type 0
IsNoted es before noted = (q : PlainNet) → is_some (sign_of q es) ≡ true → sign_of q noted ≡ sign_of q before

pub first_is : (es before noted : List PlainEntry) (q : PlainNet) (there : Option Bool) → IsNoted es before noted → there ≡ sign_of q (added es before) →
    first_sign (sign_of q es) (sign_of q noted) there ≡ sign_of q before
first_is es before noted q there are is = by (sign_of q es) refl there (is ∙ sign_added es before q) where
  by : (o : Option Bool) → sign_of q es ≡ o → (t : Option Bool) → t ≡ option_or (sign_of q es) (sign_of q before) → first_sign o (sign_of q noted) t ≡ sign_of q before
  by (Some s) found (Some t) is = are q (ap is_some found)
  by (Some s) found None is = let some : None ≡ Some s = rw found at is in absurd (true≢false (sym (ap is_some some)))
  by None found (Some t) is = rw found at is
  by None found None is = rw found at is

sign_push : (xs : List PlainEntry) (x : PlainEntry) (q : PlainNet) → sign_of q (xs ++ x ∷ []) ≡ option_or (sign_of q xs) (sign_of q (x ∷ []))
sign_push [] x q = refl
sign_push (e ∷ xs) x q = by (is_eq (net_order q e.0)) refl (sign_push xs x q) where
  by : (t : Bool) → is_eq (net_order q e.0) ≡ t → sign_of q (xs ++ x ∷ []) ≡ option_or (sign_of q xs) (sign_of q (x ∷ [])) →
      sign_of q (e ∷ xs ++ x ∷ []) ≡ option_or (sign_of q (e ∷ xs)) (sign_of q (x ∷ []))
  by true tied rest = rw tied refl
  by false other rest = rw other rest

-- a network that has a sign among entries has none in x alone, if the network of x has none there
not_same : (es : List PlainEntry) (x : PlainEntry) (q : PlainNet) → sign_of x.0 es ≡ None → is_some (sign_of q es) ≡ true → sign_of q (x ∷ []) ≡ None
not_same es x q none some = by (is_eq (net_order q x.0)) refl where
  by : (t : Bool) → is_eq (net_order q x.0) ≡ t → sign_of q (x ∷ []) ≡ None
  by true tied = absurd (true≢false (sym some ∙ ap is_some (sym (find_tied net_order net_total q x.0 (equal_of _ tied) es) ∙ none)))
  by false other = rw other refl

-- a sign that is there stays
named_stays : (before : List PlainEntry) (x : PlainEntry) (q : PlainNet) (s : Bool) → sign_of x.0 before ≡ Some s →
    sign_of q before ≡ option_or (sign_of q before) (sign_of q (x ∷ []))
named_stays before x q s is = by (is_eq (net_order q x.0)) refl where
  stays : (o p : Option Bool) → o ≡ Some s → o ≡ option_or o p
  stays (Some t) p is = refl
  stays None p is = absurd (true≢false (sym (ap is_some is)))

  by : (t : Bool) → is_eq (net_order q x.0) ≡ t → sign_of q before ≡ option_or (sign_of q before) (sign_of q (x ∷ []))
  by true tied = stays (sign_of q before) _ (sym (find_tied net_order net_total q x.0 (equal_of _ tied) before) ∙ is)
  by false other = rw other (or_none (sign_of q before))

pub adds_next : (answers : List Addition) (es now xs : List PlainEntry) (i : ℕ) (x : PlainEntry) → now ≡ added es (take i xs) → i < length xs →
    x ≡ get_or xs i x →
    (answers ++ addition (sign_of x.0 now) x.1 ∷ []) ++ additions (added es (take (i + 1) xs))
    (drop (i + 1) xs) ≡ answers ++ additions (added es (take i xs)) (drop i xs)
unfolding additions
adds_next answers es now xs i x is lt at =
    append_assoc answers (addition (sign_of x.0 now) x.1 ∷ []) _
    ∙ ap (λ l. answers ++ l) ((λ j. addition (sign_of x.0 (is j)) x.1 ∷ additions (sym (one_more es xs i x lt at) j) (drop (i + 1) xs))
    ∙ sym (ap (additions (added es (take i xs))) (next_cut xs i x lt at).0))

pub adds_end : (answers : List Addition) (es xs : List PlainEntry) (i : ℕ) → length xs ≤ i →
    answers ≡ answers ++ additions (added es (take i xs)) (drop i xs)
unfolding additions
adds_end answers es xs i le = sym (append-nil answers) ∙ ap (λ l. answers ++ additions (added es (take i xs)) l) (sym (all_taken xs i le).1)

none_of : (o p : Option Bool) → None ≡ option_or o p → o ≡ None
none_of None p is = refl
none_of (Some s) p is = absurd (true≢false (sym (ap is_some is)))

pub notes_next : (es before noted : List PlainEntry) (x : PlainEntry) (there first : Option Bool) → IsNoted es before noted →
    there ≡ sign_of x.0 (added es before) → first ≡ sign_of x.0 before → IsNoted es (before ++ x ∷ []) (noted_with noted there first x)
unfolding added
notes_next es before noted x None first are is at = λ q some.
    let none = not_same es x q (none_of (sign_of x.0 es) (sign_of x.0 before) (is ∙ sign_added es before x.0)) some in
    are q some ∙ or_none (sign_of q before) ∙ ap (option_or (sign_of q before)) (sym none) ∙ sym (sign_push before x q)
notes_next es before noted x (Some t) (Some s) are is at = λ q some. are q some ∙ named_stays before x q s (sym at) ∙ sym (sign_push before x q)
notes_next es before noted x (Some t) None are is at = λ q some.
    sign_added noted (x ∷ []) q ∙ ap (λ o. option_or o (sign_of q (x ∷ []))) (are q some) ∙ sym (sign_push before x q)

-- what is known after the first i entries were added
pub record Adding (es xs : List PlainEntry) (i : ℕ) (after noted : List PlainEntry) (answers : List Addition) : Type 0 where
  pub so_far : after ≡ added es (take i xs)
  pub signs : IsNoted es (take i xs) noted
  pub reported : answers ++ additions (added es (take i xs)) (drop i xs) ≡ additions es xs
  pub list : Gathering xs i (added [] (take i xs))

pub adding_nothing : (es xs after : List PlainEntry) (answers : List Addition) → after ≡ es → answers ≡ [] → Adding es xs 0 after [] answers
unfolding added
adding_nothing es xs after answers is none =
    record { so_far = is; signs = λ q some. refl; reported = ap (λ l. l ++ additions es xs) none; list = gathering_nothing xs }

-- what is known of the next entry: its network's sign in the table so far, and the one with which it was first named
pub record IsNext (es xs : List PlainEntry) (i : ℕ) (after noted : List PlainEntry) (x : PlainEntry) (there first : Option Bool) : Type 0 where
  pub low : i < length xs
  pub at : x ≡ get_or xs i x
  pub is_there : there ≡ sign_of x.0 after
  pub is_first : first ≡ first_sign (sign_of x.0 es) (sign_of x.0 noted) there

first-named : (es xs : List PlainEntry) (i : ℕ) (after noted : List PlainEntry) (answers : List Addition) (x : PlainEntry) (there first : Option Bool) →
    Adding es xs i after noted answers → IsNext es xs i after noted x there first → first ≡ sign_of x.0 (take i xs)
first-named es xs i after noted answers x there first a n =
    n.is_first ∙ first_is es (take i xs) noted x.0 there a.signs (n.is_there ∙ ap (sign_of x.0) a.so_far)

opposed : (es xs : List PlainEntry) (i : ℕ) (after noted : List PlainEntry) (answers : List Addition) (x : PlainEntry) (there first : Option Bool) (b : Bool) →
    Adding es xs i after noted answers → IsNext es xs i after noted x there first → is_sign (not x.1) first ≡ b →
    is_sign (not x.1) (sign_of x.0 (added [] (take i xs))) ≡ b
opposed es xs i after noted answers x there first b a n is =
    ap (is_sign (not x.1)) (sign_added [] (take i xs) x.0 ∙ sym (first-named es xs i after noted answers x there first a n)) ∙ is

pub adding_next : (es xs : List PlainEntry) (i : ℕ) (after noted : List PlainEntry) (answers : List Addition) (x : PlainEntry) (there first : Option Bool) →
    Adding es xs i after noted answers → IsNext es xs i after noted x there first → IsNetwork x.0 → is_sign (not x.1) first ≡ false →
    Adding es xs (i + 1) (with_entry after x) (noted_with noted there first x) (answers ++ addition there x.1 ∷ [])
adding_next es xs i after noted answers x there first a n network is =
    let front = (next_cut xs i x n.low n.at).1 in
    record {
      so_far = ap (λ l. with_entry l x) a.so_far ∙ one_more es xs i x n.low n.at;
      signs = subst (λ l. IsNoted es l (noted_with noted there first x)) (sym front) (notes_next es (take i xs) noted x there first a.signs
          (n.is_there ∙ ap (sign_of x.0) a.so_far) (first-named es xs i after noted answers x there first a n));
      reported = ap (λ o. (answers ++ addition o x.1 ∷ []) ++ additions (added es (take (i + 1) xs)) (drop (i + 1) xs)) n.is_there
          ∙ adds_next answers es after xs i x a.so_far n.low n.at ∙ a.reported;
      list = subst (Gathering xs (i + 1)) (one_more [] xs i x n.low n.at) (gathers_next xs i (added [] (take i xs)) x a.list n.low n.at network
          (opposed es xs i after noted answers x there first false a n is));
    }

pub adding_stops : (es xs : List PlainEntry) (i : ℕ) (after noted : List PlainEntry) (answers : List Addition) (x : PlainEntry) (there first : Option Bool) →
    Adding es xs i after noted answers → IsNext es xs i after noted x there first → is_sign (not x.1) first ≡ true → conflict_in xs ≡ Some i
adding_stops es xs i after noted answers x there first a n is =
    gathers_no_more xs i (added [] (take i xs)) x a.list n.low n.at (opposed es xs i after noted answers x there first true a n is)

-- what is known after all entries were added
pub record AllAdded (es xs after : List PlainEntry) (answers : List Addition) : Type 0 where
  pub leaves : after ≡ added es xs
  pub reported : answers ≡ additions es xs
  pub none : conflict_in xs ≡ None
  pub networks : All (λ e. IsNetwork e.0) xs

pub all_added : (es xs : List PlainEntry) (i : ℕ) (after noted : List PlainEntry) (answers : List Addition) → Adding es xs i after noted answers →
    length xs ≤ i → AllAdded es xs after answers
all_added es xs i after noted answers a le =
    let list = gathered_all xs i (added [] (take i xs)) a.list le in
    record {
      leaves = a.so_far ∙ ap (added es) (all_taken xs i le).0;
      reported = adds_end answers es xs i le ∙ a.reported;
      none = list.none;
      networks = list.networks;
    }

-- ---- changing entry by entry

-- where a network isn't there, putting it in takes nothing out
pub put_only : (es : List PlainEntry) (x : PlainEntry) → sign_of x.0 es ≡ None → with_value net_order es x.0 (Some x.1) ≡ put net_order x.0 x.1 es
put_only es x none = ap (put net_order x.0 x.1) (stays es none) where
  stays : (fs : List PlainEntry) → sign_of x.0 fs ≡ None → without net_order fs x.0 ≡ fs
  stays [] none = refl
  stays (f ∷ fs) none = by (is_eq (net_order x.0 f.0)) refl (stays fs) where
    by : (t : Bool) → is_eq (net_order x.0 f.0) ≡ t → (sign_of x.0 fs ≡ None → without net_order fs x.0 ≡ fs) →
        without net_order (f ∷ fs) x.0 ≡ f ∷ fs
    by true tied rest = let some : Some f.1 ≡ None = rw tied at none in absurd (true≢false (ap is_some some))
    by false other rest = let later : sign_of x.0 fs ≡ None = rw other at none in rw other (ap (λ l. f ∷ l) (rest later))

pub with_new : (es : List PlainEntry) (x : PlainEntry) (there : Option Bool) → there ≡ sign_of x.0 es → is_some there ≡ false →
    with_value net_order es x.0 (Some x.1) ≡ with_entry es x
with_new es x None is new = rw (sym is) (put_only es x (sym is))
with_new es x (Some s) is new = absurd (true≢false new)

pub one_less : (es xs : List PlainEntry) (i : ℕ) (x : PlainEntry) → i < length xs → x ≡ get_or xs i x →
    without_entry (deleted es (take i xs)) x ≡ deleted es (take (i + 1) xs)
unfolding deleted
one_less es xs i x lt at = sym (ap (fold without_entry es) (next_cut xs i x lt at).1 ∙ fold-append without_entry es (take i xs) (x ∷ []))

pub dels_next : (answers : List Deletion) (es now xs : List PlainEntry) (i : ℕ) (x : PlainEntry) → now ≡ deleted es (take i xs) → i < length xs →
    x ≡ get_or xs i x →
    (answers ++ deletion (has_entry now x) ∷ []) ++ deletions (deleted es (take (i + 1) xs))
    (drop (i + 1) xs) ≡ answers ++ deletions (deleted es (take i xs)) (drop i xs)
unfolding deletions
dels_next answers es now xs i x is lt at =
    append_assoc answers (deletion (has_entry now x) ∷ []) _
    ∙ ap (λ l. answers ++ l) ((λ j. deletion (has_entry (is j) x) ∷ deletions (sym (one_less es xs i x lt at) j) (drop (i + 1) xs))
    ∙ sym (ap (deletions (deleted es (take i xs))) (next_cut xs i x lt at).0))

pub dels_end : (answers : List Deletion) (es xs : List PlainEntry) (i : ℕ) → length xs ≤ i →
    answers ≡ answers ++ deletions (deleted es (take i xs)) (drop i xs)
unfolding deletions
dels_end answers es xs i le = sym (append-nil answers)
    ∙ ap (λ l. answers ++ deletions (deleted es (take i xs)) l) (sym (all_taken xs i le).1)

-- ---- answers by the table before the edit

-- the answer for an entry that is added, where no network is named with both signs: by its network's sign in the table before the edit, and
-- by whether it is the first of its network
abbrev pub reported : Option Bool → Bool → Bool → Addition
reported None true sign = Added
reported None false sign = Same
reported (Some there) first sign = cond (beq sign there) Same Conflict

pub adds_by_signs : (o p : Option Bool) (s : Bool) → is_sign (not s) p ≡ false → addition (option_or o p) s ≡ reported o (is_none p) s
adds_by_signs (Some t) p s other = refl
adds_by_signs None None s other = refl
adds_by_signs None (Some true) true other = refl
adds_by_signs None (Some false) true other = absurd (true≢false other)
adds_by_signs None (Some true) false other = absurd (true≢false other)
adds_by_signs None (Some false) false other = refl

and_false : (b : Bool) → false ≡ (b && false)
and_false true = refl
and_false false = refl

dels_by_signs : (o p : Option Bool) (s : Bool) → is_sign (not s) p ≡ false → (named : Bool → Bool) → ((t : Bool) → named t ≡ is_sign t p) →
    (left : Option Bool → Option Bool) → (left None ≡ None) → ((t : Bool) → left (Some t) ≡ cond (named t) None (Some t)) →
    is_sign s (left o) ≡ (is_none p && is_sign s o)
dels_by_signs None p s other named are left at_none at_some = ap (is_sign s) at_none ∙ and_false (is_none p)
dels_by_signs (Some t) None s other named are left at_none at_some = ap (is_sign s) (at_some t ∙ ap (λ b. cond b None (Some t)) (are t))
dels_by_signs (Some t) (Some u) s other named are left at_none at_some = ap (is_sign s) (at_some t ∙ ap (λ b. cond b None (Some t)) (are t))
    ∙ by t u s other where
      by : (t u s : Bool) → beq (not s) u ≡ false → is_sign s (cond (beq t u) None (Some t)) ≡ false
      by true true s other = refl
      by true false true other = absurd (true≢false other)
      by true false false other = refl
      by false true true other = refl
      by false true false other = absurd (true≢false other)
      by false false s other = refl

-- what an entry that is deleted finds after the earlier ones
pub dels_by_old : (es xs : List PlainEntry) (i : ℕ) (x : PlainEntry) → conflict_in xs ≡ None → i < length xs → x ≡ get_or xs i x →
    has_entry (deleted es (take i xs)) x ≡ (is_none (sign_of x.0 (take i xs)) && is_sign x.1 (sign_of x.0 es))
dels_by_old es xs i x none lt at =
    let agree = agree_front (take i xs) (drop i xs) (subst Agree (sym (take-append-drop i xs)) (agreeing xs none)) in
    ap (is_sign x.1) (sign_deleted es (take i xs) x.0)
    ∙ dels_by_signs (sign_of x.0 es) (sign_of x.0 (take i xs)) x.1 (no_other_sign xs i x none lt at)
    (λ t. list_any (same_entry (x.0, t)) (take i xs)) (any_is_sign (take i xs) agree x.0) (sign_left (take i xs) x.0) refl (λ t. refl)

-- What edits leave: the sign that each network then has, and that the table stays in order.
use Rattle.std.proofs.{Common.{◌≡◌, ◌≤◌, T, Bool, true, false, not, cond, ◌&&◌, ◌||◌, List, [], ◌∷◌, ◌++◌, length, Option, Some, None, is_some, refl, sym, ap, ◌∙◌, true≢false, arith}, lemmas.Bool.or_parts, lemmas.List.Folds.list_any-append}
use Rattle.std.specs.{Bool.beq, Cmp.{alike_right, eq_by_cmp_equiv}, FinMap.{put, is_sorted}, FinMap.Entries.{by_order, where_key, find-put, find-where_key, find_tied, is_sorted-put, is_sorted-where_key, same_entries}, List.{list_any, AllByRecursion}, Option.option_or, Ordering.{eq_by_cmp, is_eq}, declared.{cmp.Ordering.Ordering, cmp.Ordering.TheVariants.Less, cmp.Ordering.TheVariants.Equal, cmp.Ordering.TheVariants.Greater}}
use Rattle.pf_addr.specs.Address.{PlainNet}
use Rattle.pf_table.specs.{Entries.PlainEntry, Tables.sign_of, Edits.{with_entry, added, is_sign, has_entry, without_entry, deleted, same_entry, is_opposite}}
use Rattle.pf_addr.specs.{NetOrder.net_order, Laws.NetOrder.{net_total, net_same}}

tied_of : (r : Ordering) → is_eq r ≡ true → r ≡ Equal
tied_of Less e = absurd (true≢false (sym e))
tied_of Equal e = refl
tied_of Greater e = absurd (true≢false (sym e))

pub or_none : (o : Option Bool) → o ≡ option_or o None
or_none None = refl
or_none (Some s) = refl

pub exchanged : (a b : Bool) → beq a b ≡ beq b a
exchanged true true = refl
exchanged true false = refl
exchanged false true = refl
exchanged false false = refl

-- ---- adding

sign_with : (es : List PlainEntry) (x : PlainEntry) (q : PlainNet) → sign_of q (with_entry es x) ≡ option_or (sign_of q es) (cond (eq_by_cmp net_order q x.0) (Some x.1) None)
sign_with es x q = by (sign_of x.0 es) refl (eq_by_cmp net_order q x.0) refl where
  by : (o : Option Bool) → sign_of x.0 es ≡ o → (t : Bool) → eq_by_cmp net_order q x.0 ≡ t → sign_of q (with_entry es x) ≡ option_or (sign_of q es) (cond t (Some x.1) None)
  by (Some s) is true tied = let here : sign_of q es ≡ Some s = sym (find_tied net_order net_total q x.0 (tied_of _ tied) es) ∙ is in rw (is, here) refl
  by (Some s) is false other = rw is (or_none (sign_of q es))
  by None is true tied = let here : sign_of q es ≡ None = sym (find_tied net_order net_total q x.0 (tied_of _ tied) es) ∙ is in rw (is, here) (find-put net_order net_total q x.0 x.1 es ∙ ap (λ b. cond b (Some x.1) (sign_of q es)) tied)
  by None is false other = rw is (find-put net_order net_total q x.0 x.1 es ∙ ap (λ b. cond b (Some x.1) (sign_of q es)) other ∙ or_none (sign_of q es))

or_or : (a : Option Bool) (t : Bool) (s : Bool) (c : Option Bool) → option_or (option_or a (cond t (Some s) None)) c ≡ option_or a (cond t (Some s) c)
or_or (Some x) t s c = refl
or_or None true s c = refl
or_or None false s c = refl

-- a network keeps its sign, or else gets that of the first entry that names it
pub sign_added : (es xs : List PlainEntry) (q : PlainNet) → sign_of q (added es xs) ≡ option_or (sign_of q es) (sign_of q xs)
unfolding added
sign_added es [] q = or_none (sign_of q es)
sign_added es (x ∷ xs) q = sign_added (with_entry es x) xs q ∙ ap (λ o. option_or o (sign_of q xs)) (sign_with es x q) ∙ or_or (sign_of q es) (eq_by_cmp net_order q x.0) x.1 (sign_of q xs)

pub sorted_added : (es xs : List PlainEntry) → T (is_sorted net_order es) → T (is_sorted net_order (added es xs))
unfolding added
sorted_added es [] is = is
sorted_added es (x ∷ xs) is = sorted_added (with_entry es x) xs (by (is_some (sign_of x.0 es))) where
  by : (t : Bool) → T (is_sorted net_order (cond t es (put net_order x.0 x.1 es)))
  by true = is
  by false = is_sorted-put net_order net_total x.0 x.1 es is

-- two tables in order in which each network has the same sign are equal
pub one_table : (es fs : List PlainEntry) → T (is_sorted net_order es) → T (is_sorted net_order fs) → ((q : PlainNet) → sign_of q es ≡ sign_of q fs) → es ≡ fs
one_table es fs = same_entries net_order net_total net_same es fs

put_all : (P : PlainNet → Type 0) (es : List PlainEntry) (k : PlainNet) (s : Bool) → AllByRecursion (λ e. P e.0) es → P k → AllByRecursion (λ e. P e.0) (put net_order k s es)
put_all P [] k s all this = (this, tt)
put_all P (e ∷ es) k s all this = by (put_all P es k s all.1 this) (net_order k e.0) where
  by : AllByRecursion (λ e. P e.0) (put net_order k s es) → (r : Ordering) → AllByRecursion (λ e. P e.0) (by_order r ((k, s) ∷ e ∷ es) ((e.0, s) ∷ es) (e ∷ put net_order k s es))
  by rest Less = (this, all)
  by rest Equal = all
  by rest Greater = (all.0, rest)

pub with_all : (P : PlainNet → Type 0) (es : List PlainEntry) (x : PlainEntry) → AllByRecursion (λ e. P e.0) es → P x.0 → AllByRecursion (λ e. P e.0) (with_entry es x)
with_all P es x all this = by (is_some (sign_of x.0 es)) where
  by : (t : Bool) → AllByRecursion (λ e. P e.0) (cond t es (put net_order x.0 x.1 es))
  by true = all
  by false = put_all P es x.0 x.1 all this

pub added_all : (P : PlainNet → Type 0) (es xs : List PlainEntry) → AllByRecursion (λ e. P e.0) es → AllByRecursion (λ e. P e.0) xs → AllByRecursion (λ e. P e.0) (added es xs)
unfolding added
added_all P es [] all more = all
added_all P es (x ∷ xs) all more = added_all P (with_entry es x) xs (with_all P es x all more.0) more.1

-- ---- lists in which no network has both signs

abbrev pub Agree : List PlainEntry → Type 0
Agree [] = Unit {0}
Agree (e ∷ es) = (list_any (is_opposite e) es ≡ false) × Agree es

any_tied : (q p : PlainNet) (s : Bool) (es : List PlainEntry) → net_order q p ≡ Equal → list_any (same_entry (q, s)) es ≡ list_any (same_entry (p, s)) es
any_tied q p s [] tied = refl
any_tied q p s (e ∷ es) tied = λ i. (is_eq (net_total.congr q p e.0 tied i) && beq s e.1) || any_tied q p s es tied i

-- such a list has an entry exactly if its network has that sign there
pub any_is_sign : (es : List PlainEntry) → Agree es → (q : PlainNet) (s : Bool) → list_any (same_entry (q, s)) es ≡ is_sign s (sign_of q es)
any_is_sign [] agree q s = refl
any_is_sign (e ∷ es) agree q s = by (eq_by_cmp net_order q e.0) refl (any_is_sign es agree.1 q s) where
  other : (a b : Bool) → beq a b ≡ false → a ≡ not b
  other true true e = absurd (true≢false e)
  other true false e = refl
  other false true e = refl
  other false false e = absurd (true≢false e)

  sign : (b : Bool) → beq s e.1 ≡ b → eq_by_cmp net_order q e.0 ≡ true → (b || list_any (same_entry (q, s)) es) ≡ b
  sign true is tied = refl
  sign false is tied = any_tied q e.0 s es (tied_of _ tied) ∙ ap (λ t. list_any (same_entry (e.0, t)) es) (other s e.1 is) ∙ agree.0

  by : (t : Bool) → eq_by_cmp net_order q e.0 ≡ t → list_any (same_entry (q, s)) es ≡ is_sign s (sign_of q es) → list_any (same_entry (q, s)) (e ∷ es) ≡ is_sign s (sign_of q (e ∷ es))
  by true is rest = rw is (sign (beq s e.1) refl is)
  by false is rest = rw is rest

opposite_back : (x e : PlainEntry) → is_opposite x e ≡ is_opposite e x
opposite_back x e = λ i. (eq_by_cmp_equiv net_total).symm x.0 e.0 i && turned x.1 e.1 i where
  turned : (a b : Bool) → beq (not a) b ≡ beq (not b) a
  turned true true = refl
  turned true false = refl
  turned false true = refl
  turned false false = refl

pub agree_push : (es : List PlainEntry) (x : PlainEntry) → Agree es → list_any (is_opposite x) es ≡ false → Agree (es ++ x ∷ [])
agree_push [] x agree none = (refl, tt)
agree_push (e ∷ es) x agree none = (any, agree_push es x agree.1 (or_parts _ _ none).1) where
  any : list_any (is_opposite e) (es ++ x ∷ []) ≡ false
  any = list_any-append (is_opposite e) es (x ∷ []) ∙ ap (λ b. b || (is_opposite e x || false)) agree.0 ∙ ap (λ b. b || false) (opposite_back e x ∙ (or_parts _ _ none).0)

-- ---- deleting

-- a sign is taken away if the list names the network with it
abbrev pub sign_left : List PlainEntry → PlainNet → Option Bool → Option Bool
sign_left xs q None = None
sign_left xs q (Some s) = cond (list_any (same_entry (q, s)) xs) None (Some s)

sign_without : (es : List PlainEntry) (x : PlainEntry) (q : PlainNet) → sign_of q (without_entry es x) ≡ sign_left (x ∷ []) q (sign_of q es)
sign_without es x q = by (eq_by_cmp net_order x.0 q) refl where
  gone : sign_of q (where_key net_order (λ n. not (eq_by_cmp net_order x.0 n)) es) ≡ cond (not (eq_by_cmp net_order x.0 q)) (sign_of q es) None
  gone = find-where_key net_order (λ n. not (eq_by_cmp net_order x.0 n)) q (λ n tied. ap (λ r. not (is_eq r)) (sym (alike_right net_total q n x.0 tied))) es

  back : eq_by_cmp net_order q x.0 ≡ eq_by_cmp net_order x.0 q
  back = (eq_by_cmp_equiv net_total).symm q x.0

  own : (o : Option Bool) → eq_by_cmp net_order q x.0 ≡ false → o ≡ sign_left (x ∷ []) q o
  own None e = refl
  own (Some s) e = rw e refl

  apart : (t : Bool) → eq_by_cmp net_order x.0 q ≡ false → sign_of q (cond t (where_key net_order (λ n. not (eq_by_cmp net_order x.0 n)) es) es) ≡ sign_of q es
  apart true e = gone ∙ ap (λ b. cond (not b) (sign_of q es) None) e
  apart false e = refl

  both : (o : Option Bool) → sign_of q es ≡ o → sign_of x.0 es ≡ o → eq_by_cmp net_order x.0 q ≡ true → sign_of q (without_entry es x) ≡ sign_left (x ∷ []) q o
  both None at_q at_x tied = rw at_x at_q
  both (Some s) at_q at_x tied = sign (beq x.1 s) refl where
    sign : (b : Bool) → beq x.1 s ≡ b → sign_of q (without_entry es x) ≡ sign_left (x ∷ []) q (Some s)
    sign true same = rw (at_x, same) (gone ∙ ap (λ b. cond (not b) (sign_of q es) None) tied ∙ sym (rw (back, tied, exchanged s x.1, same) refl))
    sign false other = rw (at_x, other) (at_q ∙ sym (rw (back, tied, exchanged s x.1, other) refl))

  by : (t : Bool) → eq_by_cmp net_order x.0 q ≡ t → sign_of q (without_entry es x) ≡ sign_left (x ∷ []) q (sign_of q es)
  by true tied = both (sign_of q es) refl (find_tied net_order net_total q x.0 (tied_of _ (back ∙ tied)) es) tied
  by false other = apart (has_entry es x) other ∙ own (sign_of q es) (back ∙ other)

left_twice : (x : PlainEntry) (xs : List PlainEntry) (q : PlainNet) (o : Option Bool) → sign_left xs q (sign_left (x ∷ []) q o) ≡ sign_left (x ∷ xs) q o
left_twice x xs q None = refl
left_twice x xs q (Some s) = by (same_entry (q, s) x) where
  by : (b : Bool) → sign_left xs q (cond (b || false) None (Some s)) ≡ cond (b || list_any (same_entry (q, s)) xs) None (Some s)
  by true = refl
  by false = refl

-- a network loses its sign if the list names it with that sign
pub sign_deleted : (es xs : List PlainEntry) (q : PlainNet) → sign_of q (deleted es xs) ≡ sign_left xs q (sign_of q es)
unfolding deleted
sign_deleted es [] q = own (sign_of q es) where
  own : (o : Option Bool) → o ≡ sign_left [] q o
  own None = refl
  own (Some t) = refl
sign_deleted es (x ∷ xs) q = sign_deleted (without_entry es x) xs q ∙ ap (sign_left xs q) (sign_without es x q) ∙ left_twice x xs q (sign_of q es)

pub sorted_deleted : (es xs : List PlainEntry) → T (is_sorted net_order es) → T (is_sorted net_order (deleted es xs))
unfolding deleted
sorted_deleted es [] is = is
sorted_deleted es (x ∷ xs) is = sorted_deleted (without_entry es x) xs (by (has_entry es x)) where
  by : (t : Bool) → T (is_sorted net_order (cond t (where_key net_order (λ n. not (eq_by_cmp net_order x.0 n)) es) es))
  by true = is_sorted-where_key net_order (λ n. not (eq_by_cmp net_order x.0 n)) es is
  by false = is

kept_all : (P : PlainNet → Type 0) (p : PlainNet → Bool) (es : List PlainEntry) → AllByRecursion (λ e. P e.0) es → AllByRecursion (λ e. P e.0) (where_key net_order p es)
kept_all P p [] all = tt
kept_all P p (e ∷ es) all = by (p e.0) (kept_all P p es all.1) where
  by : (t : Bool) → AllByRecursion (λ e. P e.0) (where_key net_order p es) → AllByRecursion (λ e. P e.0) (cond t (e ∷ where_key net_order p es) (where_key net_order p es))
  by true rest = (all.0, rest)
  by false rest = rest

pub deleted_all : (P : PlainNet → Type 0) (es xs : List PlainEntry) → AllByRecursion (λ e. P e.0) es → AllByRecursion (λ e. P e.0) (deleted es xs)
unfolding deleted
deleted_all P es [] all = all
deleted_all P es (x ∷ xs) all = deleted_all P (without_entry es x) xs (by (has_entry es x)) where
  by : (t : Bool) → AllByRecursion (λ e. P e.0) (cond t (where_key net_order (λ n. not (eq_by_cmp net_order x.0 n)) es) es)
  by true = kept_all P (λ n. not (eq_by_cmp net_order x.0 n)) es all
  by false = all

kept_fewer : (p : PlainNet → Bool) (es : List PlainEntry) → length (where_key net_order p es) ≤ length es
kept_fewer p [] = omega arith
kept_fewer p (e ∷ es) = by (p e.0) (kept_fewer p es) where
  by : (t : Bool) → length (where_key net_order p es) ≤ length es → length (cond t (e ∷ where_key net_order p es) (where_key net_order p es)) ≤ length (e ∷ es)
  by true rest = omega arith
  by false rest = omega arith

pub deleted_fewer : (es xs : List PlainEntry) → length (deleted es xs) ≤ length es
unfolding deleted
deleted_fewer es [] = omega arith
deleted_fewer es (x ∷ xs) = by (has_entry es x) (deleted_fewer (without_entry es x) xs) where
  by : (t : Bool) → length (deleted (without_entry es x) xs) ≤ length (cond t (where_key net_order (λ n. not (eq_by_cmp net_order x.0 n)) es) es) → length (deleted (without_entry es x) xs) ≤ length es
  by true few = omega (arith, few, kept_fewer (λ n. not (eq_by_cmp net_order x.0 n)) es)
  by false few = few

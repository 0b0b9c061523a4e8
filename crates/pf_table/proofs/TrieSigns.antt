-- What tries of a table's signs become by an edit, and that what they find is the entry that decides.
use Rattle.std.proofs.{Common.{◌≡◌, ◌≢◌, ℕ, zero, suc, ◌+◌, ◌-◌, ◌*◌, ◌/◌, ◌^◌, ◌<◌, ◌≤◌, ◌==◌, ◌&&◌, nat_lt, Bool, true, false, not, cond, List, [], ◌∷◌, ◌++◌, length, get_or, take, Option, Some, None, is_some, option_map, All, refl, sym, ap, ◌∙◌, subst, true≢false, arith, ◌⊎◌, inl, inr}, lemmas.{Bool.and_parts, Bool.Decides.nat_tests, Nat.{shl-shr, shr-shr}, List.Elements.All-contains}}
use Rattle.std.specs.{Bool.beq, List.{Contains, AllByRecursion}, FinMap.put, FinMap.Entries.{find-put, find-where_key}, Cmp.{alike_right, eq_by_cmp_equiv, tied_itself}, Ordering.{eq_by_cmp, is_eq, ordering_reverse}}
use Rattle.std.specs.declared.cmp.Ordering.{Ordering, TheVariants.Less, TheVariants.Equal, TheVariants.Greater}
use Rattle.pf_addr.specs.{declared.{addr.Addr.Addr, addr.Family.Family, addr.Family.TheVariants.V4, addr.Family.TheVariants.V6}, Address.{PlainNet, IsNetwork, contains, family_of, width, first_bits, network_from}, Spelling.{addr_in, first_addr}}
use Rattle.pf_addr.specs.declared.addr.Addr.TheVariants as addr
use Rattle.pf_addr.specs.{NetOrder.net_order, Laws.NetOrder.{net_total, net_same}}
use Rattle.pf_map.specs.Maps.{with_value, without}
use Rattle.pf_map.proofs.Tests.{first_of, second_of, equal_of}
use Rattle.pf_trie.specs.declared.{found.Found.{Found}, prefix.Prefix.{Prefix}}
use Rattle.pf_trie.specs.Prefixes.{AllSigns, front, with_sign, Finds}
use Rattle.pf_table.specs.{declared.answer.{Addition.{Addition, TheVariants.{Added, Same, Conflict}}, Deletion.{Deletion, TheVariants.{Deleted, Absent}}}, Entries.PlainEntry, Tables.{sign_of, Decides, deciding}}
use Rattle.pf_table.specs.{Edits.{with_entry, without_entry, has_entry, added, addition, additions, deleted, deletion, deletions}, Indexed.{wide_number, IsPrefixOf, network, signs, AreIn}}
use Rattle.pf_table.proofs.{Batches.{next_cut, put_only, with_new}, Lookups.{holds_of, holds_from, is_there, sign_there, decided, one_entry, one_network, lower_or_same}, Sorted.{sorted, below_at}}

-- ---- a network's sign replaced

turned : (t : Bool) (o : Option Bool) → cond (not t) o None ≡ cond t None o
turned true o = refl
turned false o = refl

left : (es : List PlainEntry) (n q : PlainNet) → sign_of q (without net_order es n) ≡ cond (eq_by_cmp net_order q n) None (sign_of q es)
left es n q =
    find-where_key net_order (λ m. not (eq_by_cmp net_order n m)) q (λ m tied. ap (λ r. not (is_eq r)) (sym (alike_right net_total q m n tied))) es
    ∙ ap (λ t. cond (not t) (sign_of q es) None) (sym ((eq_by_cmp_equiv net_total).symm q n))
    ∙ turned (eq_by_cmp net_order q n) (sign_of q es)

sign_of_value : (es : List PlainEntry) (n : PlainNet) (sign : Option Bool) (q : PlainNet)
    → sign_of q (with_value net_order es n sign) ≡ cond (eq_by_cmp net_order q n) sign (sign_of q es)
sign_of_value es n None q = left es n q
sign_of_value es n (Some s) q = find-put net_order net_total q n s (without net_order es n) ∙ by (eq_by_cmp net_order q n) (left es n q) where
  by : (t : Bool) → sign_of q (without net_order es n) ≡ cond t None (sign_of q es)
      → cond t (Some s) (sign_of q (without net_order es n)) ≡ cond t (Some s) (sign_of q es)
  by true is = refl
  by false is = is

-- ---- its sign in a trie

-- of numbers with 128 bits so many are free behind so many
back_free : (m : ℕ) → m ≤ 128 → 128 - (128 - m) ≡ m
back_free m le = omega (arith, le)

-- a network is the one at a place in the trie exactly where the place is its prefix
here : (n : PlainNet) (p : Prefix) (k m : ℕ) → IsPrefixOf n p → k ≤ 128 → eq_by_cmp net_order (network n.family k m) n ≡ ((k == p.free) && (m == front p))
here n p k m is le = by ((k == p.free) && (m == front p)) refl (eq_by_cmp net_order (network n.family k m) n) refl where
  len : n.len ≤ 128
  len = is.len

  free : p.free ≡ 128 - n.len
  free = is.free

  by : (t : Bool) → ((k == p.free) && (m == front p)) ≡ t → (u : Bool) → eq_by_cmp net_order (network n.family k m) n ≡ u → u ≡ t
  by true at true tied = refl
  by false at false tied = refl
  by true at false tied =
      let (same_free, same_front) = and_parts (k == p.free) (m == front p) at in
      let free_is : k ≡ p.free = grind (arith, nat_tests) in
      let front_is : m ≡ front p = grind (arith, nat_tests) in
      let back : 128 - k ≡ n.len = omega (arith, free_is, free, len) in
      let whole : network n.family k m ≡ n = λ i. record { family = n.family; len = back i; front = (front_is ∙ is.front) i } in
      absurd (true≢false (sym (ap is_eq (tied_itself net_total n)) ∙ sym (ap (λ (q : PlainNet). eq_by_cmp net_order q n) whole) ∙ tied))
  by false at true tied =
      let whole : network n.family k m ≡ n = net_same (network n.family k m) n (equal_of _ tied) in
      let back : 128 - k ≡ n.len = ap (λ (q : PlainNet). q.len) whole in
      let free_is : k ≡ p.free = omega (arith, back, free, len, le) in
      let front_is : m ≡ front p = ap (λ (q : PlainNet). q.front) whole ∙ sym is.front in
      absurd (clash free_is front_is)
    where
      own : (a b : ℕ) → ((a == a) && (b == b)) ≡ true
      own a b = grind (arith, nat_tests)

      clash : k ≡ p.free → m ≡ front p → ⊥
      clash free_is front_is =
          let all : ((k == p.free) && (m == front p)) ≡ true = rw (free_is, front_is) (own p.free (front p)) in true≢false (sym all ∙ at)

-- a place in the trie for more than all bits has no sign
pub signs_replaced : (es : List PlainEntry) (n : PlainNet) (sign : Option Bool) (p : Prefix) → IsPrefixOf n p
    → with_sign (signs es n.family) p sign ≡ signs (with_value net_order es n sign) n.family
unfolding signs
signs_replaced es n sign p is = λ i k m. sym (point k m) i where
  point : (k m : ℕ) → cond (nat_lt 128 k) None (sign_of (network n.family k m) (with_value net_order es n sign))
      ≡ cond ((k == p.free) && (m == front p)) sign (cond (nat_lt 128 k) None (sign_of (network n.family k m) es))
  point k m = by (nat_lt 128 k) refl where
    by : (t : Bool) → nat_lt 128 k ≡ t → cond t None (sign_of (network n.family k m) (with_value net_order es n sign))
        ≡ cond ((k == p.free) && (m == front p)) sign (cond t None (sign_of (network n.family k m) es))
    by false t =
        sign_of_value es n sign (network n.family k m)
        ∙ ap (λ b. cond b sign (sign_of (network n.family k m) es)) (here n p k m is (grind (arith, nat_tests)))
    by true t = outside ((k == p.free) && (m == front p)) refl where
      outside : (u : Bool) → ((k == p.free) && (m == front p)) ≡ u → None ≡ cond u sign None
      outside false u = refl
      outside true u =
          let (same_free, _) = and_parts (k == p.free) (m == front p) u in
          let free_is : k ≡ p.free = grind (arith, nat_tests) in
          let more : 128 < k = grind (arith, nat_tests) in
          let free : p.free ≡ 128 - n.len = is.free in
          absurd (omega (arith, free_is, free, more))

-- the other family's signs stay
pub signs_other : (es : List PlainEntry) (n : PlainNet) (sign : Option Bool) (f : Family) → f ≢ n.family → signs es f ≡ signs (with_value net_order es n sign) f
unfolding signs
signs_other es n sign f other = λ i k m. cond (nat_lt 128 k) None (sym (point k m) i) where
  point : (k m : ℕ) → sign_of (network f k m) (with_value net_order es n sign) ≡ sign_of (network f k m) es
  point k m = sign_of_value es n sign (network f k m) ∙ by (eq_by_cmp net_order (network f k m) n) refl where
    by : (t : Bool) → eq_by_cmp net_order (network f k m) n ≡ t → cond t sign (sign_of (network f k m) es) ≡ sign_of (network f k m) es
    by false t = refl
    by true t = absurd (other (ap (λ (q : PlainNet). q.family) (net_same (network f k m) n (equal_of _ t))))

v4_not_v6 : V4 ≢ V6
v4_not_v6 same = absurd (cc (same))

module _ {X : Type 0} (has : AllSigns → X → Type 0) where
  -- a trie in which the sign of a network of its family was replaced, beside the other
  pub in_v4 : (es : List PlainEntry) (n : PlainNet) (sign : Option Bool) (p : Prefix) (v4 v6 new : X) → IsPrefixOf n p → n.family ≡ V4
      → ((s : AllSigns) → has s v4 → has (with_sign s p sign) new) → AreIn has es v4 v6 → AreIn has (with_value net_order es n sign) new v6
  in_v4 es n sign p v4 v6 new is family made are = record {
    v4 = subst (λ (f : Family). has (signs (with_value net_order es n sign) f) new) family
        (subst (λ s. has s new) (signs_replaced es n sign p is) (made (signs es n.family) (subst (λ (f : Family). has (signs es f) v4) (sym family) are.v4)));
    v6 = subst (λ s. has s v6) (signs_other es n sign V6 (λ same. v4_not_v6 (sym (same ∙ family)))) are.v6;
  }

  pub in_v6 : (es : List PlainEntry) (n : PlainNet) (sign : Option Bool) (p : Prefix) (v4 v6 new : X) → IsPrefixOf n p → n.family ≡ V6
      → ((s : AllSigns) → has s v6 → has (with_sign s p sign) new) → AreIn has es v4 v6 → AreIn has (with_value net_order es n sign) v4 new
  in_v6 es n sign p v4 v6 new is family made are = record {
    v4 = subst (λ s. has s v4) (signs_other es n sign V4 (λ same. v4_not_v6 (same ∙ family))) are.v4;
    v6 = subst (λ (f : Family). has (signs (with_value net_order es n sign) f) new) family
        (subst (λ s. has s new) (signs_replaced es n sign p is) (made (signs es n.family) (subst (λ (f : Family). has (signs es f) v6) (sym family) are.v6)));
  }

-- no entries have no signs
pub no_signs : (f : Family) (k m : ℕ) → signs [] f k m ≡ None
unfolding signs
no_signs f k m = by (nat_lt 128 k) where
  by : (t : Bool) → cond t None (sign_of (network f k m) []) ≡ None
  by true = refl
  by false = refl

-- ---- edits, entry by entry

pub with_added : (es : List PlainEntry) (x : PlainEntry) → Added ≡ addition (sign_of x.0 es) x.1 → with_value net_order es x.0 (Some x.1) ≡ with_entry es x
with_added es x is = by (sign_of x.0 es) refl is where
  by : (o : Option Bool) → sign_of x.0 es ≡ o → Added ≡ addition o x.1 → with_value net_order es x.0 (Some x.1) ≡ with_entry es x
  by None none is = with_new es x None (sym none) refl
  by (Some s) some is = absurd (clash (beq x.1 s) is) where
    clash : (t : Bool) → Added ≡ cond t Same Conflict → ⊥
    clash true is = cc (is)
    clash false is = cc (is)

pub with_none : (es : List PlainEntry) (x : PlainEntry) (answer : Addition) → answer ≢ Added → answer ≡ addition (sign_of x.0 es) x.1 → es ≡ with_entry es x
with_none es x answer other is = by (sign_of x.0 es) refl is where
  by : (o : Option Bool) → sign_of x.0 es ≡ o → answer ≡ addition o x.1 → es ≡ with_entry es x
  by None none is = absurd (other is)
  by (Some s) some is = rw some refl

pub same_not_added : Same ≢ Added
same_not_added is = absurd (cc (is))

pub conflict_not_added : Conflict ≢ Added
conflict_not_added is = absurd (cc (is))

pub without_deleted : (es : List PlainEntry) (x : PlainEntry) → Deleted ≡ deletion (has_entry es x) → with_value net_order es x.0 None ≡ without_entry es x
without_deleted es x is = by (has_entry es x) refl is where
  by : (t : Bool) → has_entry es x ≡ t → Deleted ≡ deletion t → with_value net_order es x.0 None ≡ without_entry es x
  by true has is = rw has refl
  by false has is = absurd (cc (is))

pub without_none : (es : List PlainEntry) (x : PlainEntry) → Absent ≡ deletion (has_entry es x) → es ≡ without_entry es x
without_none es x is = by (has_entry es x) refl is where
  by : (t : Bool) → has_entry es x ≡ t → Absent ≡ deletion t → es ≡ without_entry es x
  by false has is = rw has refl
  by true has is = absurd (cc (is))

-- the answer at a place is that for the entry there, after the earlier ones
pub added_at : (es xs : List PlainEntry) (i : ℕ) (x : PlainEntry) (answer : Addition) → i < length xs → x ≡ get_or xs i x → answer ≡ get_or (additions es xs) i answer
    → answer ≡ addition (sign_of x.0 (added es (take i xs))) x.1
unfolding added additions
added_at es [] i x answer lt at is = absurd (omega arith)
added_at es (y ∷ xs) zero x answer lt at is = is ∙ (λ i. addition (sign_of (sym at i).0 es) (sym at i).1)
added_at es (y ∷ xs) (suc i) x answer lt at is = added_at (with_entry es y) xs i x answer (omega arith) at is

pub deleted_at : (es xs : List PlainEntry) (i : ℕ) (x : PlainEntry) (answer : Deletion) → i < length xs → x ≡ get_or xs i x → answer ≡ get_or (deletions es xs) i answer
    → answer ≡ deletion (has_entry (deleted es (take i xs)) x)
unfolding deleted deletions
deleted_at es [] i x answer lt at is = absurd (omega arith)
deleted_at es (y ∷ xs) zero x answer lt at is = is ∙ (λ i. deletion (has_entry es (sym at i)))
deleted_at es (y ∷ xs) (suc i) x answer lt at is = deleted_at (without_entry es y) xs i x answer (omega arith) at is

pub as_many_added : (es xs : List PlainEntry) → length (additions es xs) ≡ length xs
unfolding additions
as_many_added es [] = refl
as_many_added es (x ∷ xs) = let rest = as_many_added (with_entry es x) xs in omega (arith, rest)

pub as_many_deleted : (es xs : List PlainEntry) → length (deletions es xs) ≡ length xs
unfolding deletions
as_many_deleted es [] = refl
as_many_deleted es (x ∷ xs) = let rest = as_many_deleted (without_entry es x) xs in omega (arith, rest)

-- ---- entries in order, one after the other

abbrev IsAfterAll : PlainEntry → List PlainEntry → Type 0
IsAfterAll x es = AllByRecursion (λ e. net_order x.0 e.0 ≡ Greater) es

after_front : (es : List PlainEntry) (i : ℕ) (x : PlainEntry) → sorted es → i < length es → x ≡ get_or es i x → IsAfterAll x (take i es)
after_front [] i x is lt at = absurd (omega arith)
after_front (e ∷ es) zero x is lt at = tt
after_front (e ∷ es) (suc i) x is lt at =
    let less : net_order e.0 x.0 ≡ Less = ap (λ (y : PlainEntry). net_order e.0 y.0) at ∙ below_at e.0 es i x (first_of _ _ is) (omega arith) in
    (net_total.antisymm x.0 e.0 ∙ ap ordering_reverse less, after_front es i x (second_of _ _ is) (omega arith) at)

none_there : (es : List PlainEntry) (x : PlainEntry) → IsAfterAll x es → sign_of x.0 es ≡ None
none_there [] x all = refl
none_there (e ∷ es) x all = let first : net_order x.0 e.0 ≡ Greater = all.0 in rw first (none_there es x all.1)

put_last : (es : List PlainEntry) (x : PlainEntry) → IsAfterAll x es → put net_order x.0 x.1 es ≡ es ++ x ∷ []
put_last [] x all = refl
put_last (e ∷ es) x all = let first : net_order x.0 e.0 ≡ Greater = all.0 in rw first (ap (λ l. e ∷ l) (put_last es x all.1))

-- the next entry is put in last
pub grows : (es : List PlainEntry) (i : ℕ) (x : PlainEntry) → sorted es → i < length es → x ≡ get_or es i x
    → with_value net_order (take i es) x.0 (Some x.1) ≡ take (i + 1) es
grows es i x is lt at =
    let all = after_front es i x is lt at in
    put_only (take i es) x (none_there (take i es) x all) ∙ put_last (take i es) x all ∙ sym (next_cut es i x lt at).1

-- ---- what is found

-- a wide number begins with an address's bits
wide_front : (a : Addr) (len : ℕ) → len ≤ width (family_of a) → wide_number a / 2 ^ (128 - len) ≡ first_bits len a
wide_front (addr.V4 n) len le =
    let within : len ≤ 32 = le in
    let whole : 96 + (32 - len) ≡ 128 - len = omega (arith, within) in
    ap (λ (k : ℕ). n * 2 ^ 96 / 2 ^ k) (sym whole) ∙ sym (shr-shr (n * 2 ^ 96) 96 (32 - len)) ∙ ap (λ (m : ℕ). m / 2 ^ (32 - len)) (shl-shr n 96)
wide_front (addr.V6 n) len le = refl

wide : (f : Family) → width f ≤ 128
wide V4 = omega arith
wide V6 = omega arith

-- a network's front is a prefix of wide numbers
pub prefix_is : (n : PlainNet) (number len : ℕ) (first : Addr) → first ≡ first_addr n → number ≡ wide_number first → len ≡ n.len → len ≤ width n.family
    → IsPrefixOf n (record { address = number; free = 128 - len })
prefix_is n number len first at is same le = record {
  len = omega (arith, same, le, wide n.family);
  free = ap (λ (k : ℕ). 128 - k) same;
  front = (λ i. (is ∙ ap wide_number at) i / 2 ^ (128 - same i)) ∙ begins n.family (subst (λ (k : ℕ). k ≤ width n.family) same le);
} where
  begins : (f : Family) → n.len ≤ width f → wide_number (addr_in f (n.front * 2 ^ (width f - n.len))) / 2 ^ (128 - n.len) ≡ n.front
  begins V4 le = wide_front (addr.V4 (n.front * 2 ^ (32 - n.len))) n.len le ∙ shl-shr n.front (32 - n.len)
  begins V6 le = shl-shr n.front (128 - n.len)

-- a network that has a sign has an entry
entry_there : (es : List PlainEntry) (n : PlainNet) (s : Bool) → sign_of n es ≡ Some s → Contains es (n, s)
entry_there [] n s is = absurd (cc (is))
entry_there (e ∷ es) n s is = by (net_order n e.0) refl is (entry_there es n s) where
  later : Contains es (n, s) → Contains (e ∷ es) (n, s)
  later (k, lt, at) = (suc k, omega arith, at)

  same : (a b : Bool) → Some a ≡ Some b → a ≡ b
  same a b is = cc (is)

  by : (r : Ordering) → net_order n e.0 ≡ r → cond (is_eq r) (Some e.1) (sign_of n es) ≡ Some s → (sign_of n es ≡ Some s → Contains es (n, s))
      → Contains (e ∷ es) (n, s)
  by Less r so rest = later (rest so)
  by Equal r so rest = (zero, omega arith, λ i. (sym (net_same n e.0 r) i, same e.1 s so i))
  by Greater r so rest = later (rest so)

module _ (es : List PlainEntry) (a : Addr) (is : sorted es) (networks : All (λ e. IsNetwork e.0) es) where
  within_width : (e : PlainEntry) → Contains es e → e.0.family ≡ family_of a → e.0.len ≤ width (family_of a)
  within_width e there family = subst (λ (f : Family). e.0.len ≤ width f) family (All-contains (λ x. IsNetwork x.0) es e networks there).len

  -- the sign of an entry that contains the address is at one of the address's prefixes
  own_sign : (e : PlainEntry) → Contains es e → contains e.0 a ≡ true
      → signs es (family_of a) (128 - e.0.len) (wide_number a / 2 ^ (128 - e.0.len)) ≡ Some e.1
  unfolding signs
  own_sign e there holds =
      let h = holds_of e.0 a holds in
      let within : e.0.len ≤ width (family_of a) = within_width e there h.family in
      let most : e.0.len ≤ 128 = omega (arith, within, wide (family_of a)) in
      let small : nat_lt 128 (128 - e.0.len) ≡ false = grind (arith, nat_tests) in
      let own : network (family_of a) (128 - e.0.len) (wide_number a / 2 ^ (128 - e.0.len)) ≡ e.0 =
      λ i. record { family = sym h.family i; len = back_free e.0.len most i; front = (wide_front a e.0.len within ∙ h.front) i } in
      subst (λ (t : Bool). cond t None (sign_of (network (family_of a) (128 - e.0.len) (wide_number a / 2 ^ (128 - e.0.len))) es) ≡ Some e.1) (sym small)
      (ap (λ (n : PlainNet). sign_of n es) own ∙ sign_there es e is there)

  -- where none of the address's prefixes has a sign, no entry decides
  pub none_found : ((k : ℕ) → 0 ≤ k → k < 129 → signs es (family_of a) k (wide_number a / 2 ^ k) ≡ None) → deciding es a ≡ None
  none_found none = by (deciding es a) refl where
    by : (o : Option PlainEntry) → deciding es a ≡ o → o ≡ None
    by None so = refl
    by (Some e) so =
        let (there, holds) = is_there es a e so in
        let some = own_sign e there holds in
        let missing = none (128 - e.0.len) (omega arith) (omega arith) in
        absurd (cc (sym some ∙ missing))

  module _ (f : Found) (found : Finds (signs es (family_of a)) 0 129 (wide_number a) (Some f)) where
    free : f.free ≤ 128
    free = let below = found.below in omega (arith, below)

    abbrev at : PlainNet
    at = network (family_of a) f.free (wide_number a / 2 ^ f.free)

    named : sign_of at es ≡ Some f.sign
    unfolding signs
    named = let sign = found.sign in let small : nat_lt 128 f.free ≡ false = few free in subst (λ t. cond t None (sign_of at es) ≡ Some f.sign) small sign where
      few : f.free ≤ 128 → nat_lt 128 f.free ≡ false
      few le = grind (arith, nat_tests)

    own_entry : Contains es (at, f.sign)
    own_entry = entry_there es at f.sign named

    -- the network that is found is one of the address's family
    pub found_within : 128 - f.free ≤ width (family_of a)
    found_within = within_width (at, f.sign) own_entry refl

    abbrev pub net : PlainNet
    net = network_from a (128 - f.free)

    same_net : at ≡ net
    same_net = λ i. record {
      family = family_of a;
      len = 128 - f.free;
      front = (ap (λ (k : ℕ). wide_number a / 2 ^ k) (sym (back_free f.free free)) ∙ wide_front a (128 - f.free) found_within) i;
    }

    there : Contains es (net, f.sign)
    there = subst (λ (n : PlainNet). Contains es (n, f.sign)) same_net own_entry

    holds : contains net a ≡ true
    holds = holds_from net a refl refl

    no_longer : (g : PlainEntry) → Contains es g → contains g.0 a ≡ true → g.0.len ≤ 128 - f.free
    no_longer g there_g holds_g = by (nat_lt (128 - g.0.len) f.free) refl where
      by : (t : Bool) → nat_lt (128 - g.0.len) f.free ≡ t → g.0.len ≤ 128 - f.free
      by true t =
          let some = own_sign g there_g holds_g in
          let missing = found.longest (128 - g.0.len) (omega arith) (grind (arith, nat_tests)) in
          absurd (cc (sym some ∙ missing))
      by false t =
          let within : g.0.len ≤ width (family_of a) = within_width g there_g (holds_of g.0 a holds_g).family in
          let most : g.0.len ≤ 128 = omega (arith, within, wide (family_of a)) in
          let le : f.free ≤ 128 - g.0.len = grind (arith, nat_tests) in
          omega (arith, le, most)

    -- what is found decides
    pub found_decides : deciding es a ≡ Some (net, f.sign)
    found_decides = decided es a (net, f.sign) is (record {
      member = there;
      holds = holds;
      longest = λ g there_g holds_g other. elim (lower_or_same g.0.len net.len (no_longer g there_g holds_g)) [
        | inl lt ↦ lt
        | inr same ↦ absurd (other (one_entry es g (net, f.sign) is there_g there (one_network g.0 net a holds_g holds same)))
      ];
    })

-- Of the entries that contain an address the one with the longest prefix decides.
use Rattle.std.proofs.{Common.{◌≡◌, ◌≢◌, ℕ, zero, suc, ◌-◌, ◌/◌, ◌^◌, ◌<◌, ◌≤◌, ◌==◌, nat_lt, Bool, true, false, cond, List, [], ◌∷◌, length, get_or, map, Option, Some, None, is_some, refl, sym, ap, ◌∙◌, subst, true≢false, arith, ◌⊎◌, inl, inr}, lemmas.{Bool.and_parts, Bool.Decides.{nat_tests, Decides-eqb}, List.Elements.All-contains}}
use Rattle.std.specs.{Prelude.slice_get, List.Contains, Ordering.{is_eq, ordering_reverse}, Cmp.tied_itself}
use Rattle.std.specs.declared.cmp.Ordering.{TheVariants.Less}
use Rattle.pf_addr.specs.{declared.{addr.Addr.Addr, addr.Family.Family, addr.Family.TheVariants.V4, addr.Family.TheVariants.V6}, Address.{PlainNet, contains, same_family, family_of, width, number_in, first_bits}}
use Rattle.pf_addr.specs.{NetOrder.net_order, Laws.{Bits.one_family, NetOrder.net_total}}
use Rattle.pf_table.specs.{Entries.PlainEntry, Tables.{sign_of, Decides, longer, deciding}}
use Rattle.pf_map.proofs.Tests.{first_of, second_of, same_entry}
use Rattle.pf_lanes.specs.Longest.{FindsLongest}
use Rattle.pf_table.proofs.Sorted.{sorted, below_at}

-- ---- what is found decides

either : (r : Option PlainEntry) (e : PlainEntry) → (longer (Some e) r ≡ Some e) ⊎ (longer (Some e) r ≡ r)
either None e = inl refl
either (Some f) e = by (nat_lt e.0.len f.0.len) where
  by : (t : Bool) → (cond t (Some f) (Some e) ≡ Some e) ⊎ (cond t (Some f) (Some e) ≡ Some f)
  by true = inr refl
  by false = inl refl

-- an entry of the rest is one of the whole
later : (e x : PlainEntry) (es : List PlainEntry) → Contains es x → Contains (e ∷ es) x
later e x es (k, lt, at) = (suc k, omega arith, at)

pub is_there : (es : List PlainEntry) (a : Addr) (e : PlainEntry) → deciding es a ≡ Some e → Contains es e × (contains e.0 a ≡ true)
unfolding deciding
is_there [] a e is = absurd (true≢false (sym (ap is_some is)))
is_there (f ∷ es) a e is = by (contains f.0 a) refl (is_there es a e) where
  by : (t : Bool) → contains f.0 a ≡ t → (deciding es a ≡ Some e → Contains es e × (contains e.0 a ≡ true)) →
      Contains (f ∷ es) e × (contains e.0 a ≡ true)
  by false no_ rest = let there : deciding es a ≡ Some e = rw no_ at is in let (at_, holds) = rest there in (later f e es at_, holds)
  by true yes_ rest = let found : longer (Some f) (deciding es a) ≡ Some e = rw yes_ at is in
      elim (either (deciding es a) f) [
        | inl own ↦ let same = same_entry f e (sym own ∙ found) in ((0, omega arith, same), sym (ap (λ (x : PlainEntry). contains x.0 a) same) ∙ yes_)
        | inr other ↦ let (at_, holds) = rest (sym other ∙ found) in (later f e es at_, holds)
      ]

none_of : (f : PlainEntry) (r : Option PlainEntry) → longer (Some f) r ≡ None → ⊥
none_of f None e = absurd (true≢false (ap is_some e))
none_of f (Some g) e = by (nat_lt f.0.len g.0.len) e where
  by : (t : Bool) → cond t (Some g) (Some f) ≡ None → ⊥
  by true e = true≢false (ap is_some e)
  by false e = true≢false (ap is_some e)

pub none_contains : (es : List PlainEntry) (a : Addr) → deciding es a ≡ None → (e : PlainEntry) → Contains es e → contains e.0 a ≡ false
unfolding deciding
none_contains [] a is e (k, lt, at) = absurd (omega arith)
none_contains (f ∷ es) a is e there = by (contains f.0 a) refl (none_contains es a) there where
  by : (t : Bool) → contains f.0 a ≡ t → (deciding es a ≡ None → (x : PlainEntry) → Contains es x → contains x.0 a ≡ false) →
      Contains (f ∷ es) e → contains e.0 a ≡ false
  by true yes_ rest at_ = let found : longer (Some f) (deciding es a) ≡ None = rw yes_ at is in absurd (none_of f (deciding es a) found)
  by false no_ rest (zero, lt, at) = ap (λ (x : PlainEntry). contains x.0 a) (sym at) ∙ no_
  by false no_ rest (suc k, lt, at) = let found : deciding es a ≡ None = rw no_ at is in rest found e (k, omega arith, at)

at_least : (f e : PlainEntry) (r : Option PlainEntry) → longer (Some f) r ≡ Some e → (f.0.len ≤ e.0.len) × ((g : PlainEntry) → r ≡ Some g → g.0.len ≤ e.0.len)
at_least f e None is = (ap_le f e (same_entry f e is), λ g none. absurd (true≢false (sym (ap is_some none)))) where
  ap_le : (x y : PlainEntry) → x ≡ y → x.0.len ≤ y.0.len
  ap_le x y same = subst (λ (z : PlainEntry). x.0.len ≤ z.0.len) same (omega arith)
at_least f e (Some g) is = by (nat_lt f.0.len g.0.len) refl is where
  by : (t : Bool) → nat_lt f.0.len g.0.len ≡ t → cond t (Some g) (Some f) ≡ Some e →
      (f.0.len ≤ e.0.len) × ((h : PlainEntry) → Some g ≡ Some h → h.0.len ≤ e.0.len)
  by true lt is = let same : g.0.len ≡ e.0.len = ap (λ (z : PlainEntry). z.0.len) (same_entry g e is) in
      let below : f.0.len < g.0.len = grind (arith, nat_tests) in
      (omega (arith, same, below), λ h other. omega (arith, same, ap (λ (z : PlainEntry). z.0.len) (same_entry g h other)))
  by false ge is = let same : f.0.len ≡ e.0.len = ap (λ (z : PlainEntry). z.0.len) (same_entry f e is) in
      let above : g.0.len ≤ f.0.len = grind (arith, nat_tests) in
      (omega (arith, same), λ h other. omega (arith, same, above, ap (λ (z : PlainEntry). z.0.len) (same_entry g h other)))

-- no entry that contains the address has a longer prefix
pub none_longer : (es : List PlainEntry) (a : Addr) (e : PlainEntry) → deciding es a ≡ Some e → (f : PlainEntry) → Contains es f → contains f.0 a ≡ true →
    f.0.len ≤ e.0.len
unfolding deciding
none_longer [] a e is f (k, lt, at) holds = absurd (omega arith)
none_longer (g ∷ es) a e is f there holds = by (contains g.0 a) refl (none_longer es a) there where
  by : (t : Bool) → contains g.0 a ≡ t →
      ((x : PlainEntry) → deciding es a ≡ Some x → (y : PlainEntry) → Contains es y → contains y.0 a ≡ true → y.0.len ≤ x.0.len) → Contains (g ∷ es) f →
      f.0.len ≤ e.0.len
  by true yes_ rest (zero, lt, at) = let found : longer (Some g) (deciding es a) ≡ Some e = rw yes_ at is in
      omega (arith, ap (λ (x : PlainEntry). x.0.len) at, (at_least g e (deciding es a) found).0)
  by true yes_ rest (suc k, lt, at) = let found : longer (Some g) (deciding es a) ≡ Some e = rw yes_ at is in
      some (deciding es a) refl found rest (k, omega arith, at) where
        some : (r : Option PlainEntry) → deciding es a ≡ r → longer (Some g) r ≡ Some e →
            ((x : PlainEntry) → deciding es a ≡ Some x → (y : PlainEntry) → Contains es y → contains y.0 a ≡ true → y.0.len ≤ x.0.len) → Contains es f →
            f.0.len ≤ e.0.len
        some None none found rest at_ = absurd (true≢false (sym holds ∙ none_contains es a none f at_))
        some (Some x) is found rest at_ = omega (arith, rest x is f at_ holds, (at_least g e (Some x) found).1 x refl)
  by false no_ rest (zero, lt, at) = absurd (true≢false (sym holds ∙ ap (λ (x : PlainEntry). contains x.0 a) (sym at) ∙ no_))
  by false no_ rest (suc k, lt, at) = let found : deciding es a ≡ Some e = rw no_ at is in rest e found f (k, omega arith, at) holds

-- ---- it is the only one

-- two networks of one length that contain an address are equal
pub one_network : (m n : PlainNet) (a : Addr) → contains m a ≡ true → contains n a ≡ true → m.len ≡ n.len → m ≡ n
unfolding contains
one_network m n a of_m of_n same =
    let (m_family, m_front) = and_parts _ _ of_m in
    let (n_family, n_front) = and_parts _ _ of_n in
    let family = (one_family m.family (family_of a)).0 m_family ∙ sym ((one_family n.family (family_of a)).0 n_family) in
    let front = sym ((Decides-eqb (first_bits m.len a) m.front).0 m_front) ∙ ap (λ (k : ℕ). first_bits k a) same
    ∙ (Decides-eqb (first_bits n.len a) n.front).0 n_front in
    λ i. record { family = family i; len = same i; front = front i }

-- in a table the sign of an entry's network is the entry's
pub sign_there : (es : List PlainEntry) (e : PlainEntry) → sorted es → Contains es e → sign_of e.0 es ≡ Some e.1
sign_there [] e is (k, lt, at) = absurd (omega arith)
sign_there (f ∷ es) e is (zero, lt, at) =
    subst (λ (x : PlainEntry). sign_of x.0 (f ∷ es) ≡ Some x.1) at (ap (λ r. cond (is_eq r) (Some f.1) (sign_of f.0 es))
    (tied_itself net_total f.0))
sign_there (f ∷ es) e is (suc k, lt, at) =
    let following : net_order f.0 e.0 ≡ Less = ap (λ (x : PlainEntry). net_order f.0 x.0) (sym at)
    ∙ below_at f.0 es k e (first_of _ _ is) (omega arith) in
    ap (λ r. cond (is_eq r) (Some f.1) (sign_of e.0 es)) (net_total.antisymm e.0 f.0 ∙ ap ordering_reverse following)
    ∙ sign_there es e (second_of _ _ is) (k, omega arith, at)

pub one_entry : (es : List PlainEntry) (e f : PlainEntry) → sorted es → Contains es e → Contains es f → e.0 ≡ f.0 → e ≡ f
one_entry es e f is at_e at_f same =
    λ i. (same i, same_entry e.1 f.1 (sym (sign_there es e is at_e) ∙ ap (λ n. sign_of n es) same ∙ sign_there es f is at_f) i)

pub lower_or_same : (m n : ℕ) → m ≤ n → (m < n) ⊎ (m ≡ n)
lower_or_same m n le = by (nat_lt m n) refl where
  by : (t : Bool) → nat_lt m n ≡ t → (m < n) ⊎ (m ≡ n)
  by true lt = inl (grind (arith, nat_tests))
  by false ge = let above : n ≤ m = grind (arith, nat_tests) in inr (omega (arith, above, le))

pub decides : (es : List PlainEntry) (a : Addr) (e : PlainEntry) → sorted es → deciding es a ≡ Some e → Decides es a e
decides es a e is found =
    let (there, holds) = is_there es a e found in
    record {
      member = there;
      holds = holds;
      longest = λ f at_ holds_ other. elim (lower_or_same f.0.len e.0.len (none_longer es a e found f at_ holds_)) [
        | inl lt ↦ lt
        | inr same ↦ absurd (other (one_entry es f e is at_ there (one_network f.0 e.0 a holds_ holds same)))
      ];
    }

pub decided : (es : List PlainEntry) (a : Addr) (e : PlainEntry) → sorted es → Decides es a e → deciding es a ≡ Some e
decided es a e is d = by (deciding es a) refl where
  by : (r : Option PlainEntry) → deciding es a ≡ r → r ≡ Some e
  by None none = absurd (true≢false (sym d.holds ∙ none_contains es a none e d.member))
  by (Some g) found =
      let (there, holds) = is_there es a g found in
      ap (λ (x : PlainEntry). Some x) (elim (lower_or_same e.0.len g.0.len (none_longer es a g found e d.member d.holds)) [
        | inl lt ↦ absurd (apart g there holds lt)
        | inr same ↦ one_entry es g e is there d.member (one_network g.0 e.0 a holds d.holds (sym same))
      ])
    where
      apart : (g : PlainEntry) → Contains es g → contains g.0 a ≡ true → e.0.len < g.0.len → ⊥
      apart g there holds lt = let less : g.0.len < e.0.len =
          d.longest g there holds (λ same. absurd (omega (arith, lt, ap (λ (x : PlainEntry). x.0.len) same))) in absurd (omega (arith, lt, less))

-- a network contains only addresses of its own family
pub contains_family : (net : PlainNet) (a : Addr) → contains net a ≡ true → net.family ≡ family_of a
unfolding contains
contains_family net a is = (one_family net.family (family_of a)).0 (and_parts _ _ is).0

-- a network that contains an address is of its family, and its front is the address's
pub record Holds (n : PlainNet) (a : Addr) : Type 0 where
  pub family : n.family ≡ family_of a
  pub front : first_bits n.len a ≡ n.front

pub holds_of : (n : PlainNet) (a : Addr) → contains n a ≡ true → Holds n a
unfolding contains
holds_of n a is =
    let (same, front) = and_parts _ _ is in
    let family = (one_family n.family (family_of a)).0 same in
    record { family = family; front = (Decides-eqb (first_bits n.len a) n.front).0 front }

pub holds_from : (n : PlainNet) (a : Addr) → n.family ≡ family_of a → first_bits n.len a ≡ n.front → contains n a ≡ true
unfolding contains
holds_from n a family front =
    let same : same_family n.family (family_of a) ≡ true =
    subst (λ (f : Family). same_family f (family_of a) ≡ true) (sym family) (own (family_of a)) in
    let begins : (first_bits n.len a == n.front) ≡ true = (Decides-eqb (first_bits n.len a) n.front).1 front in
    rw (same, begins) refl
  where
    own : (f : Family) → same_family f f ≡ true
    own V4 = refl
    own V6 = refl

-- ---- what is found in columns

get_net : (es : List PlainEntry) (i : ℕ) (n : PlainNet) (e : PlainEntry) → slice_get (map (λ x. x.0) es) i ≡ Some n → e ≡ get_or es i e → Contains es e × (e.0 ≡ n)
get_net [] i n e is at = absurd (cc (is))
get_net (x ∷ es) zero n e is at = let same : x.0 ≡ n = cc (is) in ((0, omega arith, sym at), ap (λ (y : PlainEntry). y.0) at ∙ same)
get_net (x ∷ es) (suc i) n e is at = let (there, same) = get_net es i n e is at in (later x e es there, same)

contains_net : (es : List PlainEntry) (e : PlainEntry) → Contains es e → Contains (map (λ x. x.0) es) e.0
contains_net [] e (k, lt, at) = absurd (omega arith)
contains_net (x ∷ es) e (zero, lt, at) = (0, omega arith, ap (λ (y : PlainEntry). y.0) at)
contains_net (x ∷ es) e (suc k, lt, at) = let (i, within, there) = contains_net es e (k, omega arith, at) in (suc i, omega arith, there)

-- what is found has a place among the entries
pub place_within : (es : List PlainEntry) (a : Addr) (i : ℕ) → FindsLongest (map (λ x. x.0) es) a (Some i) → i < length es
place_within es a i found = within es i found.here where
  within : (es : List PlainEntry) (i : ℕ) → slice_get (map (λ x. x.0) es) i ≡ Some found.net → i < length es
  within [] i is = absurd (cc (is))
  within (x ∷ es) zero is = omega arith
  within (x ∷ es) (suc i) is = let rest = within es i is in omega arith

pub longest_decides : (es : List PlainEntry) (a : Addr) (i : ℕ) (e : PlainEntry) → sorted es → FindsLongest (map (λ x. x.0) es) a (Some i) → e ≡ get_or es i e
    → deciding es a ≡ Some e
longest_decides es a i e order found is = decided es a e order (record {
  member = there;
  holds = holds;
  longest = λ f at_f of_f other. elim (lower_or_same f.0.len e.0.len (no_longer f at_f of_f)) [
    | inl lt ↦ lt
    | inr eq ↦ absurd (other (one_entry es f e order at_f there (one_network f.0 e.0 a of_f holds eq)))
  ];
}) where
  there : Contains es e
  there = (get_net es i found.net e found.here is).0

  same : e.0 ≡ found.net
  same = (get_net es i found.net e found.here is).1

  holds : contains e.0 a ≡ true
  holds = ap (λ n. contains n a) same ∙ found.holds

  no_longer : (f : PlainEntry) → Contains es f → contains f.0 a ≡ true → f.0.len ≤ e.0.len
  no_longer f at_f of_f = subst (λ (n : PlainNet). f.0.len ≤ n.len) (sym same)
      (All-contains (λ n. contains n a ≡ true → n.len ≤ found.net.len) (map (λ x. x.0) es) f.0 found.longest (contains_net es f at_f) of_f)

pub none_decides : (es : List PlainEntry) (a : Addr) → FindsLongest (map (λ x. x.0) es) a None → deciding es a ≡ None
none_decides es a none = by (deciding es a) refl where
  by : (o : Option PlainEntry) → deciding es a ≡ o → o ≡ None
  by None is = refl
  by (Some e) is =
      let (there, holds) = is_there es a e is in
      absurd (true≢false (sym holds ∙ All-contains (λ n. contains n a ≡ false) (map (λ x. x.0) es) e.0 none (contains_net es e there)))

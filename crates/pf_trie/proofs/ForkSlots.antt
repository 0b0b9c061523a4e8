-- Slots, forks and branches.
use Rattle.std.proofs.{Common.{◌≡◌, ◌≢◌, ℕ, zero, suc, ◌+◌, ◌-◌, ◌*◌, ◌/◌, ◌%◌, ◌^◌, ◌<◌, ◌≤◌, ◌==◌, ◌&&◌, Bool, true, false, cond, nat_le, nat_lt, List, [], ◌∷◌, ◌++◌, length, get_or, set, take, filter, map, Option, Some, None, refl, sym, ap, ◌∙◌, subst, arith}, lemmas.{Bool.and_parts, Bool.Decides.nat_tests, Nat.{shr-shr, pow-add, shr_below, shl_whole}, List.{get_or_past, get_or_default, length-set, get_or-set_same, get_or-set_other, get_or-map, length-map, length-append, get_or_append_left, get_or-take, length-take-le}, List.Elements.{All-filter, filter_passes, All-map, All-weaker}, List.Kept.AllPairs-filter}, Math.{Seq.get_or-append_seam}}
use Rattle.std.specs.{List.{Any}}
use Rattle.pf_trie.specs.declared.{found.Found.{Found}, prefix.Prefix.{Prefix}, rows.Row.{Row}, signs.Signs.{Signs}}
use Rattle.pf_trie.specs.{Prefixes.{AllSigns, Agree, front, with_sign, HasNone, Decides, Finds}, Signs.{sign_of, below_of}, Rows.{HasSigns, IsAt, AreRows, cut_row}, Forks.{IsSlot, IsFork, IsForkOf, SameSlot, SameFork}}
use Rattle.pf_trie.specs.Agreeing.{of_slot}
use Rattle.pf_trie.proofs.{Cuts.share_fewer, RowLists.{first_in_front}, Bits.cut_signs}

-- ---- look-ups

-- what the level below finds decides, and else what the slot has
pub wider_none : (s : AllSigns) (at more a : ℕ) (found : Option Found) → HasNone s 0 at a → Finds s at (at + more) a found → Finds s 0 (at + more) a found
wider_none s at more a None none nothing = record { none = λ k le lt. by k lt (nat_lt k at) refl } where
  by : (k : ℕ) → k < at + more → (t : Bool) → nat_lt k at ≡ t → s k (a / 2 ^ k) ≡ None
  by k lt true near = none.none k (omega arith) (grind (arith, nat_tests))
  by k lt false far = nothing.none k (grind (arith, nat_tests)) lt
wider_none s at more a (Some f) none d = record {
  within = omega arith;
  below = d.below;
  sign = d.sign;
  longest = λ k le lt. by k lt (nat_lt k at) refl;
} where
  by : (k : ℕ) → k < f.free → (t : Bool) → nat_lt k at ≡ t → s k (a / 2 ^ k) ≡ None
  by k lt true near = none.none k (omega arith) (grind (arith, nat_tests))
  by k lt false far = d.longest k (grind (arith, nat_tests)) lt

pub narrow_some : (s : AllSigns) (at more a : ℕ) (f : Found) → Decides s 0 at a f → Decides s 0 (at + more) a f
narrow_some s at more a f d = record {
  within = omega arith;
  below = let b = d.below in omega (arith, b);
  sign = d.sign;
  longest = d.longest;
}

-- ---- edits in a slot

-- a sign that leaves fewer bits free than a slot's own isn't among these
pub wide_stays : (s : AllSigns) (p : Prefix) (sign : Option Bool) (low top a : ℕ) (signs : Signs) → p.free < low → HasSigns s low top a signs
    → HasSigns (with_sign s p sign) low top a signs
wide_stays s p sign low top a signs lt has = record {
  same = λ k le less. has.same k le less ∙ by k le (k == p.free) refl;
  narrow = has.narrow;
  wide = has.wide;
} where
  by : (k : ℕ) → low ≤ k → (t : Bool) → (k == p.free) ≡ t → s k (a / 2 ^ k) ≡ cond (t && (a / 2 ^ k == front p)) sign (s k (a / 2 ^ k))
  by k le true t = let same : k ≡ p.free = grind (arith, nat_tests) in absurd (omega (arith, same, le, lt))
  by k le false t = refl

-- with a sign replaced outside a region, all agrees in it
pub elsewhere : (s : AllSigns) (p : Prefix) (sign : Option Bool) (top n : ℕ) → (p.free < top → front p * 2 ^ p.free / 2 ^ top ≢ n)
    → Agree s (with_sign s p sign) top n
elsewhere s p sign top n other k m lt in_front = by ((k == p.free) && (m == front p)) refl where
  by : (t : Bool) → ((k == p.free) && (m == front p)) ≡ t → s k m ≡ cond t sign (s k m)
  by false t = refl
  by true t =
      let (same_free, same_front) = and_parts (k == p.free) (m == front p) t in
      let free_is : k ≡ p.free = grind (arith, nat_tests) in
      let front_is : m ≡ front p = grind (arith, nat_tests) in
      absurd (other (subst (λ (j : ℕ). j < top) free_is lt)
      ((λ i. sym front_is i * 2 ^ sym free_is i / 2 ^ top) ∙ in_front))

module _ {X : Type 0} (holds : AllSigns → ℕ → ℕ → X → Type 0)
    (agrees : (s t : AllSigns) (top front : ℕ) (l : X) → Agree s t top front → holds s top front l → holds t top front l) where
  -- the slot that a narrow prefix is in
  pub slot_deeper : (s : AllSigns) (p : Prefix) (sign : Option Bool) (at n : ℕ) (wide : Signs) (below after : X) → p.free < at
      → IsSlot holds s at n (wide, below) → holds (with_sign s p sign) at n after → IsSlot holds (with_sign s p sign) at n (wide, after)
  slot_deeper s p sign at n wide below after lt is has = record {
    wide = λ a front. wide_stays s p sign at (at + 4) a wide lt (is.wide a front);
    below = has;
  }

  module _ (s : AllSigns) (p : Prefix) (sign : Option Bool) (at n : ℕ) (wide : Signs) (below : X) (le : at ≤ p.free) (lt : p.free < at + 4)
      (is : IsSlot holds s at n (wide, below)) where
    below_stays : holds (with_sign s p sign) at n below
    below_stays = agrees s (with_sign s p sign) at n below (elsewhere s p sign at n (λ less. absurd (omega (arith, less, le)))) is.below

    -- how a prefix's front and an address of the slot compare
    by_front : (a : ℕ) → a / 2 ^ at ≡ n → a / 2 ^ p.free ≡ n / 2 ^ (p.free - at)
    by_front a front_ =
        let whole : at + (p.free - at) ≡ p.free = omega (arith, le) in
        ap (λ (k : ℕ). a / 2 ^ k) (sym whole) ∙ sym (shr-shr a at (p.free - at)) ∙ ap (λ (m : ℕ). m / 2 ^ (p.free - at)) front_

    -- a slot that the prefix doesn't contain
    pub slot_outside : n / 2 ^ (p.free - at) ≢ front p → IsSlot holds (with_sign s p sign) at n (wide, below)
    slot_outside other = record {
      wide = λ a front_. record {
        same = λ k low less. (is.wide a front_).same k low less ∙ by a front_ k ((k == p.free) && (a / 2 ^ k == front p)) refl;
        narrow = (is.wide a front_).narrow;
        wide = (is.wide a front_).wide;
      };
      below = below_stays;
    } where
      by : (a : ℕ) → a / 2 ^ at ≡ n → (k : ℕ) (t : Bool) → ((k == p.free) && (a / 2 ^ k == front p)) ≡ t → s k (a / 2 ^ k) ≡ cond t sign (s k (a / 2 ^ k))
      by a front_ k false t = refl
      by a front_ k true t =
          let (same_free, same_front) = and_parts (k == p.free) (a / 2 ^ k == front p) t in
          let free_is : k ≡ p.free = grind (arith, nat_tests) in
          let front_is : a / 2 ^ k ≡ front p = grind (arith, nat_tests) in
          absurd (other (sym (by_front a front_) ∙ ap (λ (j : ℕ). a / 2 ^ j) (sym free_is) ∙ front_is))

    -- a slot that it contains
    pub slot_inside : (new : Signs) → n / 2 ^ (p.free - at) ≡ front p → ((k : ℕ) → sign_of new k ≡ cond (k == p.free) sign (sign_of wide k))
        → IsSlot holds (with_sign s p sign) at n (new, below)
    slot_inside new own marks = record {
      wide = λ a front_. record {
        same = λ k low less. marks k ∙ by a front_ k low less (k == p.free) refl;
        narrow = λ k less. marks k ∙ not_here k (λ same. absurd (omega (arith, same, less, le))) (k == p.free) refl ∙ (is.wide a front_).narrow k less;
        wide = λ k past. marks k ∙ not_here k (λ same. absurd (omega (arith, same, past, lt))) (k == p.free) refl ∙ (is.wide a front_).wide k past;
      };
      below = below_stays;
    } where
      is_equal : (i j : ℕ) → i ≡ j → (i == j) ≡ true
      is_equal i j e = grind (arith, nat_tests)

      not_here : (k : ℕ) → (k ≡ p.free → ⊥) → (t : Bool) → (k == p.free) ≡ t → cond t sign (sign_of wide k) ≡ sign_of wide k
      not_here k other true t = absurd (other (grind (arith, nat_tests)))
      not_here k other false t = refl

      by : (a : ℕ) → a / 2 ^ at ≡ n → (k : ℕ) → at ≤ k → k < at + 4 → (t : Bool) → (k == p.free) ≡ t
          → cond t sign (sign_of wide k) ≡ cond (t && (a / 2 ^ k == front p)) sign (s k (a / 2 ^ k))
      by a front_ k low less true t =
          let free_is : k ≡ p.free = grind (arith, nat_tests) in
          let front_is : a / 2 ^ k ≡ front p = ap (λ (j : ℕ). a / 2 ^ j) free_is ∙ by_front a front_ ∙ own in
          ap (λ b. cond b sign (s k (a / 2 ^ k))) (sym (is_equal (a / 2 ^ k) (front p) front_is))
      by a front_ k low less false t = (is.wide a front_).same k low less

  -- ---- forks

  module _ (s : AllSigns) (p : Prefix) (sign : Option Bool) (at place : ℕ) (slots : List (Signs × X)) (count : length slots ≡ 16) (lt : p.free < at)
      (is_place : place ≡ p.address / 2 ^ at % 16) (is : IsFork holds s at (p.address / 2 ^ at / 16) slots) where
    place_within : place < 16
    place_within = omega (arith, is_place)

    own_slot : p.address / 2 ^ at / 16 * 16 + place ≡ p.address / 2 ^ at
    own_slot = omega (arith, is_place)

    -- the slot that is taken out
    pub taken : (d : Signs × X) → IsSlot holds s at (p.address / 2 ^ at) (get_or slots place d)
    taken d = subst (λ (n : ℕ). IsSlot holds s at n (get_or slots place d)) own_slot (is.each place d place_within)

    other_slot : (g : ℕ) → g ≢ place → (slot : Signs × X) → IsSlot holds s at (p.address / 2 ^ at / 16 * 16 + g) slot
        → IsSlot holds (with_sign s p sign) at (p.address / 2 ^ at / 16 * 16 + g) slot
    other_slot g apart slot own = record {
      wide = λ a front_. wide_stays s p sign at (at + 4) a slot.0 lt (own.wide a front_);
      below = agrees s (with_sign s p sign) at (p.address / 2 ^ at / 16 * 16 + g) slot.1
          (elsewhere s p sign at (p.address / 2 ^ at / 16 * 16 + g) (λ less same. apart (clash less same))) own.below;
    } where
      clash : p.free < at → front p * 2 ^ p.free / 2 ^ at ≡ p.address / 2 ^ at / 16 * 16 + g → g ≡ place
      clash less same =
          let first = first_in_front p.address p.free at (omega (arith, less)) in
          omega (arith, first, same, own_slot)

    pub slot_put : (new : Signs × X) → IsSlot holds (with_sign s p sign) at (p.address / 2 ^ at) new
        → IsFork holds (with_sign s p sign) at (p.address / 2 ^ at / 16) (set slots place new)
    slot_put new own = record { each = λ g slot less. by g slot less (g == place) refl } where
      long : place < length slots
      long = omega (arith, place_within, count)

      by : (g : ℕ) (slot : Signs × X) → g < 16 → (t : Bool) → (g == place) ≡ t
          → IsSlot holds (with_sign s p sign) at (p.address / 2 ^ at / 16 * 16 + g) (get_or (set slots place new) g slot)
      by g slot less true t =
          let same : place ≡ g = let e : g ≡ place = grind (arith, nat_tests) in sym e in
          subst (λ (j : ℕ). IsSlot holds (with_sign s p sign) at (p.address / 2 ^ at / 16 * 16 + j) (get_or (set slots place new) j slot)) same
          (subst (λ (n : ℕ). IsSlot holds (with_sign s p sign) at n (get_or (set slots place new) place slot)) (sym own_slot)
          (subst (λ (x : Signs × X). IsSlot holds (with_sign s p sign) at (p.address / 2 ^ at) x) (sym (get_or-set_same slots place new slot long)) own))
      by g slot less false t =
          let apart : g ≢ place = λ e. grind (arith, nat_tests) in
          subst (λ (x : Signs × X). IsSlot holds (with_sign s p sign) at (p.address / 2 ^ at / 16 * 16 + g) x)
          (sym (get_or-set_other slots place g new slot apart)) (other_slot g apart (get_or slots g slot) (is.each g slot less))

-- ---- a sign replaced in the slots of a fork, from the first on

pub record MarkedSlots {X : Type 0} (holds : AllSigns → ℕ → ℕ → X → Type 0) (p : Prefix) (sign : Option Bool) (at front : ℕ) (old new : List (Signs × X)) (i : ℕ) : Type 0 where
  pub count : length new ≡ 16
  pub done : (s : AllSigns) → p.free < at + 4 → IsFork holds s at front old → (g : ℕ) (slot : Signs × X) → g < i → g < 16
      → IsSlot holds (with_sign s p sign) at (front * 16 + g) (get_or new g slot)
  pub rest : (s : AllSigns) → IsFork holds s at front old → (g : ℕ) (slot : Signs × X) → i ≤ g → g < 16
      → IsSlot holds s at (front * 16 + g) (get_or new g slot)

module _ {X : Type 0} (holds : AllSigns → ℕ → ℕ → X → Type 0) (p : Prefix) (sign : Option Bool) (at front : ℕ) where
  pub no_slot_marked : (slots : List (Signs × X)) → length slots ≡ 16 → MarkedSlots holds p sign at front slots slots 0
  no_slot_marked slots count = record {
    count = count;
    done = λ s lt is g slot less _. absurd (omega (arith, less));
    rest = λ s is g slot _ less. is.each g slot less;
  }

  pub one_slot_marked : (old new : List (Signs × X)) (i : ℕ) (x : Signs × X) → MarkedSlots holds p sign at front old new i → i < 16
      → ((s : AllSigns) → p.free < at + 4 → IsFork holds s at front old → IsSlot holds (with_sign s p sign) at (front * 16 + i) x)
      → MarkedSlots holds p sign at front old (set new i x) (i + 1)
  one_slot_marked old new i x is lt own = record {
    count = length-set new i x ∙ is.count;
    done = λ s less f g slot near within. by s less f g slot near within (g == i) refl;
    rest = λ s f g slot past within.
        let apart : g ≢ i = omega (arith, past) in
        subst (λ (y : Signs × X). IsSlot holds s at (front * 16 + g) y) (sym (get_or-set_other new i g x slot apart))
        (is.rest s f g slot (omega (arith, past)) within);
  } where
    long : i < length new
    long = let c = is.count in omega (arith, lt, c)

    by : (s : AllSigns) → p.free < at + 4 → IsFork holds s at front old → (g : ℕ) (slot : Signs × X) → g < i + 1 → g < 16 → (t : Bool) → (g == i) ≡ t
        → IsSlot holds (with_sign s p sign) at (front * 16 + g) (get_or (set new i x) g slot)
    by s less f g slot near within true t =
        let same : i ≡ g = let e : g ≡ i = grind (arith, nat_tests) in sym e in
        subst (λ (j : ℕ). IsSlot holds (with_sign s p sign) at (front * 16 + j) (get_or (set new i x) j slot)) same
        (subst (λ (y : Signs × X). IsSlot holds (with_sign s p sign) at (front * 16 + i) y) (sym (get_or-set_same new i x slot long)) (own s less f))
    by s less f g slot near within false t =
        let apart : g ≢ i = λ e. grind (arith, nat_tests) in
        subst (λ (y : Signs × X). IsSlot holds (with_sign s p sign) at (front * 16 + g) y)
        (sym (get_or-set_other new i g x slot apart)) (is.done s less f g slot (omega (arith, near, apart)) within)

  pub all_slots_marked : (old new : List (Signs × X)) (i : ℕ) → MarkedSlots holds p sign at front old new i → 16 ≤ i → (s : AllSigns) → p.free < at + 4
      → IsFork holds s at front old → IsFork holds (with_sign s p sign) at front new
  all_slots_marked old new i is le s less f = record { each = λ g slot lt. is.done s less f g slot (omega (arith, lt, le)) lt }

-- ---- slots of rows

pub record MadeSlots {X : Type 0} (holds : AllSigns → ℕ → ℕ → X → Type 0) (at front : ℕ) (rows : List Row) (slots : List (Signs × X)) (i : ℕ) : Type 0 where
  pub count : length slots ≡ i
  pub done : (s : AllSigns) → AreRows s (at + 4) front rows → (g : ℕ) (slot : Signs × X) → g < i → IsSlot holds s at (front * 16 + g) (get_or slots g slot)

module _ {X : Type 0} (holds : AllSigns → ℕ → ℕ → X → Type 0) (at front : ℕ) (rows : List Row) where
  pub one_made : (slots : List (Signs × X)) (i : ℕ) (x : Signs × X) → MadeSlots holds at front rows slots i
      → ((s : AllSigns) → AreRows s (at + 4) front rows → IsSlot holds s at (front * 16 + i) x) → MadeSlots holds at front rows (slots ++ x ∷ []) (i + 1)
  one_made slots i x is own = record {
    count = let c = is.count in omega (arith, length-append slots (x ∷ []), c);
    done = λ s are g slot lt. by s are g slot lt (g == i) refl;
  } where
    by : (s : AllSigns) → AreRows s (at + 4) front rows → (g : ℕ) (slot : Signs × X) → g < i + 1 → (t : Bool) → (g == i) ≡ t
        → IsSlot holds s at (front * 16 + g) (get_or (slots ++ x ∷ []) g slot)
    by s are g slot lt true t =
        let at_end : length slots ≡ g = let c = is.count in let e : g ≡ i = grind (arith, nat_tests) in omega (arith, c, e) in
        let same : i ≡ g = let e : g ≡ i = grind (arith, nat_tests) in sym e in
        subst (λ (y : Signs × X). IsSlot holds s at (front * 16 + g) y) (sym (ap (λ (j : ℕ). get_or (slots ++ x ∷ []) j slot) (sym at_end) ∙ get_or-append_seam slots x [] slot))
        (subst (λ (j : ℕ). IsSlot holds s at (front * 16 + j) x) same (own s are))
    by s are g slot lt false t =
        let apart : g ≢ i = λ e. grind (arith, nat_tests) in
        let less : g < i = omega (arith, lt, apart) in
        let inside : g < length slots = let c = is.count in omega (arith, c, less) in
        subst (λ (y : Signs × X). IsSlot holds s at (front * 16 + g) y) (sym (get_or_append_left slots (x ∷ []) slot g inside)) (is.done s are g slot less)

  pub all_made : (slots : List (Signs × X)) (i : ℕ) → MadeSlots holds at front rows slots i → 16 ≤ i → (s : AllSigns) → AreRows s (at + 4) front rows → IsFork holds s at front slots
  all_made slots i is le s are = record { each = λ g slot lt. is.done s are g slot (omega (arith, lt, le)) }

-- ---- the rows of a slot

any_mapped : {X Y : Type 0} (P : X → Type 0) (Q : Y → Type 0) (f : X → Y) → ((x : X) → P x → Q (f x)) → (xs : List X) → Any P xs → Any Q (map f xs)
any_mapped P Q f keeps xs (k, x, lt, at, p) = (k, f x, omega (arith, lt, length-map xs f), get_or-map f xs k x (f x) lt ∙ ap f at, keeps x p)

any_kept : {X : Type 0} (P : X → Type 0) (p : X → Bool) → ((x : X) → P x → p x ≡ true) → (xs : List X) → Any P xs → Any P (filter p xs)
any_kept P p passes [] (k, x, lt, at, here) = absurd (omega (arith, lt))
any_kept P p passes (y ∷ ys) (zero, x, lt, at, here) =
    subst (λ b. Any P (cond b (y ∷ filter p ys) (filter p ys))) (sym (ap p at ∙ passes x here)) (0, x, omega arith, at, here)
any_kept P p passes (y ∷ ys) (suc k, x, lt, at, here) =
    let (j, z, less, there, own) = any_kept P p passes ys (k, x, omega (arith, lt), at, here) in by (p y) j z less there own where
      by : (b : Bool) (j : ℕ) (z : _) → j < length (filter p ys) → get_or (filter p ys) j z ≡ z → P z → Any P (cond b (y ∷ filter p ys) (filter p ys))
      by true j z less there own = (suc j, z, omega (arith, less), there, own)
      by false j z less there own = (j, z, less, there, own)

below_signs_of : (signs : Signs) (most k : ℕ) → sign_of (below_of most signs) k ≡ cond (nat_lt k most) (sign_of signs k) None
below_signs_of signs most k = cut_signs signs.plain signs.negated most k

module _ (s : AllSigns) (at n : ℕ) (rows : List Row) (are : AreRows s (at + 4) (n / 16) rows) where
  abbrev in_slot : Row → Bool
  in_slot r = r.first / 2 ^ at == n

  cut_has : (r : Row) → HasSigns s 0 (at + 4) r.first r.signs → HasSigns s 0 at r.first (below_of at r.signs)
  cut_has r has = record {
    same = λ k _ lt. below_signs_of r.signs at k ∙ ap (λ b. cond b (sign_of r.signs k) None) (near k lt) ∙ has.same k (omega arith) (omega (arith, lt));
    narrow = λ k lt. absurd (omega (arith, lt));
    wide = λ k le. below_signs_of r.signs at k ∙ ap (λ b. cond b (sign_of r.signs k) None) (far k le);
  } where
    near : (k : ℕ) → k < at → nat_lt k at ≡ true
    near k lt = grind (arith, nat_tests)

    far : (k : ℕ) → at ≤ k → nat_lt k at ≡ false
    far k le = grind (arith, nat_tests)

  pub rows_cut : AreRows s at n (map (cut_row at) (filter in_slot rows))
  rows_cut = record {
    order = λ i j d lt end.
        let long : j < length (filter in_slot rows) = omega (arith, end, length-map (filter in_slot rows) (cut_row at)) in
        let first = ap (λ (x : Row). x.first) (get_or-map (cut_row at) (filter in_slot rows) i d d (omega (arith, lt, long))) in
        let last = ap (λ (x : Row). x.first) (get_or-map (cut_row at) (filter in_slot rows) j d d long) in
        let before = AllPairs-filter (λ r t. r.first < t.first) in_slot rows are.order i j d lt long in
        omega (arith, before, first, last);
    inside = All-map (λ r. r.first / 2 ^ at ≡ n) (cut_row at) (filter in_slot rows)
        (All-weaker (λ r. in_slot r ≡ true) (λ r. r.first / 2 ^ at ≡ n) (λ r t. equal_numbers (r.first / 2 ^ at) n t) (filter in_slot rows) (filter_passes in_slot rows));
    signs = All-map (λ r. HasSigns s 0 at r.first r.signs) (cut_row at) (filter in_slot rows)
        (All-weaker (λ r. HasSigns s 0 (at + 4) r.first r.signs) (λ r. HasSigns s 0 at r.first (below_of at r.signs)) cut_has (filter in_slot rows)
        (All-filter in_slot (λ r. HasSigns s 0 (at + 4) r.first r.signs) rows are.signs));
    starts = λ k m sign lt in_front is.
        any_mapped (IsAt (m * 2 ^ k)) (IsAt (m * 2 ^ k)) (cut_row at) (λ r here. here) (filter in_slot rows)
        (any_kept (IsAt (m * 2 ^ k)) in_slot (λ r here. equal_test (r.first / 2 ^ at) n (ap (λ (x : ℕ). x / 2 ^ at) here ∙ in_front)) rows
        (are.starts k m sign (omega (arith, lt)) (of_slot at (m * 2 ^ k) ∙ ap (λ (x : ℕ). x / 16) in_front) is));
  } where
    equal_numbers : (i j : ℕ) → (i == j) ≡ true → i ≡ j
    equal_numbers i j t = grind (arith, nat_tests)

    equal_test : (i j : ℕ) → i ≡ j → (i == j) ≡ true
    equal_test i j e = grind (arith, nat_tests)

  pub slot_made : {X : Type 0} (holds : AllSigns → ℕ → ℕ → X → Type 0) (first : ℕ) (all wide : Signs) (below : X) → first / 2 ^ at ≡ n
      → HasSigns s 0 (at + 4) first all → ((k : ℕ) → sign_of wide k ≡ cond (nat_le at k) (sign_of all k) None) → holds s at n below
      → IsSlot holds s at n (wide, below)
  slot_made holds first all wide below own has from under = record {
    wide = λ a front_. record {
      same = λ k le lt. from k ∙ ap (λ b. cond b (sign_of all k) None) (near k le) ∙ has.same k (omega arith) lt
          ∙ ap (s k) (share_fewer at k first a le (own ∙ sym front_));
      narrow = λ k lt. from k ∙ ap (λ b. cond b (sign_of all k) None) (far k lt);
      wide = λ k le. from k ∙ both k le (nat_le at k);
    };
    below = under;
  } where
    near : (k : ℕ) → at ≤ k → nat_le at k ≡ true
    near k le = grind (arith, nat_tests)

    far : (k : ℕ) → k < at → nat_le at k ≡ false
    far k lt = grind (arith, nat_tests)

    both : (k : ℕ) → at + 4 ≤ k → (t : Bool) → cond t (sign_of all k) None ≡ None
    both k le true = has.wide k le
    both k le false = refl

-- ---- numbers of slots

-- the front of a slot has as many bits as its addresses have before their last `at`
pub front_fits : (a at g : ℕ) → a < 2 ^ 128 → at ≤ 124 → g < 16 → a / 2 ^ at / 16 * 16 + g < 2 ^ (128 - at)
front_fits a at g fits le lt =
    let split : 124 - at + 4 ≡ 128 - at = omega (arith, le) in
    let sum : 124 - at + (at + 4) ≡ 128 = omega (arith, le) in
    let less : a / 2 ^ (at + 4) < 2 ^ (124 - at) = shr_below a (124 - at) (at + 4) (subst (λ (k : ℕ). a < 2 ^ k) (sym sum) fits) in
    let less_ : a / 2 ^ at / 16 < 2 ^ (124 - at) = subst (λ (m : ℕ). m < 2 ^ (124 - at)) (of_slot at a) less in
    subst (λ (m : ℕ). a / 2 ^ at / 16 * 16 + g < m) (sym (pow-add 2 (124 - at) 4) ∙ ap (λ (k : ℕ). 2 ^ k) split) (omega (arith, less_, lt))

-- `front << at`, and where it lies
pub slot_first : (n at : ℕ) → at < 128 → n < 2 ^ (128 - at) → n * 2 ^ at % 2 ^ 128 ≡ n * 2 ^ at
slot_first n at lt fits = shl_whole n (128 - at) at 128 fits (omega (arith, lt))

-- ---- copies

module _ {X : Type 0} (holds : AllSigns → ℕ → ℕ → X → Type 0) where
  pub slot_same : (s : AllSigns) (at n : ℕ) (slot other : Signs × X) → SameSlot holds slot other → IsSlot holds s at n slot → IsSlot holds s at n other
  slot_same s at n slot other same is = record {
    wide = λ a front_. subst (λ (x : Signs). HasSigns s at (at + 4) a x) (sym same.wide) (is.wide a front_);
    below = same.below s at n is.below;
  }

  pub fork_same : (s : AllSigns) (at front : ℕ) (slots others : List (Signs × X)) → SameFork holds slots others → IsFork holds s at front slots
      → IsFork holds s at front others
  fork_same s at front slots others same is = record { each = λ g slot lt. by g slot lt (nat_lt g (length slots)) refl } where
    by : (g : ℕ) (slot : Signs × X) → g < 16 → (t : Bool) → nat_lt g (length slots) ≡ t → IsSlot holds s at (front * 16 + g) (get_or others g slot)
    by g slot lt true t =
        let near : g < length slots = grind (arith, nat_tests) in
        slot_same s at (front * 16 + g) (get_or slots g slot) (get_or others g slot) (same.each g slot near) (is.each g slot lt)
    by g slot lt false t =
        let far : length slots ≤ g = grind (arith, nat_tests) in
        let past : length others ≤ g = let c = same.count in omega (arith, c, far) in
        subst (λ (x : Signs × X). IsSlot holds s at (front * 16 + g) x) (get_or_past slots g slot far ∙ sym (get_or_past others g slot past)) (is.each g slot lt)

  -- a branch's fork, by the bits behind its slots' fronts
  pub fork_below : (s : AllSigns) (top at a : ℕ) (slots : List (Signs × X)) → at ≡ top - 4 → IsForkOf holds s top (a / 2 ^ top) slots
      → IsFork holds s at (a / 2 ^ at / 16) slots
  fork_below s top at a slots same is =
      let deep = is.deep in
      let whole : top ≡ at + 4 = omega (arith, same, deep) in
      subst (λ (n : ℕ). IsFork holds s at n slots) (ap (λ (k : ℕ). a / 2 ^ k) whole ∙ of_slot at a)
      (subst (λ (k : ℕ). IsFork holds s k (a / 2 ^ top) slots) (sym same) is.fork)

  pub fork_above : (s : AllSigns) (top at a : ℕ) (slots : List (Signs × X)) → at + 4 ≡ top → IsFork holds s at (a / 2 ^ at / 16) slots
      → IsForkOf holds s top (a / 2 ^ top) slots
  fork_above s top at a slots whole is =
      let same : at ≡ top - 4 = omega (arith, whole) in
      record {
        deep = omega (arith, whole);
        fork = subst (λ (k : ℕ). IsFork holds s k (a / 2 ^ top) slots) same
            (subst (λ (n : ℕ). IsFork holds s at n slots) (sym (of_slot at a) ∙ ap (λ (k : ℕ). a / 2 ^ k) whole) is);
      }

  pub itself : (slots : List (Signs × X)) → SameFork holds slots slots
  itself slots = record { count = refl; each = λ g slot lt. record { wide = refl; below = λ s top front is. is } }

  pub one_shared : (slots others : List (Signs × X)) (i : ℕ) (d x : Signs × X) → i < length slots → SameFork holds (take i slots) others
      → SameSlot holds (get_or slots i d) x → SameFork holds (take (i + 1) slots) (others ++ x ∷ [])
  one_shared slots others i d x lt same own = record {
    count = let c = same.count in omega (arith, length-append others (x ∷ []), c, length-take-le i slots (omega (arith, lt)), length-take-le (i + 1) slots (omega (arith, lt)));
    each = λ g slot less. by g slot (let l : length (take (i + 1) slots) ≡ i + 1 = length-take-le (i + 1) slots (omega (arith, lt)) in omega (arith, l, less)) (g == i) refl;
  } where
    whole : length others ≡ i
    whole = let c = same.count in omega (arith, c, length-take-le i slots (omega (arith, lt)))

    by : (g : ℕ) (slot : Signs × X) → g < i + 1 → (t : Bool) → (g == i) ≡ t → SameSlot holds (get_or (take (i + 1) slots) g slot) (get_or (others ++ x ∷ []) g slot)
    by g slot less true t =
        let same_ : i ≡ g = let e : g ≡ i = grind (arith, nat_tests) in sym e in
        let front_ : get_or (take (i + 1) slots) i slot ≡ get_or slots i d = get_or-take (i + 1) slots i slot (omega arith) ∙ get_or_default slots i slot d lt in
        let back : get_or (others ++ x ∷ []) i slot ≡ x = ap (λ (j : ℕ). get_or (others ++ x ∷ []) j slot) (sym whole) ∙ get_or-append_seam others x [] slot in
        subst (λ (j : ℕ). SameSlot holds (get_or (take (i + 1) slots) j slot) (get_or (others ++ x ∷ []) j slot)) same_
        (subst (λ (y : Signs × X). SameSlot holds y (get_or (others ++ x ∷ []) i slot)) (sym front_)
        (subst (λ (y : Signs × X). SameSlot holds (get_or slots i d) y) (sym back) own))
    by g slot less false t =
        let apart : g ≢ i = λ e. grind (arith, nat_tests) in
        let near : g < i = omega (arith, less, apart) in
        let inside : g < length others = omega (arith, near, whole) in
        let front_ : get_or (take (i + 1) slots) g slot ≡ get_or (take i slots) g slot =
        get_or-take (i + 1) slots g slot less ∙ sym (get_or-take i slots g slot near) in
        subst (λ (y : Signs × X). SameSlot holds y (get_or (others ++ x ∷ []) g slot)) (sym front_)
        (subst (λ (y : Signs × X). SameSlot holds (get_or (take i slots) g slot) y) (sym (get_or_append_left others (x ∷ []) slot g inside))
        (same.each g slot (let l : length (take i slots) ≡ i = length-take-le i slots (omega (arith, lt)) in omega (arith, l, near))))

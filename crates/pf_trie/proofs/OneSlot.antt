-- Rows that are all in one slot of a fork.
use Rattle.std.proofs.{Common.{◌≡◌, ◌≢◌, ℕ, ◌+◌, ◌-◌, ◌*◌, ◌/◌, ◌%◌, ◌^◌, ◌<◌, ◌≤◌, ◌==◌, Bool, true, false, cond, nat_le, nat_lt, List, [], length, get_or, set, Option, Some, None, All, refl, sym, ap, ◌∙◌, subst, arith}, lemmas.{Bool.Decides.nat_tests, Nat.shl-shr, List.{get_or-set_same, get_or-set_other}}, Math.Pow.shr_mono}
use Rattle.std.specs.{List.{Any}, Option.is_some}
use Rattle.pf_trie.specs.declared.{found.Found.{Found}, rows.Row.{Row}, signs.Signs.{Signs}}
use Rattle.pf_trie.specs.{Prefixes.AllSigns, Signs.{sign_of, IsShortest}, Rows.{HasSigns, IsAt, AreOfOneSlot, AreRows}, Forks.{IsSlot, IsEmptySlot, IsFork}}
use Rattle.pf_trie.specs.Agreeing.{cut_off, of_slot}
use Rattle.pf_trie.proofs.{Cuts.share_fewer, RowLists.{no_later, begins, is_none}}

-- what the first and the last row tell of all
pub ends_in_slot : (at : ℕ) (rows : List Row) (e x : Row) (wide : Signs) (found : Option Found) → 0 < length rows → ((d : Row) → get_or rows 0 d ≡ e)
    → ((d : Row) → get_or rows (length rows - 1) d ≡ x) → x.first / 2 ^ at ≡ e.first / 2 ^ at
    → ((k : ℕ) → sign_of wide k ≡ cond (nat_le at k) (sign_of e.signs k) None) → IsShortest wide found → is_some found ≡ false
    → AreOfOneSlot at (e.first / 2 ^ at) rows
ends_in_slot at rows e x wide (Some found) some is_first is_last alike from shortest is = absurd (cc)
ends_in_slot at rows e x wide None some is_first is_last alike from none is = record {
  some = some;
  inside = λ o k d lt.
      let low = no_later rows 0 k d o (omega arith) lt in
      let high = no_later rows k (length rows - 1) d o (omega (arith, lt)) (omega (arith, some)) in
      let first_is : (get_or rows 0 d).first ≡ e.first = ap (λ (r : Row). r.first) (is_first d) in
      let last_is : (get_or rows (length rows - 1) d).first ≡ x.first = ap (λ (r : Row). r.first) (is_last d) in
      let up : e.first / 2 ^ at ≤ (get_or rows k d).first / 2 ^ at = shr_mono at (omega (arith, low, first_is)) in
      let down : (get_or rows k d).first / 2 ^ at ≤ x.first / 2 ^ at = shr_mono at (omega (arith, high, last_is)) in
      omega (arith, up, down, alike);
  narrow = λ d k le. ap (λ (r : Row). sign_of r.signs k) (is_first d) ∙ sym (ap (λ b. cond b (sign_of e.signs k) None) (reached k le)) ∙ sym (from k) ∙ none k;
} where
  reached : (k : ℕ) → at ≤ k → nat_le at k ≡ true
  reached k le = grind (arith, nat_tests)

no_row : Row
no_row = record { first = 0; signs = record { plain = 0; negated = 0 } }

module _ (s : AllSigns) (at n front : ℕ) (rows : List Row) (one : AreOfOneSlot at n rows) (are : AreRows s (at + 4) front rows) where
  abbrev first : Row
  first = get_or rows 0 no_row

  in_slot : first.first / 2 ^ at ≡ n
  in_slot = one.inside are.order 0 no_row one.some

  pub slot_in_fork : n / 16 ≡ front
  slot_in_fork = ap (λ (i : ℕ). i / 16) (sym in_slot) ∙ sym (of_slot at first.first) ∙ are.inside 0 no_row one.some

  -- a prefix that contains whole slots has no sign: it would begin at a row, and so contain the first
  no_wide_sign : (k a : ℕ) → at ≤ k → k < at + 4 → a / 2 ^ (at + 4) ≡ front → s k (a / 2 ^ k) ≡ None
  no_wide_sign k a le lt in_front = is_none (s k (a / 2 ^ k)) (λ sign is. clash sign is (begins s (at + 4) front a rows are in_front k sign lt is)) where
    clash : (sign : Bool) → s k (a / 2 ^ k) ≡ Some sign → Any (IsAt (cut_off k a)) rows → ⊥
    clash sign is (j, r, less, here, begin) =
        let there : cut_off k a / 2 ^ at ≡ n =
        ap (λ (i : ℕ). i / 2 ^ at) (sym (ap (λ (x : Row). x.first) here ∙ begin)) ∙ one.inside are.order j r less in
        let alike : first.first / 2 ^ k ≡ a / 2 ^ k = share_fewer at k first.first (cut_off k a) le (in_slot ∙ sym there) ∙ shl-shr (a / 2 ^ k) k in
        let has = are.signs 0 no_row one.some in
        let none : s k (a / 2 ^ k) ≡ None = ap (s k) (sym alike) ∙ sym (has.same k (omega arith) lt) ∙ one.narrow no_row k le in
        absurd (cc)

  pub rows_of_slot : AreRows s at n rows
  rows_of_slot = record {
    order = are.order;
    inside = one.inside are.order;
    signs = λ k d lt. narrower (get_or rows k d) (are.inside k d lt) (are.signs k d lt);
    starts = λ k m sign lt in_front is.
        are.starts k m sign (omega (arith, lt)) (of_slot at (m * 2 ^ k) ∙ ap (λ (i : ℕ). i / 16) in_front ∙ slot_in_fork) is;
  } where
    narrower : (r : Row) → r.first / 2 ^ (at + 4) ≡ front → HasSigns s 0 (at + 4) r.first r.signs → HasSigns s 0 at r.first r.signs
    narrower r in_front has = record {
      same = λ k low lt. has.same k low (omega (arith, lt));
      narrow = has.narrow;
      wide = λ k le. by k le (nat_lt k (at + 4)) refl;
    } where
      by : (k : ℕ) → at ≤ k → (t : Bool) → nat_lt k (at + 4) ≡ t → sign_of r.signs k ≡ None
      by k le true t = let less : k < at + 4 = grind (arith, nat_tests) in has.same k (omega arith) less ∙ no_wide_sign k r.first le less in_front
      by k le false t = let past : at + 4 ≤ k = grind (arith, nat_tests) in has.wide k past

  no_rows_of_other : (m : ℕ) → m / 16 ≡ front → m ≢ n → AreRows s at m []
  no_rows_of_other m in_fork other = record {
    order = λ i j d lt end. absurd (omega (arith, end));
    inside = λ k d lt. absurd (omega (arith, lt));
    signs = λ k d lt. absurd (omega (arith, lt));
    starts = λ k i sign lt in_front is. absurd (clash (i * 2 ^ k) in_front
        (are.starts k i sign (omega (arith, lt)) (of_slot at (i * 2 ^ k) ∙ ap (λ (x : ℕ). x / 16) in_front ∙ in_fork) is));
  } where
    clash : (a : ℕ) → a / 2 ^ at ≡ m → Any (IsAt a) rows → ⊥
    clash a in_front (j, r, less, here, begin) =
        other (sym in_front ∙ ap (λ (i : ℕ). i / 2 ^ at) (sym (ap (λ (x : Row). x.first) here ∙ begin)) ∙ one.inside are.order j r less)

  no_wide_signs : (g a : ℕ) (signs : Signs) → g < 16 → a / 2 ^ at ≡ front * 16 + g → ((k : ℕ) → sign_of signs k ≡ None) → HasSigns s at (at + 4) a signs
  no_wide_signs g a signs lt in_front none = record {
    same = λ k le less. none k ∙ sym (no_wide_sign k a le less (of_slot at a ∙ ap (λ (i : ℕ). i / 16) in_front ∙ omega (arith, lt)));
    narrow = λ k less. none k;
    wide = λ k le. none k;
  }

  pub one_full : {X : Type 0} (holds : AllSigns → ℕ → ℕ → X → Type 0) (slots : List (Signs × X)) (place : ℕ) (x : Signs × X) → length slots ≡ 16
      → All (IsEmptySlot holds) slots → place ≡ n % 16 → ((k : ℕ) → sign_of x.0 k ≡ None) → holds s at n x.1 → IsFork holds s at front (set slots place x)
  one_full holds slots place x count empty is_place none below = record { each = λ g slot lt. by g slot lt (g == place) refl } where
    long : place < length slots
    long = omega (arith, count, is_place)

    own : front * 16 + place ≡ n
    own = omega (arith, slot_in_fork, is_place)

    by : (g : ℕ) (slot : Signs × _) → g < 16 → (t : Bool) → (g == place) ≡ t → IsSlot holds s at (front * 16 + g) (get_or (set slots place x) g slot)
    by g slot lt true t =
        let same : place ≡ g = let e : g ≡ place = grind (arith, nat_tests) in sym e in
        subst (λ (j : ℕ). IsSlot holds s at (front * 16 + j) (get_or (set slots place x) j slot)) same
        (subst (λ (y : Signs × _). IsSlot holds s at (front * 16 + place) y) (sym (get_or-set_same slots place x slot long))
        (record {
          wide = λ a in_front. no_wide_signs place a x.0 (omega (arith, long, count)) in_front none;
          below = subst (λ (m : ℕ). holds s at m x.1) (sym own) below;
        }))
    by g slot lt false t =
        let apart : g ≢ place = λ e. grind (arith, nat_tests) in
        let other : front * 16 + g ≢ n = λ e. apart (omega (arith, e, own)) in
        let is = empty g slot (omega (arith, lt, count)) in
        subst (λ (y : Signs × _). IsSlot holds s at (front * 16 + g) y) (sym (get_or-set_other slots place g x slot apart))
        (record {
          wide = λ a in_front. no_wide_signs g a (get_or slots g slot).0 lt in_front is.wide;
          below = is.below s at (front * 16 + g) (no_rows_of_other (front * 16 + g) (omega (arith, lt)) other);
        })

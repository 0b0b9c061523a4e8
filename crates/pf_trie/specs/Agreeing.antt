-- A level holds the same signs wherever two agree on the prefixes that it has.
use Rattle.std.proofs.{Common.{◌≡◌, ℕ, ◌+◌, ◌-◌, ◌*◌, ◌/◌, ◌^◌, ◌<◌, ◌≤◌, List, get_or, Option, Some, None, sym, ap, ◌∙◌, subst, arith}, Math.{Nat.{div-mul-le_self, mul_assoc, mul-le-mul_right}, Pow.shr_mono}, lemmas.Nat.{le-div, pow_pos, pow-add, shl-shr, shr-shr}}
use Rattle.std.specs.{Arc.arc_value, declared.{sync.Arc.Arc}}
use Rattle.pf_trie.specs.declared.{rows.Row.{Row}, signs.Signs.{Signs}, slot.TheConstants.{SLOT_BITS, SLOTS}}
use Rattle.pf_trie.specs.{Prefixes.{AllSigns, Agree}, Rows.{HasSigns, AreRows}, Forks.{IsSlot, IsFork, IsBranch}}

-- a number with its last k bits cleared
abbrev pub cut_off : ℕ → ℕ → ℕ
cut_off k n = n / 2 ^ k * 2 ^ k

-- clearing fewer bits leaves no less
pub cut_less : (j k n : ℕ) → j ≤ k → cut_off k n ≤ cut_off j n
cut_less j k n le =
    let split : k - j + j ≡ k = omega arith in
    let whole : cut_off k n ≡ n / 2 ^ k * 2 ^ (k - j) * 2 ^ j = ap (λ (i : ℕ). n / 2 ^ k * 2 ^ i) (sym split)
    ∙ ap (λ (p : ℕ). n / 2 ^ k * p) (pow-add 2 (k - j) j) ∙ mul_back (n / 2 ^ k) (2 ^ (k - j)) (2 ^ j) in
    let below : n / 2 ^ k * 2 ^ (k - j) ≤ n / 2 ^ j =
    le-div (n / 2 ^ k * 2 ^ (k - j)) n (2 ^ j) (pow_pos j) (subst (λ (m : ℕ). m ≤ n) whole (div-mul-le_self n (2 ^ k))) in
    subst (λ (m : ℕ). m ≤ cut_off j n) (sym whole) (mul_less (n / 2 ^ k * 2 ^ (k - j)) (n / 2 ^ j) (2 ^ j) below)
  where
    mul_back : (a b c : ℕ) → a * (b * c) ≡ a * b * c
    mul_back a b c = sym (mul_assoc a b c)

    mul_less : (a b c : ℕ) → a ≤ b → a * c ≤ b * c
    mul_less a b c le = mul-le-mul_right c le

-- numbers from a cut one up to the whole one have the same first bits
pub between : (k a e : ℕ) → cut_off k a ≤ e → e ≤ a → e / 2 ^ k ≡ a / 2 ^ k
between k a e low high =
    let up : e / 2 ^ k ≤ a / 2 ^ k = shr_mono k high in
    let down : cut_off k a / 2 ^ k ≤ e / 2 ^ k = shr_mono k low in
    let own : cut_off k a / 2 ^ k ≡ a / 2 ^ k = shl-shr (a / 2 ^ k) k in
    omega (arith, up, down, own)

-- ---- the same signs where a level looks

-- a prefix of an address of a region begins in the region
own_front : (top front a k : ℕ) → a / 2 ^ top ≡ front → k ≤ top → a / 2 ^ k * 2 ^ k / 2 ^ top ≡ front
own_front top front a k is le = between top a (cut_off k a) (cut_less k top a le) (div-mul-le_self a (2 ^ k)) ∙ is

pub signs_agree : (s t : AllSigns) (low top front a : ℕ) (signs : Signs) → Agree s t top front → a / 2 ^ top ≡ front → HasSigns s low top a signs
    → HasSigns t low top a signs
signs_agree s t low top front a signs same is has = record {
  same = λ k le lt. has.same k le lt ∙ same k (a / 2 ^ k) lt (own_front top front a k is (omega (arith, lt)));
  narrow = has.narrow;
  wide = has.wide;
}

pub rows_agree : (s t : AllSigns) (top front : ℕ) (rows : List Row) → Agree s t top front → AreRows s top front rows → AreRows t top front rows
rows_agree s t top front rows same are = record {
  order = are.order;
  inside = are.inside;
  signs = λ k d lt. signs_agree s t 0 top front (get_or rows k d).first (get_or rows k d).signs same (are.inside k d lt) (are.signs k d lt);
  starts = λ k n sign lt in_front is. are.starts k n sign lt in_front (same k n lt in_front ∙ is);
}

-- the front of a slot, and that of its fork
pub of_slot : (at a : ℕ) → a / 2 ^ (at + SLOT_BITS) ≡ a / 2 ^ at / SLOTS
of_slot at a = sym (shr-shr a at 4)

in_fork : (front g : ℕ) → g < 16 → (front * 16 + g) / 16 ≡ front
in_fork front g lt = omega (arith, lt)

module _ {X : Type 0} (holds : AllSigns → ℕ → ℕ → X → Type 0)
    (agrees : (s t : AllSigns) (top front : ℕ) (l : X) → Agree s t top front → holds s top front l → holds t top front l) where
  -- what agrees in a fork agrees in each of its slots
  narrower : (s t : AllSigns) (at n : ℕ) → Agree s t (at + 4) (n / 16) → Agree s t at n
  narrower s t at n same k m lt in_front = same k m (omega (arith, lt)) (sym (shr-shr (m * 2 ^ k) at 4) ∙ ap (λ (j : ℕ). j / 16) in_front)

  pub slot_agrees : (s t : AllSigns) (at n : ℕ) (slot : Signs × X) → Agree s t (at + 4) (n / 16) → IsSlot holds s at n slot → IsSlot holds t at n slot
  slot_agrees s t at n slot same is = record {
    wide = λ a front. signs_agree s t at (at + 4) (n / 16) a slot.0 same (of_slot at a ∙ ap (λ (j : ℕ). j / 16) front) (is.wide a front);
    below = agrees s t at n slot.1 (narrower s t at n same) is.below;
  }

  pub fork_agrees : (s t : AllSigns) (at front : ℕ) (slots : List (Signs × X)) → Agree s t (at + 4) front → IsFork holds s at front slots
      → IsFork holds t at front slots
  fork_agrees s t at front slots same is = record {
    each = λ g slot lt. slot_agrees s t at (front * 16 + g) (get_or slots g slot)
        (subst (λ (n : ℕ). Agree s t (at + 4) n) (sym (in_fork front g lt)) same) (is.each g slot lt);
  }

  pub branch_agrees : {Z : Type 0} (s t : AllSigns) (top front : ℕ) (page : List Row) (fork : Option (Arc (List (Signs × X)) Z)) → Agree s t top front
      → IsBranch holds s top front page fork → IsBranch holds t top front page fork
  branch_agrees s t top front page None same is = rows_agree s t top front page same is
  branch_agrees s t top front page (Some fork) same is = record {
    deep = is.deep;
    fork = fork_agrees s t (top - 4) front (arc_value fork)
        (subst (λ (n : ℕ). Agree s t n front) (let deep = is.deep in let whole : top ≡ top - 4 + 4 = omega (arith, deep) in whole) same) is.fork;
  }

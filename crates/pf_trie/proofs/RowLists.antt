-- Rows: which is at an address or before it, and what edits leave.
use Rattle.std.proofs.{Common.{◌≡◌, ◌≢◌, ℕ, suc, ◌+◌, ◌-◌, ◌*◌, ◌/◌, ◌%◌, ◌^◌, ◌<◌, ◌≤◌, ◌==◌, ◌&&◌, Bool, true, false, cond, nat_le, nat_lt, List, [], ◌∷◌, ◌++◌, length, get_or, set, take, drop, filter, map, Option, Some, None, All, refl, sym, ap, ◌∙◌, subst, arith}, lemmas.{Bool.and_parts, Bool.Decides.nat_tests, Nat.{mod_below, mul-add-lt, pow_pos, pow-add, shl-shr, shr_below, shr_split}, List.{get_or_default, length-set, get_or-set_same, get_or-set_other, map_push}, List.Edits.{length-insert, get_or-insert_below, get_or-insert_at, get_or-insert_above, length-remove, get_or-remove_below, get_or-remove_above}, List.Elements.{All-append, All-take, All-drop, All-cons, filter_more}}, Math.Nat.div-mul-le_self}
use Rattle.std.specs.List.{AllPairs, AllWithin, Any, insert, remove}
use Rattle.pf_trie.specs.declared.{found.Found.{Found}, prefix.Prefix.{Prefix}, rows.Row.{Row}, signs.Signs.{Signs}}
use Rattle.pf_trie.specs.{Prefixes.{AllSigns, IsApart, front, first_of, with_sign, Finds}, Signs.{sign_of, IsShortest}, Rows.{HasSigns, IsInOrder, IsAt, AreRows, AreRowsWith, IsUpTo, IsBetween, IsNoStart, Marks, MarksEach, cut_row}}
use Rattle.pf_trie.specs.Agreeing.{cut_off, cut_less, between}
use Rattle.pf_trie.proofs.Cuts.{share_fewer}

lower : (j k : ℕ) → nat_le j k ≡ true → j ≤ k
lower j k t = grind (arith, nat_tests)

higher : (j k : ℕ) → nat_le j k ≡ false → k < j
higher j k t = grind (arith, nat_tests)

-- ---- the halving

-- where rows end between two places, they end between these
pub record Halves (rows : List Row) (a from to low high : ℕ) : Type 0 where
  pub low_in : low ≤ length rows
  pub high_in : high ≤ length rows
  pub between : IsBetween rows a from to → IsBetween rows a low high

pub whole_between : (rows : List Row) (a : ℕ) → IsBetween rows a 0 (length rows)
whole_between rows a = record {
  ordered = omega arith;
  within = omega arith;
  before = λ o k d l h. absurd (omega (arith, h));
  beyond = λ o k d l h. absurd (omega (arith, l, h));
}

-- rows up to one in order are no later than it
pub no_later : (rows : List Row) (k m : ℕ) (d : Row) → IsInOrder rows → k ≤ m → m < length rows → (get_or rows k d).first ≤ (get_or rows m d).first
no_later rows k m d o le lt = by (k == m) refl where
  by : (t : Bool) → (k == m) ≡ t → (get_or rows k d).first ≤ (get_or rows m d).first
  by true t = let same : k ≡ m = grind (arith, nat_tests) in subst (λ (j : ℕ). (get_or rows k d).first ≤ (get_or rows j d).first) same (omega arith)
  by false t = let less : k < m = grind (arith, nat_tests) in let below = o k m d less lt in omega (arith, below)

pub after_middle : (rows : List Row) (a low high middle : ℕ) (e : Row) → IsBetween rows a low high → low ≤ middle → middle < high
    → (get_or rows middle e).first ≤ a → IsBetween rows a (middle + 1) high
after_middle rows a low high middle e is le lt small = record {
  ordered = omega (arith, lt);
  within = is.within;
  before = λ o k d l h.
      let inside : middle < length rows = let w = is.within in omega (arith, w, lt) in
      let near : k ≤ middle = omega (arith, h) in
      let first : (get_or rows middle d).first ≡ (get_or rows middle e).first = ap (λ (x : Row). x.first) (get_or_default rows middle d e inside) in
      let before = no_later rows k middle d o near inside in
      omega (arith, before, first, small);
  beyond = is.beyond;
}

pub before_middle : (rows : List Row) (a low high middle : ℕ) (e : Row) → IsBetween rows a low high → low ≤ middle → middle < high
    → a < (get_or rows middle e).first → IsBetween rows a low middle
before_middle rows a low high middle e is le lt large = record {
  ordered = le;
  within = let w = is.within in omega (arith, w, lt);
  before = is.before;
  beyond = λ o k d l h.
      let inside : middle < length rows = let w = is.within in omega (arith, w, lt) in
      let first : (get_or rows middle d).first ≡ (get_or rows middle e).first = ap (λ (x : Row). x.first) (get_or_default rows middle d e inside) in
      let beyond = no_later rows middle k d o l h in
      omega (arith, beyond, first, large);
}

pub between_ends : (rows : List Row) (a low high : ℕ) → IsBetween rows a low high → high ≤ low → IsUpTo rows a low
between_ends rows a low high is le = record {
  within = let w = is.within in let o = is.ordered in omega (arith, w, o);
  before = is.before;
  beyond = λ o. subst (λ (n : ℕ). AllWithin (λ r. a < r.first) rows n (length rows)) same (is.beyond o);
} where
  same : high ≡ low
  same = let o = is.ordered in omega (arith, o, le)

-- ---- the signs of an address's prefixes

-- a prefix of the address that has a sign begins at a row that isn't past the address
pub begins : (s : AllSigns) (top front a : ℕ) (rows : List Row) → AreRows s top front rows → a / 2 ^ top ≡ front → (k : ℕ) (sign : Bool) → k < top
    → s k (a / 2 ^ k) ≡ Some sign → Any (IsAt (cut_off k a)) rows
begins s top front a rows are in_front k sign lt is = are.starts k (a / 2 ^ k) sign lt (at_front ∙ in_front) is where
  at_front : cut_off k a / 2 ^ top ≡ a / 2 ^ top
  at_front = between top a (cut_off k a) (cut_less k top a (omega (arith, lt))) (div-mul-le_self a (2 ^ k))

-- an option that can't be some is none
pub is_none : (o : Option Bool) → ((sign : Bool) → o ≡ Some sign → ⊥) → o ≡ None
is_none None never = refl
is_none (Some sign) never = absurd (never sign refl)

pub none_before : (s : AllSigns) (top front a : ℕ) (rows : List Row) (signs : Signs) → AreRows s top front rows → a / 2 ^ top ≡ front → IsUpTo rows a 0
    → ((k : ℕ) → sign_of signs k ≡ None) → HasSigns s 0 top a signs
none_before s top front a rows signs are in_front up none = record {
  same = λ k _ lt. none k ∙ sym (is_none (s k (a / 2 ^ k)) (λ sign is. clash k (begins s top front a rows are in_front k sign lt is)));
  narrow = λ k lt. none k;
  wide = λ k le. none k;
} where
  clash : (k : ℕ) → Any (IsAt (cut_off k a)) rows → ⊥
  clash k (j, r, lt, at, here) =
      let past : a < (get_or rows j r).first = up.beyond are.order j r (omega arith) lt in
      let low : cut_off k a ≤ a = div-mul-le_self a (2 ^ k) in
      let first : (get_or rows j r).first ≡ cut_off k a = ap (λ (x : Row). x.first) at ∙ here in
      omega (arith, past, low, first)

module _ (s : AllSigns) (top front a : ℕ) (rows : List Row) (place d : ℕ) (r : Row) (signs : Signs) (are : AreRows s top front rows)
    (in_front : a / 2 ^ top ≡ front) (up : IsUpTo rows a place) (some : 0 < place) (at : r ≡ get_or rows (place - 1) r) (near : IsApart r.first a d)
    (from : (k : ℕ) → sign_of signs k ≡ cond (nat_le d k) (sign_of r.signs k) None) where
  inside : place - 1 < length rows
  inside = let w = up.within in omega (arith, w, some)

  own : HasSigns s 0 top r.first r.signs
  own = subst (λ (x : Row). HasSigns s 0 top x.first x.signs) (sym at) (are.signs (place - 1) r inside)

  first_low : r.first ≤ a
  first_low = subst (λ (x : Row). x.first ≤ a) (sym at) (up.before are.order (place - 1) r (omega arith) (omega (arith, some)))

  -- a row that isn't past the address isn't past this one
  no_row_between : (k : ℕ) → Any (IsAt (cut_off k a)) rows → cut_off k a ≤ r.first
  no_row_between k (j, t, lt, here, first) = by (nat_lt j place) refl where
    is_first : (get_or rows j t).first ≡ cut_off k a
    is_first = ap (λ (x : Row). x.first) here ∙ first

    by : (b : Bool) → nat_lt j place ≡ b → cut_off k a ≤ r.first
    by false far =
        let le : place ≤ j = grind (arith, nat_tests) in
        let past : a < (get_or rows j t).first = up.beyond are.order j t le lt in
        let low : cut_off k a ≤ a = div-mul-le_self a (2 ^ k) in
        absurd (omega (arith, past, low, is_first))
    by true near_ =
        let le : j ≤ place - 1 = let b : j < place = grind (arith, nat_tests) in omega (arith, b) in
        let before = no_later rows j (place - 1) t are.order le inside in
        let same : get_or rows (place - 1) t ≡ r = get_or_default rows (place - 1) t r inside ∙ sym at in
        let firsts : (get_or rows (place - 1) t).first ≡ r.first = ap (λ (x : Row). x.first) same in
        omega (arith, before, firsts, is_first)

  shared : (k : ℕ) → k < top → (b : Bool) → nat_le d k ≡ b → cond b (sign_of r.signs k) None ≡ s k (a / 2 ^ k)
  shared k lt true t = own.same k (omega arith) lt ∙ ap (s k) (share_fewer d k r.first a (lower d k t) near.same)
  shared k lt false t = sym (is_none (s k (a / 2 ^ k)) (λ sign is. clash (begins s top front a rows are in_front k sign lt is))) where
    clash : Any (IsAt (cut_off k a)) rows → ⊥
    clash there =
        let alike : r.first / 2 ^ k ≡ a / 2 ^ k = between k a r.first (no_row_between k there) first_low in
        let few = near.fewest k alike in
        let less = higher d k t in
        omega (arith, few, less)

  none_wide : (k : ℕ) → top ≤ k → (b : Bool) → cond b (sign_of r.signs k) None ≡ None
  none_wide k le true = own.wide k le
  none_wide k le false = refl

  pub signs_of_last : HasSigns s 0 top a signs
  signs_of_last = record {
    same = λ k _ lt. from k ∙ shared k lt (nat_le d k) refl;
    narrow = λ k lt. absurd (omega (arith, lt));
    wide = λ k le. from k ∙ none_wide k le (nat_le d k);
  }

-- the longest prefix that has a sign, by the signs of all
pub finds : (s : AllSigns) (low top a : ℕ) (signs : Signs) (found : Option Found) → HasSigns s low top a signs → IsShortest signs found → Finds s low top a found
finds s low top a signs None has none = record { none = λ k le lt. sym (has.same k le lt) ∙ none k }
finds s low top a signs (Some f) has is = record {
  within = by_low (nat_le low f.free) refl;
  below = by_top (nat_le top f.free) refl;
  sign = sym (has.same f.free (by_low (nat_le low f.free) refl) (by_top (nat_le top f.free) refl)) ∙ is.sign;
  longest = λ k le lt. let top_ : f.free < top = by_top (nat_le top f.free) refl in sym (has.same k le (omega (arith, top_, lt))) ∙ is.first k lt;
} where
  by_low : (t : Bool) → nat_le low f.free ≡ t → low ≤ f.free
  by_low true t = lower low f.free t
  by_low false t = let none = has.narrow f.free (higher low f.free t) in let some = is.sign in absurd (cc)

  by_top : (t : Bool) → nat_le top f.free ≡ t → f.free < top
  by_top false t = higher top f.free t
  by_top true t = let none = has.wide f.free (lower top f.free t) in let some = is.sign in absurd (cc)

-- ---- a row put in

module _ {X : Type 0} (R : X → X → Type 0) (xs : List X) (i : ℕ) (y : X) (le : i ≤ length xs) where
  -- what stands at a place behind the new one
  above : (m : ℕ) (d : X) → i < m → get_or (insert xs i y) m d ≡ get_or xs (m - 1) d
  above m d lt =
      let back : m ≡ m - 1 + 1 = omega (arith, lt) in
      ap (λ (k : ℕ). get_or (insert xs i y) k d) back ∙ get_or-insert_above xs i y d (m - 1) (omega (arith, lt)) le

  pub pairs_inserted : AllPairs R xs → AllWithin (λ x. R x y) xs 0 i → AllWithin (R y) xs i (length xs) → AllPairs R (insert xs i y)
  pairs_inserted o before beyond j m d lt end = by (nat_lt m i) refl (nat_lt i m) refl where
    long : m < length xs + 1
    long = omega (arith, end, length-insert xs i y le)

    at_last : i < m → (t u : Bool) → nat_lt j i ≡ t → nat_lt i j ≡ u → R (get_or (insert xs i y) j d) (get_or xs (m - 1) d)
    at_last past true u near _ = let less : j < i = grind (arith, nat_tests) in
        subst (λ x. R x (get_or xs (m - 1) d)) (sym (get_or-insert_below xs i y d j less le)) (o j (m - 1) d (omega (arith, less, past)) (omega (arith, long, past)))
    at_last past false true _ far = let more : i < j = grind (arith, nat_tests) in
        subst (λ x. R x (get_or xs (m - 1) d)) (sym (above j d more)) (o (j - 1) (m - 1) d (omega (arith, more, lt)) (omega (arith, long, past)))
    at_last past false false near far = let same : i ≡ j = grind (arith, nat_tests) in
        subst (λ x. R x (get_or xs (m - 1) d)) (sym (get_or-insert_at xs i y d le) ∙ ap (λ (k : ℕ). get_or (insert xs i y) k d) same)
        (beyond (m - 1) d (omega (arith, past)) (omega (arith, long, past)))

    by : (t : Bool) → nat_lt m i ≡ t → (u : Bool) → nat_lt i m ≡ u → R (get_or (insert xs i y) j d) (get_or (insert xs i y) m d)
    by true near u _ = let less : m < i = grind (arith, nat_tests) in
        subst (λ x. R (get_or (insert xs i y) j d) x) (sym (get_or-insert_below xs i y d m less le))
        (subst (λ x. R x (get_or xs m d)) (sym (get_or-insert_below xs i y d j (omega (arith, less, lt)) le)) (o j m d lt (omega (arith, less, le))))
    by false _ true far = let more : i < m = grind (arith, nat_tests) in
        subst (λ x. R (get_or (insert xs i y) j d) x) (sym (above m d more)) (at_last more (nat_lt j i) (nat_lt i j) refl refl)
    by false near false far = let same : i ≡ m = grind (arith, nat_tests) in
        let less : j < i = omega (arith, same, lt) in
        subst (λ x. R (get_or (insert xs i y) j d) x) (sym (get_or-insert_at xs i y d le) ∙ ap (λ (k : ℕ). get_or (insert xs i y) k d) same)
        (subst (λ x. R x y) (sym (get_or-insert_below xs i y d j less le)) (before j d (omega arith) less))

module _ {X : Type 0} (P : X → Type 0) (xs : List X) (i : ℕ) (y : X) (le : i ≤ length xs) where
  pub any_inserted : Any P xs → Any P (insert xs i y)
  any_inserted (k, x, lt, at, p) = by (nat_lt k i) refl where
    by : (t : Bool) → nat_lt k i ≡ t → Any P (insert xs i y)
    by true near = let less : k < i = grind (arith, nat_tests) in
        (k, x, omega (arith, length-insert xs i y le, lt), get_or-insert_below xs i y x k less le ∙ at, p)
    by false far = let past : i ≤ k = grind (arith, nat_tests) in
        (k + 1, x, omega (arith, length-insert xs i y le, lt), get_or-insert_above xs i y x k past le ∙ at, p)

  pub new_inserted : P y → Any P (insert xs i y)
  new_inserted p = (i, y, omega (arith, length-insert xs i y le, le), get_or-insert_at xs i y y le, p)

  pub all_inserted : All P xs → P y → All P (insert xs i y)
  all_inserted all own = All-append P (take i xs) (y ∷ drop i xs) (All-take P i xs all) (All-cons P y (drop i xs) own (All-drop P i xs all))

module _ (s : AllSigns) (top front a place : ℕ) (rows : List Row) (signs : Signs) (are : AreRows s top front rows) (in_front : a / 2 ^ top ≡ front)
    (up : IsUpTo rows a place) (has : HasSigns s 0 top a signs) where
  -- where the last row that isn't past the address is before it, the new row goes behind that
  pub row_added : ((d : Row) → 0 < place → (get_or rows (place - 1) d).first ≢ a)
      → AreRowsWith s top front a (insert rows place (record { first = a; signs = signs }))
  row_added apart = record {
    are = record {
      order = pairs_inserted (λ r t. r.first < t.first) rows place (record { first = a; signs = signs }) up.within are.order strictly (up.beyond are.order);
      inside = all_inserted (λ r. r.first / 2 ^ top ≡ front) rows place (record { first = a; signs = signs }) up.within are.inside in_front;
      signs = all_inserted (λ r. HasSigns s 0 top r.first r.signs) rows place (record { first = a; signs = signs }) up.within are.signs has;
      starts = λ k n sign lt in_ is. any_inserted (IsAt (n * 2 ^ k)) rows place (record { first = a; signs = signs }) up.within (are.starts k n sign lt in_ is);
    };
    there = new_inserted (IsAt a) rows place (record { first = a; signs = signs }) up.within refl;
  } where
    strictly : AllWithin (λ r. r.first < a) rows 0 place
    strictly k d _ lt =
        let w = up.within in
        let low = up.before are.order k d (omega arith) lt in
        let before = no_later rows k (place - 1) d are.order (omega (arith, lt)) (omega (arith, lt, w)) in
        let last = up.before are.order (place - 1) d (omega arith) (omega (arith, lt)) in
        let other = apart d (omega (arith, lt)) in
        omega (arith, low, before, last, other)

-- a row of the address is there already
pub row_there : (s : AllSigns) (top front a place : ℕ) (rows : List Row) (e : Row) → AreRows s top front rows → IsUpTo rows a place → 0 < place
    → (get_or rows (place - 1) e).first ≡ a → AreRowsWith s top front a rows
row_there s top front a place rows e are up some first =
    let inside : place - 1 < length rows = let w = up.within in omega (arith, w, some) in
    record { are = are; there = (place - 1, get_or rows (place - 1) e, inside, get_or_default rows (place - 1) (get_or rows (place - 1) e) e inside, first) }

-- ---- a sign replaced in all rows

-- the rows from one place up to another have the sign replaced, the others are as they were
pub record MarkedBetween (p : Prefix) (sign : Option Bool) (old new : List Row) (from to : ℕ) : Type 0 where
  pub count : length new ≡ length old
  pub before : (k : ℕ) (r : Row) → k < from → get_or new k r ≡ get_or old k r
  pub done : (k : ℕ) (r : Row) → from ≤ k → k < to → Marks p sign (get_or old k r) (get_or new k r)
  pub rest : (k : ℕ) (r : Row) → to ≤ k → get_or new k r ≡ get_or old k r

pub none_marked : (p : Prefix) (sign : Option Bool) (old : List Row) (from : ℕ) → MarkedBetween p sign old old from from
none_marked p sign old from = record {
  count = refl;
  before = λ k r lt. refl;
  done = λ k r le lt. absurd (omega (arith, le, lt));
  rest = λ k r le. refl;
}

pub one_marked : (p : Prefix) (sign : Option Bool) (old new : List Row) (from i : ℕ) (e x : Row) → MarkedBetween p sign old new from i → from ≤ i
    → i < length new → Marks p sign (get_or new i e) x → MarkedBetween p sign old (set new i x) from (i + 1)
one_marked p sign old new from i e x is up lt marks = record {
  count = length-set new i x ∙ is.count;
  before = λ k r less. let other : k ≢ i = omega (arith, less, up) in get_or-set_other new i k x r other ∙ is.before k r less;
  done = λ k r le less. by k r le less (k == i) refl;
  rest = λ k r le. let other : k ≢ i = omega (arith, le) in get_or-set_other new i k x r other ∙ is.rest k r (omega (arith, le));
} where
  by : (k : ℕ) (r : Row) → from ≤ k → k < i + 1 → (t : Bool) → (k == i) ≡ t → Marks p sign (get_or old k r) (get_or (set new i x) k r)
  by k r le less true t =
      let same : k ≡ i = grind (arith, nat_tests) in
      let old_is : get_or new i e ≡ get_or old i r = get_or_default new i e r lt ∙ is.rest i r (omega arith) in
      subst (λ (j : ℕ). Marks p sign (get_or old j r) (get_or (set new i x) j r)) (sym same)
      (subst (λ (y : Row). Marks p sign (get_or old i r) y) (sym (get_or-set_same new i x r lt)) (subst (λ (y : Row). Marks p sign y x) old_is marks))
  by k r le less false t =
      let other : k ≢ i = λ e. grind (arith, nat_tests) in
      subst (λ (y : Row). Marks p sign (get_or old k r) y) (sym (get_or-set_other new i k x r other)) (is.done k r le (omega (arith, less, other)))

-- a prefix contains no address before its first one
pub before_first : (p : Prefix) (n : ℕ) → n < first_of p → (n / 2 ^ p.free == front p) ≡ false
before_first p n lt = by (n / 2 ^ p.free == front p) refl where
  by : (t : Bool) → (n / 2 ^ p.free == front p) ≡ t → (n / 2 ^ p.free == front p) ≡ false
  by false t = t
  by true t =
      let same : n / 2 ^ p.free ≡ front p = grind (arith, nat_tests) in
      let low : front p * 2 ^ p.free ≤ n = subst (λ (m : ℕ). m * 2 ^ p.free ≤ n) same (div-mul-le_self n (2 ^ p.free)) in
      absurd (omega (arith, low, lt))

-- and none past its last one
past_last : (p : Prefix) (n : ℕ) → first_of p + (2 ^ p.free - 1) < n → (n / 2 ^ p.free == front p) ≡ false
past_last p n lt = by (n / 2 ^ p.free == front p) refl where
  by : (t : Bool) → (n / 2 ^ p.free == front p) ≡ t → (n / 2 ^ p.free == front p) ≡ false
  by false t = t
  by true t =
      let same : n / 2 ^ p.free ≡ front p = grind (arith, nat_tests) in
      let whole : front p * 2 ^ p.free + n % 2 ^ p.free ≡ n = subst (λ (m : ℕ). m * 2 ^ p.free + n % 2 ^ p.free ≡ n) same (shr_split n p.free) in
      let rest : n % 2 ^ p.free < 2 ^ p.free = mod_below n (2 ^ p.free) (pow_pos p.free) in
      absurd (omega (arith, whole, rest, lt))

-- a row that the prefix doesn't contain
pub unmarked : (p : Prefix) (sign : Option Bool) (r : Row) → (r.first / 2 ^ p.free == front p) ≡ false → Marks p sign r r
unmarked p sign r out = record {
  first = refl;
  signs = λ k. sym (ap (λ (b : Bool). cond (b && (k == p.free)) sign (sign_of r.signs k)) out);
}

-- where the rows before those places and behind them aren't contained, all are marked
pub all_marked : (p : Prefix) (sign : Option Bool) (old new : List Row) (u from to i : ℕ) → MarkedBetween p sign old new from i → from ≡ u - 1 → to ≤ i
    → IsUpTo old (first_of p) u → IsUpTo old (first_of p + (2 ^ p.free - 1)) to → IsInOrder old → MarksEach p sign old new
all_marked p sign old new u from to i is start end low high order = record {
  count = is.count;
  each = λ k r lt. by k r lt (nat_lt k from) refl (nat_lt k i) refl;
} where
  by : (k : ℕ) (r : Row) → k < length old → (t : Bool) → nat_lt k from ≡ t → (v : Bool) → nat_lt k i ≡ v → Marks p sign (get_or old k r) (get_or new k r)
  by k r lt true near v _ =
      let less : k < from = grind (arith, nat_tests) in
      let inside : u - 1 < length old = let w = low.within in omega (arith, w, start, less) in
      let last = low.before order (u - 1) r (omega arith) (omega (arith, start, less)) in
      let before = order k (u - 1) r (omega (arith, start, less)) inside in
      subst (λ (x : Row). Marks p sign (get_or old k r) x) (sym (is.before k r less))
      (unmarked p sign (get_or old k r) (before_first p (get_or old k r).first (omega (arith, before, last))))
  by k r lt false far true near =
      let le : from ≤ k = grind (arith, nat_tests) in
      let less : k < i = grind (arith, nat_tests) in
      is.done k r le less
  by k r lt false far false past =
      let le : i ≤ k = grind (arith, nat_tests) in
      let beyond = high.beyond order k r (omega (arith, le, end)) lt in
      subst (λ (x : Row). Marks p sign (get_or old k r) x) (sym (is.rest k r le))
      (unmarked p sign (get_or old k r) (past_last p (get_or old k r).first beyond))

both_true : (b : Bool) → (b && true) ≡ b
both_true true = refl
both_true false = refl

both_false : (b : Bool) → (b && false) ≡ false
both_false true = refl
both_false false = refl

module _ (s : AllSigns) (p : Prefix) (sign : Option Bool) (top : ℕ) (lt : p.free < top) where
  module _ (first : ℕ) (old new : Signs) (has : HasSigns s 0 top first old)
      (marks : (k : ℕ) → sign_of new k ≡ cond ((first / 2 ^ p.free == front p) && (k == p.free)) sign (sign_of old k)) where
    marked_same : (k : ℕ) → k < top → (t : Bool) → (k == p.free) ≡ t → sign_of new k ≡ cond (t && (first / 2 ^ k == front p)) sign (s k (first / 2 ^ k))
    marked_same k below true t =
        let same : p.free ≡ k = let e : k ≡ p.free = grind (arith, nat_tests) in sym e in
        marks k ∙ ap (λ b. cond ((first / 2 ^ p.free == front p) && b) sign (sign_of old k)) t
        ∙ ap (λ b. cond b sign (sign_of old k)) (both_true (first / 2 ^ p.free == front p) ∙ ap (λ (j : ℕ). first / 2 ^ j == front p) same)
        ∙ ap (λ o. cond (first / 2 ^ k == front p) sign o) (has.same k (omega arith) below)
    marked_same k below false t = marks k ∙ ap (λ b. cond ((first / 2 ^ p.free == front p) && b) sign (sign_of old k)) t
        ∙ ap (λ b. cond b sign (sign_of old k)) (both_false (first / 2 ^ p.free == front p)) ∙ has.same k (omega arith) below

    pub marked_signs : HasSigns (with_sign s p sign) 0 top first new
    marked_signs = record {
      same = λ k _ below. marked_same k below (k == p.free) refl;
      narrow = λ k less. absurd (omega (arith, less));
      wide = λ k le. marks k ∙ ap (λ b. cond ((first / 2 ^ p.free == front p) && b) sign (sign_of old k)) (unlike k le (k == p.free) refl)
          ∙ ap (λ b. cond b sign (sign_of old k)) (both_false (first / 2 ^ p.free == front p)) ∙ has.wide k le;
    } where
      unlike : (k : ℕ) → top ≤ k → (t : Bool) → (k == p.free) ≡ t → (k == p.free) ≡ false
      unlike k le true t = let same : k ≡ p.free = grind (arith, nat_tests) in absurd (omega (arith, same, le, lt))
      unlike k le false t = t

  module _ (front_ : ℕ) (old new : List Row) (marks : MarksEach p sign old new) (are : AreRows s top front_ old)
      (there : (x : Bool) → sign ≡ Some x → Any (IsAt (first_of p)) old) where
    within : (k : ℕ) → k < length new → k < length old
    within k less = let c = marks.count in omega (arith, c, less)

    any_marked : (a : ℕ) → Any (IsAt a) old → Any (IsAt a) new
    any_marked a (k, r, less, at, first) =
        let inside : k < length new = let c = marks.count in omega (arith, c, less) in
        (k, get_or new k r, inside, get_or_default new k (get_or new k r) r inside, (marks.each k r less).first ∙ ap (λ (x : Row). x.first) at ∙ first)

    start : (k n : ℕ) (x : Bool) → k < top → n * 2 ^ k / 2 ^ top ≡ front_ → (t : Bool) → ((k == p.free) && (n == front p)) ≡ t
        → cond t sign (s k n) ≡ Some x → Any (IsAt (n * 2 ^ k)) new
    start k n x below in_front true t is =
        let (same_free, same_front) = and_parts (k == p.free) (n == front p) t in
        let free_is : p.free ≡ k = let e : k ≡ p.free = grind (arith, nat_tests) in sym e in
        let front_is : front p ≡ n = let e : n ≡ front p = grind (arith, nat_tests) in sym e in
        any_marked (n * 2 ^ k) (subst (λ (a : ℕ). Any (IsAt a) old) ((λ i. front_is i * 2 ^ free_is i)) (there x is))
    start k n x below in_front false t is = any_marked (n * 2 ^ k) (are.starts k n x below in_front is)

    pub marked_rows : AreRows (with_sign s p sign) top front_ new
    marked_rows = record {
      order = λ i j d less end.
          let end_ = within j end in
          let before = are.order i j d less end_ in
          let first = (marks.each i d (omega (arith, less, end_))).first in
          let last = (marks.each j d end_).first in
          omega (arith, before, first, last);
      inside = λ k d less. ap (λ (n : ℕ). n / 2 ^ top) (marks.each k d (within k less)).first ∙ are.inside k d (within k less);
      signs = λ k d less.
          subst (λ (n : ℕ). HasSigns (with_sign s p sign) 0 top n (get_or new k d).signs) (sym (marks.each k d (within k less)).first)
          (marked_signs (get_or old k d).first (get_or old k d).signs (get_or new k d).signs (are.signs k d (within k less)) (marks.each k d (within k less)).signs);
      starts = λ k n x below in_front is. start k n x below in_front ((k == p.free) && (n == front p)) refl is;
    }

-- ---- a row taken out

module _ {X : Type 0} (R : X → X → Type 0) (xs : List X) (i : ℕ) (lt : i < length xs) where
  pub pairs_removed : AllPairs R xs → AllPairs R (remove xs i)
  pairs_removed o j m d less end = by (nat_lt m i) refl (nat_lt j i) refl where
    long : m + 1 < length xs
    long = omega (arith, end, length-remove xs i lt)

    by : (t : Bool) → nat_lt m i ≡ t → (u : Bool) → nat_lt j i ≡ u → R (get_or (remove xs i) j d) (get_or (remove xs i) m d)
    by true near u _ = let low : m < i = grind (arith, nat_tests) in
        subst (λ x. R (get_or (remove xs i) j d) x) (sym (get_or-remove_below xs i d m low lt))
        (subst (λ x. R x (get_or xs m d)) (sym (get_or-remove_below xs i d j (omega (arith, low, less)) lt)) (o j m d less (omega (arith, long))))
    by false far true near = let past : i ≤ m = grind (arith, nat_tests) in let low : j < i = grind (arith, nat_tests) in
        subst (λ x. R (get_or (remove xs i) j d) x) (sym (get_or-remove_above xs i d m past lt))
        (subst (λ x. R x (get_or xs (m + 1) d)) (sym (get_or-remove_below xs i d j low lt)) (o j (m + 1) d (omega (arith, less)) long))
    by false far false far_ = let past : i ≤ m = grind (arith, nat_tests) in let past_ : i ≤ j = grind (arith, nat_tests) in
        subst (λ x. R (get_or (remove xs i) j d) x) (sym (get_or-remove_above xs i d m past lt))
        (subst (λ x. R x (get_or xs (m + 1) d)) (sym (get_or-remove_above xs i d j past_ lt)) (o (j + 1) (m + 1) d (omega (arith, less)) long))

module _ {X : Type 0} (P : X → Type 0) (xs : List X) (i : ℕ) (lt : i < length xs) where
  pub all_removed : All P xs → All P (remove xs i)
  all_removed all = All-append P (take i xs) (drop (suc i) xs) (All-take P i xs all) (All-drop P (suc i) xs all)

  pub any_removed : (k : ℕ) (x : X) → k ≢ i → k < length xs → get_or xs k x ≡ x → P x → Any P (remove xs i)
  any_removed k x other less at p = by (nat_lt k i) refl where
    by : (t : Bool) → nat_lt k i ≡ t → Any P (remove xs i)
    by true near = let low : k < i = grind (arith, nat_tests) in
        (k, x, omega (arith, length-remove xs i lt, low, lt), get_or-remove_below xs i x k low lt ∙ at, p)
    by false far =
        let past : i ≤ k - 1 = let up : i ≤ k = grind (arith, nat_tests) in omega (arith, up, other) in
        let back : k - 1 + 1 ≡ k = omega (arith, past, other, far_ far) in
        (k - 1, x, omega (arith, length-remove xs i lt, less, back), get_or-remove_above xs i x (k - 1) past lt ∙ ap (λ (j : ℕ). get_or xs j x) back ∙ at, p) where
          far_ : nat_lt k i ≡ false → i ≤ k
          far_ f = grind (arith, nat_tests)

pub row_removed : (s : AllSigns) (top front i : ℕ) (rows : List Row) (e : Row) → AreRows s top front rows → i < length rows → IsNoStart (get_or rows i e)
    → AreRows s top front (remove rows i)
row_removed s top front i rows e are lt free = record {
  order = pairs_removed (λ r t. r.first < t.first) rows i lt are.order;
  inside = all_removed (λ r. r.first / 2 ^ top ≡ front) rows i lt are.inside;
  signs = all_removed (λ r. HasSigns s 0 top r.first r.signs) rows i lt are.signs;
  starts = λ k n sign below in_front is. other k n sign below is (are.starts k n sign below in_front is);
} where
  other : (k n : ℕ) (sign : Bool) → k < top → s k n ≡ Some sign → Any (IsAt (n * 2 ^ k)) rows → Any (IsAt (n * 2 ^ k)) (remove rows i)
  other k n sign below is (j, r, less, at, first) = any_removed (IsAt (n * 2 ^ k)) rows i lt j r (λ same. clash same) less at first where
    clash : j ≡ i → ⊥
    clash same =
        let row : get_or rows i e ≡ r = get_or_default rows i e r lt ∙ ap (λ (m : ℕ). get_or rows m r) (sym same) ∙ at in
        let own : (get_or rows i e).first ≡ n * 2 ^ k = ap (λ (x : Row). x.first) row ∙ first in
        let front_is : (get_or rows i e).first / 2 ^ k ≡ n = ap (λ (m : ℕ). m / 2 ^ k) own ∙ shl-shr n k in
        free k sign ((are.signs i e lt).same k (omega arith) below ∙ ap (s k) front_is ∙ is) (ap (λ (m : ℕ). m * 2 ^ k) front_is ∙ sym own)

-- ---- where a prefix begins

-- the longest prefix that has a sign begins later than a row's address, and so do all
pub no_start : (r : Row) (found : Option Found) → IsShortest r.signs found → ((f : Found) → found ≡ Some f → cut_off f.free r.first ≢ r.first) → IsNoStart r
no_start r None none other k sign is at = let nothing = none k in absurd (cc)
no_start r (Some f) first other k sign is at = by (nat_lt k f.free) refl where
  by : (t : Bool) → nat_lt k f.free ≡ t → ⊥
  by true near = let less : k < f.free = grind (arith, nat_tests) in let nothing = first.first k less in absurd (cc)
  by false far =
      let le : f.free ≤ k = grind (arith, nat_tests) in
      let up = cut_less f.free k r.first le in
      let low = div-mul-le_self r.first (2 ^ f.free) in
      let own = other f refl in
      omega (arith, up, low, own, at)

-- ---- as the code reads a row

pub signs_of_place : (s : AllSigns) (top front a : ℕ) (rows : List Row) (place d : ℕ) (e : Row) (signs : Signs) → AreRows s top front rows
    → a / 2 ^ top ≡ front → IsUpTo rows a place → 0 < place → IsApart (get_or rows (place - 1) e).first a d
    → ((k : ℕ) → sign_of signs k ≡ cond (nat_le d k) (sign_of (get_or rows (place - 1) e).signs k) None) → HasSigns s 0 top a signs
signs_of_place s top front a rows place d e signs are in_front up some near from =
    let inside_ : place - 1 < length rows = let w = up.within in omega (arith, w, some) in
    signs_of_last s top front a rows place d (get_or rows (place - 1) e) signs are in_front up some
    (get_or_default rows (place - 1) e (get_or rows (place - 1) e) inside_) near from

-- the last row that isn't past the address isn't at it
pub not_at : (rows : List Row) (place a : ℕ) (e d : Row) → IsUpTo rows a place → 0 < place → (get_or rows (place - 1) e).first ≢ a
    → (get_or rows (place - 1) d).first ≢ a
not_at rows place a e d up some other same =
    let inside_ : place - 1 < length rows = let w = up.within in omega (arith, w, some) in
    other (ap (λ (x : Row). x.first) (get_or_default rows (place - 1) e d inside_) ∙ same)

-- the first address of a prefix begins as its other addresses do
pub first_in_front : (a free top : ℕ) → free ≤ top → cut_off free a / 2 ^ top ≡ a / 2 ^ top
first_in_front a free top le = between top a (cut_off free a) (cut_less free top a le) (div-mul-le_self a (2 ^ free))

-- ---- numbers of a prefix

-- the last address of a prefix is an address
pub last_fits : (a free : ℕ) → a < 2 ^ 128 → free < 128 → cut_off free a + (2 ^ free - 1) < 2 ^ 128
last_fits a free fits lt =
    let sum : 128 - free + free ≡ 128 = omega (arith, lt) in
    let sum_ : free + (128 - free) ≡ 128 = omega (arith, lt) in
    let less : a / 2 ^ free < 2 ^ (128 - free) = shr_below a (128 - free) free (subst (λ (k : ℕ). a < 2 ^ k) (sym sum) fits) in
    let end : 2 ^ free - 1 < 2 ^ free = let pos = pow_pos free in omega (arith, pos) in
    let whole : 2 ^ free * 2 ^ (128 - free) ≡ 2 ^ 128 = sym (pow-add 2 free (128 - free)) ∙ ap (λ (k : ℕ). 2 ^ k) sum_ in
    subst (λ (m : ℕ). cut_off free a + (2 ^ free - 1) < m) whole (mul-add-lt (a / 2 ^ free) (2 ^ free) (2 ^ free - 1) (2 ^ (128 - free)) less end)

-- ---- rows of one front

abbrev pub begins_so : ℕ → ℕ → Row → Bool
begins_so at n r = r.first / 2 ^ at == n

-- one more of them, at the end
pub one_kept : (at n : ℕ) (rows within : List Row) (i : ℕ) (r cut : Row) → i < length rows → get_or rows i r ≡ r → r.first / 2 ^ at ≡ n
    → cut ≡ cut_row at r → within ≡ map (cut_row at) (filter (begins_so at n) (take i rows))
    → within ++ cut ∷ [] ≡ map (cut_row at) (filter (begins_so at n) (take (i + 1) rows))
one_kept at n rows within i r cut lt here in_front is_cut is =
    ap (λ (x : Row). within ++ x ∷ []) is_cut ∙ ap (λ (xs : List Row). xs ++ cut_row at r ∷ []) is
    ∙ sym (map_push (cut_row at) (filter (begins_so at n) (take i rows)) r)
    ∙ ap (λ (xs : List Row). map (cut_row at) xs) (sym (filter_more (begins_so at n) rows i r lt ∙ step))
  where
    passes : begins_so at n r ≡ true
    passes = grind (arith, nat_tests)

    step : filter (begins_so at n) (take i rows) ++ cond (begins_so at n (get_or rows i r)) (get_or rows i r ∷ []) []
        ≡ filter (begins_so at n) (take i rows) ++ r ∷ []
    step = ap (λ (x : Row). filter (begins_so at n) (take i rows) ++ cond (begins_so at n x) (x ∷ []) []) here
        ∙ ap (λ (b : Bool). filter (begins_so at n) (take i rows) ++ cond b (r ∷ []) []) passes

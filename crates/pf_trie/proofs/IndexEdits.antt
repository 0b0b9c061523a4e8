-- What an edit of rows leaves of their index.
use Rattle.std.proofs.{Common.{◌≡◌, ◌≢◌, ℕ, ◌+◌, ◌-◌, ◌/◌, ◌^◌, ◌<◌, ◌≤◌, ◌==◌, min, Bool, true, false, nat_lt, Option, List, length, get_or, set, refl, sym, ap, ◌∙◌, subst, arith}, lemmas.{Bool.Decides.nat_tests, List.{length-set, get_or-set_same, get_or-set_other}, List.Edits.{length-insert, get_or-insert_below, get_or-insert_at, get_or-insert_above}}}
use Rattle.std.specs.List.{AllPairs, AllWithin, insert}
use Rattle.pf_trie.specs.declared.{prefix.Prefix.{Prefix}, rows.Row.{Row}}
use Rattle.pf_trie.specs.{Rows.{IsInOrder}, Indexes.{digit_at, AreByDigit, IsUpToDigit, IsEntry, IsIndex, BeginAlike}, Addresses.SameAddresses}
use Rattle.pf_trie.proofs.RowLists.{MarkedBetween}

-- ---- an item put in among others, each of which has a key

module _ {X : Type 0} (f : X → ℕ) (xs : List X) (i : ℕ) (y : X) (le : i ≤ length xs) where
  below : (k : ℕ) (d : X) → k < i → f (get_or (insert xs i y) k d) ≡ f (get_or xs k d)
  below k d lt = ap f (get_or-insert_below xs i y d k lt le)

  own : (d : X) → f (get_or (insert xs i y) i d) ≡ f y
  own d = ap f (get_or-insert_at xs i y d le)

  above : (k : ℕ) (d : X) → i ≤ k → f (get_or (insert xs i y) (k + 1) d) ≡ f (get_or xs k d)
  above k d up = ap f (get_or-insert_above xs i y d k up le)

  count : length (insert xs i y) ≡ length xs + 1
  count = length-insert xs i y le

  -- items in the order of their keys are so without one of them
  pub sorted_without : AllPairs (λ x z. f x ≤ f z) (insert xs i y) → AllPairs (λ x z. f x ≤ f z) xs
  sorted_without sorted k m d less lt = by (nat_lt k i) refl (nat_lt m i) refl where
    by : (t : Bool) → nat_lt k i ≡ t → (u : Bool) → nat_lt m i ≡ u → f (get_or xs k d) ≤ f (get_or xs m d)
    by t _ true near =
        let low : m < i = grind (arith, nat_tests) in
        let up = sorted k m d less (omega (arith, count, lt)) in
        omega (arith, up, below k d (omega (arith, less, low)), below m d low)
    by true near false far =
        let low : k < i = grind (arith, nat_tests) in
        let high : i ≤ m = grind (arith, nat_tests) in
        let up = sorted k (m + 1) d (omega (arith, less)) (omega (arith, count, lt)) in
        omega (arith, up, below k d low, above m d high)
    by false far false _ =
        let high : i ≤ k = grind (arith, nat_tests) in
        let up = sorted (k + 1) (m + 1) d (omega (arith, less)) (omega (arith, count, lt)) in
        omega (arith, up, above k d high, above m d (omega (arith, high, less)))

  -- in order the new one stands behind those whose keys are lower than one that its own isn't lower than
  pub after_lower : (c n : ℕ) → AllPairs (λ x z. f x ≤ f z) (insert xs i y) → n ≤ length xs → AllWithin (λ x. f x < c) xs 0 n → c ≤ f y → n ≤ i
  after_lower c n sorted inside lower high = by (nat_lt i n) refl where
    by : (t : Bool) → nat_lt i n ≡ t → n ≤ i
    by false far = grind (arith, nat_tests)
    by true near =
        let less : i < n = grind (arith, nat_tests) in
        let up = sorted i (i + 1) y (omega arith) (omega (arith, count, less, inside)) in
        absurd (omega (arith, up, own y, above i y (omega arith), lower i y (omega arith) less, high))

  -- and before those whose keys are no lower than one that is higher than its own
  pub before_higher : (c n : ℕ) → AllPairs (λ x z. f x ≤ f z) (insert xs i y) → ((d : X) → n < length xs → c ≤ f (get_or xs n d)) → f y < c → i ≤ n
  before_higher c n sorted next low = by (nat_lt n i) refl where
    by : (t : Bool) → nat_lt n i ≡ t → i ≤ n
    by false far = grind (arith, nat_tests)
    by true near =
        let less : n < i = grind (arith, nat_tests) in
        let up = sorted n i y less (omega (arith, count, le)) in
        absurd (omega (arith, up, own y, below n y less, next y (omega (arith, less, le)), low))

  pub lower_kept : (c n : ℕ) → n ≤ i → AllWithin (λ x. f x < c) xs 0 n → AllWithin (λ x. f x < c) (insert xs i y) 0 n
  lower_kept c n near lower k d low high = omega (arith, below k d (omega (arith, high, near)), lower k d low high)

  pub next_kept : (c n : ℕ) → n ≤ i → c ≤ f y → ((d : X) → n < length xs → c ≤ f (get_or xs n d)) → (d : X) → n < length (insert xs i y)
      → c ≤ f (get_or (insert xs i y) n d)
  next_kept c n near high next d _ = by (nat_lt n i) refl where
    by : (t : Bool) → nat_lt n i ≡ t → c ≤ f (get_or (insert xs i y) n d)
    by true low = let less : n < i = grind (arith, nat_tests) in omega (arith, below n d less, next d (omega (arith, less, le)))
    by false far =
        let same : i ≡ n = let up : i ≤ n = grind (arith, nat_tests) in omega (arith, up, near) in
        subst (λ (k : ℕ). c ≤ f (get_or (insert xs i y) k d)) same (omega (arith, own d, high))

  pub lower_more : (c n : ℕ) → i ≤ n → f y < c → AllWithin (λ x. f x < c) xs 0 n → AllWithin (λ x. f x < c) (insert xs i y) 0 (n + 1)
  lower_more c n near small lower k d _ high = by (nat_lt k i) refl (k == i) refl where
    by : (t : Bool) → nat_lt k i ≡ t → (u : Bool) → (k == i) ≡ u → f (get_or (insert xs i y) k d) < c
    by true low u _ = let less : k < i = grind (arith, nat_tests) in omega (arith, below k d less, lower k d (omega arith) (omega (arith, less, near)))
    by false far true at =
        let same : i ≡ k = let e : k ≡ i = grind (arith, nat_tests) in sym e in
        subst (λ (m : ℕ). f (get_or (insert xs i y) m d) < c) same (omega (arith, own d, small))
    by false far false apart =
        let up : i ≤ k = grind (arith, nat_tests) in
        let other : k ≢ i = λ e. grind (arith, nat_tests) in
        let back : k - 1 + 1 ≡ k = omega (arith, up, other) in
        subst (λ (m : ℕ). f (get_or (insert xs i y) m d) < c) back
        (omega (arith, above (k - 1) d (omega (arith, up, other)), lower (k - 1) d (omega arith) (omega (arith, high, back))))

  pub next_more : (c n : ℕ) → i ≤ n → ((d : X) → n < length xs → c ≤ f (get_or xs n d)) → (d : X) → n + 1 < length (insert xs i y)
      → c ≤ f (get_or (insert xs i y) (n + 1) d)
  next_more c n near next d lt = omega (arith, above n d near, next d (omega (arith, lt, count)))

-- ---- a row put in

module _ (shift place digit entry : ℕ) (rows : List Row) (y : Row) (le : place ≤ length rows) (is : IsEntry shift digit rows entry) where
  long : length (insert rows place y) ≡ length rows + 1
  long = length-insert rows place y le

  -- as many come before a digit that is no higher than that of the new row
  pub entry_kept : digit ≤ digit_at shift y.first → IsEntry shift digit (insert rows place y) entry
  entry_kept low = record {
    count = is.count;
    within = let w = is.within in omega (arith, w, long);
    up_to = λ sorted.
        let old = is.up_to (sorted_without (λ r. digit_at shift r.first) rows place y le sorted) in
        let near = after_lower (λ r. digit_at shift r.first) rows place y le digit is.count sorted is.within old.lower low in
        record {
          within = let w = is.within in omega (arith, w, long);
          lower = lower_kept (λ r. digit_at shift r.first) rows place y le digit is.count near old.lower;
          next = next_kept (λ r. digit_at shift r.first) rows place y le digit is.count near low old.next;
        };
    byte = is.byte;
  }

  -- and one more before a higher one
  pub entry_more : digit_at shift y.first < digit → IsEntry shift digit (insert rows place y) (min (entry + 1) 255)
  entry_more high = record {
    count = is.count + 1;
    within = let w = is.within in omega (arith, w, long);
    up_to = λ sorted.
        let old = is.up_to (sorted_without (λ r. digit_at shift r.first) rows place y le sorted) in
        let near = before_higher (λ r. digit_at shift r.first) rows place y le digit is.count sorted old.next high in
        record {
          within = let w = is.within in omega (arith, w, long);
          lower = lower_more (λ r. digit_at shift r.first) rows place y le digit is.count near high old.lower;
          next = next_more (λ r. digit_at shift r.first) rows place y le digit is.count near old.next;
        };
    byte = let b = is.byte in omega (arith, b);
  }

-- one more in each entry behind a digit, as far as another
pub record AddedAfter (before now : List ℕ) (digit next : ℕ) : Type 0 where
  pub count : length now ≡ length before
  pub low : (k : ℕ) → k ≤ digit → get_or now k 0 ≡ get_or before k 0
  pub done : (k : ℕ) → digit < k → k < next → k < length before → get_or now k 0 ≡ min (get_or before k 0 + 1) 255
  pub rest : (k : ℕ) → next ≤ k → get_or now k 0 ≡ get_or before k 0

pub one_added : (before now : List ℕ) (digit next : ℕ) → AddedAfter before now digit next → digit < next
    → AddedAfter before (set now next (min (get_or now next 0 + 1) 255)) digit (next + 1)
one_added before now digit next is up = record {
  count = length-set now next (min (get_or now next 0 + 1) 255) ∙ is.count;
  low = λ k le. let other : k ≢ next = omega (arith, le, up) in get_or-set_other now next k (min (get_or now next 0 + 1) 255) 0 other ∙ is.low k le;
  done = λ k high near inside. by k high near inside (k == next) refl;
  rest = λ k le. let other : k ≢ next = omega (arith, le) in get_or-set_other now next k (min (get_or now next 0 + 1) 255) 0 other ∙ is.rest k (omega (arith, le));
} where
  by : (k : ℕ) → digit < k → k < next + 1 → k < length before → (t : Bool) → (k == next) ≡ t
      → get_or (set now next (min (get_or now next 0 + 1) 255)) k 0 ≡ min (get_or before k 0 + 1) 255
  by k high near inside true t =
      let same : next ≡ k = let e : k ≡ next = grind (arith, nat_tests) in sym e in
      let long : next < length now = let c = is.count in omega (arith, c, inside, same) in
      subst (λ (j : ℕ). get_or (set now next (min (get_or now next 0 + 1) 255)) j 0 ≡ min (get_or before j 0 + 1) 255) same
      (get_or-set_same now next (min (get_or now next 0 + 1) 255) 0 long ∙ ap (λ (n : ℕ). min (n + 1) 255) (is.rest next (omega arith)))
  by k high near inside false t =
      let other : k ≢ next = λ e. grind (arith, nat_tests) in
      get_or-set_other now next k (min (get_or now next 0 + 1) 255) 0 other ∙ is.done k high (omega (arith, near, other)) inside

pub none_added : (before : List ℕ) (digit : ℕ) → AddedAfter before before digit (digit + 1)
none_added before digit = record {
  count = refl;
  low = λ k le. refl;
  done = λ k high near inside. absurd (omega (arith, high, near));
  rest = λ k le. refl;
}

pub index_with_one_more : (before after : List ℕ) (digit next : ℕ) → AddedAfter before after digit next → 32 ≤ next → (shift place : ℕ) (rows : List Row) (row : Row)
    → place ≤ length rows → digit ≡ digit_at shift row.first → IsIndex shift before rows → IsIndex shift after (insert rows place row)
index_with_one_more before after digit next added all shift place rows row le own index = record {
  entries = added.count ∙ index.entries;
  each = λ d lt. by d lt (nat_lt digit d) refl;
} where
  by : (d : ℕ) → d < 32 → (t : Bool) → nat_lt digit d ≡ t → IsEntry shift d (insert rows place row) (get_or after d 0)
  by d lt true high =
      let up : digit < d = grind (arith, nat_tests) in
      subst (λ (n : ℕ). IsEntry shift d (insert rows place row) n) (sym (added.done d up (omega (arith, lt, all)) (let e = index.entries in omega (arith, e, lt))))
      (entry_more shift place d (get_or before d 0) rows row le (index.each d lt) (subst (λ (n : ℕ). n < d) own up))
  by d lt false low =
      let down : d ≤ digit = grind (arith, nat_tests) in
      subst (λ (n : ℕ). IsEntry shift d (insert rows place row) n) (sym (added.low d down))
      (entry_kept shift place d (get_or before d 0) rows row le (index.each d lt) (subst (λ (n : ℕ). d ≤ n) own down))

-- ---- rows of the same addresses

module _ (old new : List Row) (same : SameAddresses old new) where
  address : (k : ℕ) (d : Row) → k < length new → (get_or new k d).first ≡ (get_or old k d).first
  address k d lt = same.each k d (let c = same.count in omega (arith, c, lt))

  in_order_as : IsInOrder new → IsInOrder old
  in_order_as order k m d less lt =
      let c = same.count in
      let inside : m < length new = omega (arith, c, lt) in
      let up = order k m d less inside in
      omega (arith, up, address k d (omega (arith, less, inside)), address m d inside)

  digit_as : (shift k : ℕ) (d : Row) → k < length new → digit_at shift (get_or old k d).first ≡ digit_at shift (get_or new k d).first
  digit_as shift k d lt = ap (digit_at shift) (sym (address k d lt))

  by_digit_as : (shift : ℕ) → AreByDigit shift new → AreByDigit shift old
  by_digit_as shift sorted k m d less lt =
      let c = same.count in
      let inside : m < length new = omega (arith, c, lt) in
      subst (λ (n : ℕ). n ≤ digit_at shift (get_or old m d).first) (sym (digit_as shift k d (omega (arith, less, inside))))
      (subst (λ (n : ℕ). digit_at shift (get_or new k d).first ≤ n) (sym (digit_as shift m d inside)) (sorted k m d less inside))

  up_to_as : (shift digit n : ℕ) → IsUpToDigit shift digit old n → IsUpToDigit shift digit new n
  up_to_as shift digit n is = record {
    within = within;
    lower = λ k d low high. subst (λ (m : ℕ). m < digit) (digit_as shift k d (omega (arith, high, within))) (is.lower k d low high);
    next = λ d lt. subst (λ (m : ℕ). digit ≤ m) (digit_as shift n d lt) (is.next d (let c = same.count in omega (arith, c, lt)));
  } where
    within : n ≤ length new
    within = let c = same.count in let w = is.within in omega (arith, c, w)

  pub index_as : (shift : ℕ) (before : List ℕ) → IsIndex shift before old → IsIndex shift before new
  index_as shift before index = record {
    entries = index.entries;
    each = λ digit lt. let is = index.each digit lt in record {
      count = is.count;
      within = let c = same.count in let w = is.within in omega (arith, c, w);
      up_to = λ sorted. up_to_as shift digit is.count (is.up_to (by_digit_as shift sorted));
      byte = is.byte;
    };
  }

  pub alike_as : (shift front : ℕ) → BeginAlike shift front old → BeginAlike shift front new
  alike_as shift front begin = record {
    alike = λ order k d lt.
        subst (λ (a : ℕ). a / 2 ^ shift / 32 ≡ front) (sym (address k d lt)) (begin.alike (in_order_as order) k d (let c = same.count in omega (arith, c, lt)));
  }

-- the rows that a prefix's sign was replaced in
pub marked_addresses : (p : Prefix) (sign : Option Bool) (old new : List Row) (from to : ℕ) → MarkedBetween p sign old new from to → SameAddresses old new
marked_addresses p sign old new from to is = record { count = is.count; each = λ k r lt. by k r (nat_lt k from) refl (nat_lt k to) refl } where
  by : (k : ℕ) (r : Row) → (t : Bool) → nat_lt k from ≡ t → (u : Bool) → nat_lt k to ≡ u → (get_or new k r).first ≡ (get_or old k r).first
  by k r true near u _ = let less : k < from = grind (arith, nat_tests) in ap (λ (x : Row). x.first) (is.before k r less)
  by k r false far true near =
      let le : from ≤ k = grind (arith, nat_tests) in
      let less : k < to = grind (arith, nat_tests) in
      (is.done k r le less).first
  by k r false far false past = let le : to ≤ k = grind (arith, nat_tests) in ap (λ (x : Row). x.first) (is.rest k r le)

-- The rows of one front, among rows in order.
use Rattle.std.proofs.{Common.{◌≡◌, ◌≢◌, ℕ, zero, suc, ◌+◌, ◌-◌, ◌*◌, ◌/◌, ◌^◌, ◌<◌, ◌≤◌, Bool, true, false, cond, List, [], ◌∷◌, ◌++◌, length, get_or, take, filter, map, refl, sym, ap, ◌∙◌, subst, arith}, lemmas.{Bool.Decides.nat_tests, Nat.{le-div, pow_pos}, List.{append-nil, get_or_default, take_all, Elements.filter_more}}, Math.{Nat.div-mul-le_self, Pow.shr_mono}}
use Rattle.std.specs.List.{AllWithin}
use Rattle.pf_trie.specs.declared.rows.Row.{Row}
use Rattle.pf_trie.specs.Rows.{IsInOrder, cut_row}
use Rattle.pf_trie.proofs.RowLists.{begins_so, no_later}

no_row : Row
no_row = record { first = 0; signs = record { plain = 0; negated = 0 } }

-- rows of other fronts add none
none_more : (p : Row → Bool) (rows : List Row) (from n : ℕ) → from + n ≤ length rows
    → ((k : ℕ) (d : Row) → from ≤ k → k < from + n → p (get_or rows k d) ≡ false) → filter p (take (from + n) rows) ≡ filter p (take from rows)
none_more p rows from zero le none = ap (λ (m : ℕ). filter p (take m rows)) (omega arith)
none_more p rows from (suc n) le none =
    ap (λ (m : ℕ). filter p (take m rows)) same ∙ filter_more p rows (from + n) no_row (omega (arith, le))
    ∙ ap (λ (b : Bool). filter p (take (from + n) rows) ++ cond b (get_or rows (from + n) no_row ∷ []) []) (none (from + n) no_row (omega arith) (omega arith))
    ∙ append-nil (filter p (take (from + n) rows)) ∙ none_more p rows from n (omega (arith, le)) (λ k d low high. none k d low (omega (arith, high)))
  where
    same : from + suc n ≡ from + n + 1
    same = omega arith

other_front : (at n : ℕ) (r : Row) → r.first / 2 ^ at ≢ n → begins_so at n r ≡ false
other_front at n r other = by (begins_so at n r) refl where
  by : (t : Bool) → begins_so at n r ≡ t → begins_so at n r ≡ false
  by false t = t
  by true t = absurd (other (grind (arith, nat_tests)))

-- rows before the first address of the front
pub none_before_front : (at n from : ℕ) (rows : List Row) → from ≤ length rows → AllWithin (λ r. r.first < n * 2 ^ at) rows 0 from
    → [] ≡ map (cut_row at) (filter (begins_so at n) (take from rows))
none_before_front at n from rows le low =
    sym (ap (λ (xs : List Row). map (cut_row at) xs) (ap (λ (m : ℕ). filter (begins_so at n) (take m rows)) (sym whole)
    ∙ none_more (begins_so at n) rows 0 from (omega (arith, le)) (λ k d _ lt. other_front at n (get_or rows k d) (past k d (omega (arith, lt)))))) where
      whole : 0 + from ≡ from
      whole = omega arith

      past : (k : ℕ) (d : Row) → k < from → (get_or rows k d).first / 2 ^ at ≢ n
      past k d lt same =
          let less = low k d (omega arith) lt in
          let reach : n * 2 ^ at ≤ (get_or rows k d).first = subst (λ (m : ℕ). m * 2 ^ at ≤ (get_or rows k d).first) same (div-mul-le_self (get_or rows k d).first (2 ^ at)) in
          omega (arith, less, reach)

-- rows behind the first one that is past the front
pub none_after_front : (at n from place : ℕ) (rows : List Row) (r : Row) → place < length rows → from ≤ place → get_or rows place r ≡ r → r.first / 2 ^ at ≢ n
    → AllWithin (λ r. n * 2 ^ at ≤ r.first) rows from (length rows) → IsInOrder rows → filter (begins_so at n) (take place rows) ≡ filter (begins_so at n) rows
none_after_front at n from place rows r lt reach here other high order =
    sym (none_more (begins_so at n) rows place (length rows - place) (omega (arith, lt)) (λ k d le less.
    other_front at n (get_or rows k d) (past k d le (omega (arith, less, lt)))))
    ∙ ap (λ (xs : List Row). filter (begins_so at n) xs) (take_all (place + (length rows - place)) rows (omega (arith, lt))) where
      beyond : n < r.first / 2 ^ at
      beyond =
          let low : n * 2 ^ at ≤ r.first = subst (λ (x : Row). n * 2 ^ at ≤ x.first) here (high place r reach lt) in
          let up : n ≤ r.first / 2 ^ at = le-div n r.first (2 ^ at) (pow_pos at) low in
          omega (arith, up, other)

      past : (k : ℕ) (d : Row) → place ≤ k → k < length rows → (get_or rows k d).first / 2 ^ at ≢ n
      past k d le less same =
          let later = no_later rows place k d order le less in
          let own : (get_or rows place d).first ≡ r.first = ap (λ (x : Row). x.first) (get_or_default rows place d r lt ∙ here) in
          let up : r.first / 2 ^ at ≤ (get_or rows k d).first / 2 ^ at = shr_mono at (omega (arith, later, own)) in
          omega (arith, up, beyond, same)

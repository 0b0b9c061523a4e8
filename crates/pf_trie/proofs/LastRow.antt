-- Rows that belong behind the last one.
use Rattle.std.proofs.{Common.{◌≡◌, ℕ, ◌+◌, ◌-◌, ◌<◌, ◌≤◌, Bool, true, false, nat_lt, List, [], ◌∷◌, ◌++◌, length, get_or, Option, sym, subst, ap, refl, arith}, lemmas.{Bool.Decides.nat_tests, List.{length-append, get_or_append_left}}, Math.{Seq.get_or-append_seam}}
use Rattle.pf_trie.specs.declared.{prefix.Prefix.{Prefix}, rows.Row.{Row}}
use Rattle.pf_trie.specs.{Prefixes.{first_of}, Rows.{IsInOrder, IsUpTo, Marks, MarksEach}}
use Rattle.pf_trie.proofs.RowLists.{no_later, before_first, unmarked}

-- where the last row isn't past an address, none is
pub all_up_to : (rows : List Row) (a n : ℕ) → n ≡ length rows → ((d : Row) → 0 < n → (get_or rows (n - 1) d).first ≤ a) → IsUpTo rows a n
all_up_to rows a n whole last = record {
  within = omega (arith, whole);
  before = λ o k d _ lt.
      let low = no_later rows k (n - 1) d o (omega (arith, lt)) (omega (arith, lt, whole)) in
      let high = last d (omega (arith, lt)) in
      omega (arith, low, high);
  beyond = λ o k d le lt. absurd (omega (arith, le, lt, whole));
}

-- a prefix that begins at the last row contains no row before it
pub last_marked : (p : Prefix) (sign : Option Bool) (rows : List Row) (row new : Row) → row.first ≡ first_of p → IsInOrder (rows ++ row ∷ [])
    → Marks p sign row new → MarksEach p sign (rows ++ row ∷ []) (rows ++ new ∷ [])
last_marked p sign rows row new begin order marks = record {
  count = omega (arith, length-append rows (new ∷ []), length-append rows (row ∷ []));
  each = λ k r lt. by k r (omega (arith, lt, length-append rows (row ∷ []))) (nat_lt k (length rows)) refl;
} where
  by : (k : ℕ) (r : Row) → k < length rows + 1 → (t : Bool) → nat_lt k (length rows) ≡ t
      → Marks p sign (get_or (rows ++ row ∷ []) k r) (get_or (rows ++ new ∷ []) k r)
  by k r lt true near =
      let less : k < length rows = grind (arith, nat_tests) in
      let old : get_or (rows ++ row ∷ []) k r ≡ get_or rows k r = get_or_append_left rows (row ∷ []) r k less in
      let end : get_or (rows ++ row ∷ []) (length rows) r ≡ row = get_or-append_seam rows row [] r in
      let before = order k (length rows) r less (omega (arith, length-append rows (row ∷ []))) in
      let old_first : (get_or (rows ++ row ∷ []) k r).first ≡ (get_or rows k r).first = ap (λ (x : Row). x.first) old in
      let end_first : (get_or (rows ++ row ∷ []) (length rows) r).first ≡ row.first = ap (λ (x : Row). x.first) end in
      subst (λ (x : Row). Marks p sign x (get_or (rows ++ new ∷ []) k r)) (sym old)
      (subst (λ (x : Row). Marks p sign (get_or rows k r) x) (sym (get_or_append_left rows (new ∷ []) r k less))
      (unmarked p sign (get_or rows k r) (before_first p (get_or rows k r).first (omega (arith, before, old_first, end_first, begin)))))
  by k r lt false far =
      let same : length rows ≡ k = let past : length rows ≤ k = grind (arith, nat_tests) in omega (arith, past, lt) in
      subst (λ (j : ℕ). Marks p sign (get_or (rows ++ row ∷ []) j r) (get_or (rows ++ new ∷ []) j r)) same
      (subst (λ (x : Row). Marks p sign x (get_or (rows ++ new ∷ []) (length rows) r)) (sym (get_or-append_seam rows row [] r))
      (subst (λ (x : Row). Marks p sign row x) (sym (get_or-append_seam rows new [] r)) marks))

-- The rows that an edit marks: from the last one that isn't past the prefix's first address up to the first one past its last.
use Rattle.std.proofs.{Common.{◌≡◌, ℕ, ◌+◌, ◌-◌, ◌^◌, ◌<◌, ◌≤◌, Bool, true, false, nat_lt, Option, List, length, get_or, set, refl, sym, ap, ◌∙◌, subst, arith}, lemmas.{Bool.Decides.nat_tests, List.get_or_default}}
use Rattle.std.specs.List.{AllWithin}
use Rattle.pf_trie.specs.declared.{prefix.Prefix.{Prefix}, rows.Row.{Row}}
use Rattle.pf_trie.specs.{Prefixes.first_of, Rows.{IsInOrder, IsUpTo, Marks, MarksEach}}
use Rattle.pf_trie.proofs.RowLists.{MarkedBetween, none_marked, one_marked, all_marked, no_later}

-- rows marked as far as a place, none of which is past the prefix's last address
pub record MarkedTo (p : Prefix) (sign : Option Bool) (old new : List Row) (from to : ℕ) : Type 0 where
  pub marked : MarkedBetween p sign old new from to
  pub reached : (k : ℕ) (r : Row) → from ≤ k → k < to → (get_or old k r).first ≤ first_of p + (2 ^ p.free - 1)

pub none_yet : (p : Prefix) (sign : Option Bool) (rows : List Row) (from : ℕ) → MarkedTo p sign rows rows from from
none_yet p sign rows from = record { marked = none_marked p sign rows from; reached = λ k r le lt. absurd (omega (arith, le, lt)) }

pub one_further : (p : Prefix) (sign : Option Bool) (old new : List Row) (from i : ℕ) (e x : Row) → MarkedTo p sign old new from i → from ≤ i → i < length new
    → e ≡ get_or new i e → e.first ≤ first_of p + (2 ^ p.free - 1) → Marks p sign e x → MarkedTo p sign old (set new i x) from (i + 1)
one_further p sign old new from i e x is up lt at low marks = record {
  marked = one_marked p sign old new from i e x is.marked up lt (subst (λ (r : Row). Marks p sign r x) at marks);
  reached = λ k r le less. by k r le less (nat_lt k i) refl;
} where
  by : (k : ℕ) (r : Row) → from ≤ k → k < i + 1 → (t : Bool) → nat_lt k i ≡ t → (get_or old k r).first ≤ first_of p + (2 ^ p.free - 1)
  by k r le less true near = let below : k < i = grind (arith, nat_tests) in is.reached k r le below
  by k r le less false far =
      let same : i ≡ k = let past : i ≤ k = grind (arith, nat_tests) in omega (arith, past, less) in
      let own : get_or old i r ≡ e = sym (is.marked.rest i r (omega arith)) ∙ get_or_default new i r e lt ∙ sym at in
      subst (λ (j : ℕ). (get_or old j r).first ≤ first_of p + (2 ^ p.free - 1)) same
      (subst (λ (y : Row). y.first ≤ first_of p + (2 ^ p.free - 1)) (sym own) low)

-- where all others are past the last address, all that the prefix contains are marked
whole : (p : Prefix) (sign : Option Bool) (old new : List Row) (u from i : ℕ) → MarkedTo p sign old new from i → from ≡ u - 1 → i ≤ length old
    → AllWithin (λ r. first_of p + (2 ^ p.free - 1) < r.first) old i (length old) → IsUpTo old (first_of p) u → IsInOrder old → MarksEach p sign old new
whole p sign old new u from i is start inside beyond low order =
    all_marked p sign old new u from i i is.marked start (omega arith) low
    (record { within = inside; before = λ o k d _ lt. by k d lt (nat_lt k from) refl; beyond = λ o. beyond }) order where
      by : (k : ℕ) (d : Row) → k < i → (t : Bool) → nat_lt k from ≡ t → (get_or old k d).first ≤ first_of p + (2 ^ p.free - 1)
      by k d lt true near =
          let below : k < from = grind (arith, nat_tests) in
          let first = low.before order k d (omega arith) (omega (arith, below, start)) in
          omega (arith, first)
      by k d lt false far = let up : from ≤ k = grind (arith, nat_tests) in is.reached k d up lt

-- no rows are left
pub marked_to_end : (p : Prefix) (sign : Option Bool) (old new : List Row) (u from i end : ℕ) → MarkedTo p sign old new from i → from ≡ u - 1 → end ≡ length old
    → (from ≤ end → i ≤ end) → end ≤ i → IsUpTo old (first_of p) u → IsInOrder old → MarksEach p sign old new
marked_to_end p sign old new u from i end is start all reach past low order =
    whole p sign old new u from i is start (let w = low.within in omega (arith, reach (omega (arith, w, start, all)), all))
    (λ k d le lt. absurd (omega (arith, le, lt, past, all))) low order

-- the next row is past the last address
pub marked_to_last : (p : Prefix) (sign : Option Bool) (old new : List Row) (u from i : ℕ) (e : Row) → MarkedTo p sign old new from i → from ≡ u - 1 → i < length new
    → e ≡ get_or new i e → first_of p + (2 ^ p.free - 1) < e.first → IsUpTo old (first_of p) u → IsInOrder old → MarksEach p sign old new
marked_to_last p sign old new u from i e is start lt at high low order =
    whole p sign old new u from i is start (omega (arith, count, lt)) (λ k d le less.
    let later = no_later old i k d order le less in
    let own : (get_or old i d).first ≡ e.first = ap (λ (r : Row). r.first) (sym (is.marked.rest i d (omega arith)) ∙ get_or_default new i d e lt ∙ sym at) in
    omega (arith, later, own, high)) low order where
      count : length new ≡ length old
      count = is.marked.count

-- Entries with their signs exchanged: they contradict one another where the entries do, and those that a table has are those that
-- contradict its own.
use Rattle.std.proofs.{Common.{◌≡◌, ℕ, ◌+◌, Bool, true, false, not, cond, ◌&&◌, ◌||◌, List, [], ◌∷◌, ◌++◌, length, map, nat_lt, Some, None, refl, sym, ap, ◌∙◌}, lemmas.List.{length-map, map-append}}
use Rattle.std.specs.{Bool.beq, FinMap.Entries.where_key, List.{list_any, position, position_or_len}, Ordering.eq_by_cmp}
use Rattle.pf_addr.specs.NetOrder.{net_order}
use Rattle.pf_table.specs.{Entries.PlainEntry, Edits.{is_opposite, conflict_after, conflict_in, has_entry, deletion, deletions}, Laws.Tables.is_deleted}
use Rattle.pf_table.proofs.TableLaws.{one_answer_each}
use Rattle.pf_ticket.specs.Replies.{opposite, conflict_with}

-- ---- conflicts

both_exchanged : (a b : Bool) → beq (not (not a)) (not b) ≡ beq (not a) b
both_exchanged true true = refl
both_exchanged true false = refl
both_exchanged false true = refl
both_exchanged false false = refl

opposite_still : (x e : PlainEntry) → is_opposite (opposite x) (opposite e) ≡ is_opposite x e
opposite_still x e = ap (λ (b : Bool). eq_by_cmp net_order x.0 e.0 && b) (both_exchanged x.1 e.1)

any_opposite : (x : PlainEntry) (es : List PlainEntry) → list_any (is_opposite (opposite x)) (map opposite es) ≡ list_any (is_opposite x) es
any_opposite x [] = refl
any_opposite x (e ∷ es) = λ i. opposite_still x e i || any_opposite x es i

conflicts_after : (before xs : List PlainEntry) → conflict_after (map opposite before) (map opposite xs) ≡ conflict_after before xs
unfolding conflict_after
conflicts_after before [] = refl
conflicts_after before (x ∷ xs) =
    let next : conflict_after (map opposite before ++ opposite x ∷ []) (map opposite xs) ≡ conflict_after (before ++ x ∷ []) xs =
    ap (λ (es : List PlainEntry). conflict_after es (map opposite xs)) (sym (map-append opposite before (x ∷ []))) ∙ conflicts_after (before ++ x ∷ []) xs in
    λ i. cond (any_opposite x before i) (Some (length-map before opposite i)) (next i)

pub as_many_conflicts : (xs : List PlainEntry) → conflict_in (map opposite xs) ≡ conflict_in xs
as_many_conflicts xs = conflicts_after [] xs

-- ---- what is deleted

-- as long as nothing is deleted, the table stays
first_place : (es xs : List PlainEntry) → position_or_len is_deleted (deletions es (map opposite xs)) ≡ position_or_len (λ x. has_entry es (opposite x)) xs
unfolding deletions
first_place es [] = refl
first_place es (x ∷ xs) = by (has_entry es (opposite x)) (first_place es xs) where
  by : (b : Bool) → position_or_len is_deleted (deletions es (map opposite xs)) ≡ position_or_len (λ y. has_entry es (opposite y)) xs
      → cond (not (is_deleted (deletion b))) (1 + position_or_len is_deleted (deletions (cond b (where_key net_order (λ net. not (eq_by_cmp net_order x.0 net)) es) es) (map opposite xs))) 0
      ≡ cond (not b) (1 + position_or_len (λ y. has_entry es (opposite y)) xs) 0
  by true rest = refl
  by false rest = ap (λ (n : ℕ). 1 + n) rest

pub first_deleted : (es xs : List PlainEntry) → position is_deleted (deletions es (map opposite xs)) ≡ conflict_with es xs
first_deleted es xs =
    let many : length (deletions es (map opposite xs)) ≡ length xs = (one_answer_each es (map opposite xs)).1 ∙ length-map xs opposite in
    λ i. cond (nat_lt (first_place es xs i) (many i)) (Some (first_place es xs i)) None

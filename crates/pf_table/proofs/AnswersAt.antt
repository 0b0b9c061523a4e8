-- The answer of an edit at a place is that for the entry there, after the earlier ones.
use Rattle.std.proofs.Common.{◌≡◌, ℕ, zero, suc, ◌<◌, List, [], ◌∷◌, length, get_or, take, sym, ap, ◌∙◌, arith}
use Rattle.pf_table.specs.{declared.answer.{Addition.Addition, Deletion.Deletion}, Entries.PlainEntry, Tables.sign_of, Edits.{with_entry, without_entry, has_entry, added, addition, additions, deleted, deletion, deletions}}

added_there : (es xs : List PlainEntry) (i : ℕ) (x : PlainEntry) (d : Addition) → i < length xs → x ≡ get_or xs i x
    → get_or (additions es xs) i d ≡ addition (sign_of x.0 (added es (take i xs))) x.1
unfolding added additions
added_there es [] i x d lt at = absurd (omega arith)
added_there es (y ∷ xs) zero x d lt at = λ i. addition (sign_of (sym at i).0 es) (sym at i).1
added_there es (y ∷ xs) (suc i) x d lt at = added_there (with_entry es y) xs i x d (omega arith) at

deleted_there : (es xs : List PlainEntry) (i : ℕ) (x : PlainEntry) (d : Deletion) → i < length xs → x ≡ get_or xs i x
    → get_or (deletions es xs) i d ≡ deletion (has_entry (deleted es (take i xs)) x)
unfolding deleted deletions
deleted_there es [] i x d lt at = absurd (omega arith)
deleted_there es (y ∷ xs) zero x d lt at = λ i. deletion (has_entry es (sym at i))
deleted_there es (y ∷ xs) (suc i) x d lt at = deleted_there (without_entry es y) xs i x d (omega arith) at

pub added_at : (answers : List Addition) (es xs : List PlainEntry) (i : ℕ) (x : PlainEntry) (d : Addition) → answers ≡ additions es xs → i < length xs
    → x ≡ get_or xs i x → get_or answers i d ≡ addition (sign_of x.0 (added es (take i xs))) x.1
added_at answers es xs i x d is lt at = ap (λ l. get_or l i d) is ∙ added_there es xs i x d lt at

pub deleted_at : (answers : List Deletion) (es xs : List PlainEntry) (i : ℕ) (x : PlainEntry) (d : Deletion) → answers ≡ deletions es xs → i < length xs
    → x ≡ get_or xs i x → get_or answers i d ≡ deletion (has_entry (deleted es (take i xs)) x)
deleted_at answers es xs i x d is lt at = ap (λ l. get_or l i d) is ∙ deleted_there es xs i x d lt at

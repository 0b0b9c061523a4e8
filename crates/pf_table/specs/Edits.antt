-- Edits of tables (pfctl(8), -T add, delete, replace). What they answer for each entry, and when they refuse, is this project's own.
use Rattle.std.specs.{Prelude.{ℕ, nat_lt, Bool, true, false, not, ◌&&◌, cond, List, [], ◌∷◌, ◌++◌, length, fold, is_some, option_map, Option, Some, None}, Bool.beq, FinMap.put, FinMap.Entries.where_key, List.list_any, Option.{option_map_or, option_or}, Ordering.eq_by_cmp}
use Rattle.pf_table.specs.{declared.{answer.{Addition.{Addition, TheVariants.{Added, Same, Conflict}}, Deletion.{Deletion, TheVariants.{Deleted, Absent}}}, refusal.TableRefusal.TableRefusal, limits.TheConstants.TABLE_LIMIT}, Entries.PlainEntry, Tables.sign_of}
use Rattle.pf_addr.specs.NetOrder.{net_order}
use Rattle.pf_table.specs.declared.refusal.TableRefusal.TheVariants as refusal

-- ---- adding

-- An entry is put in if its network has none; else the table stays.
abbrev pub with_entry : List PlainEntry → PlainEntry → List PlainEntry
with_entry es x = cond (is_some (sign_of x.0 es)) es (put net_order x.0 x.1 es)

-- the table after entries were added in turn
unfoldable pub added : List PlainEntry → List PlainEntry → List PlainEntry
added es xs = fold with_entry es xs

-- by the sign that the network has in the table, and the sign of the entry that is added
abbrev pub addition : Option Bool → Bool → Addition
addition None sign = Added
addition (Some there) sign = cond (beq sign there) Same Conflict

-- the answer for each entry, by the table after the earlier ones
unfoldable pub additions : List PlainEntry → List PlainEntry → List Addition
additions es [] = []
additions es (x ∷ xs) = addition (sign_of x.0 es) x.1 ∷ additions (with_entry es x) xs

-- the table of these entries alone
abbrev pub replaced : List PlainEntry → List PlainEntry
replaced xs = added [] xs

-- ---- deleting

-- whether the network is there with this sign
abbrev pub is_sign : Bool → Option Bool → Bool
is_sign sign there = option_map_or (beq sign) there false

-- whether the entry is there, with its sign
abbrev pub has_entry : List PlainEntry → PlainEntry → Bool
has_entry es x = is_sign x.1 (sign_of x.0 es)

-- An entry that is there with its sign is taken out; else the table stays.
abbrev pub without_entry : List PlainEntry → PlainEntry → List PlainEntry
without_entry es x = cond (has_entry es x) (where_key net_order (λ net. not (eq_by_cmp net_order x.0 net)) es) es

-- the table after entries were deleted in turn
unfoldable pub deleted : List PlainEntry → List PlainEntry → List PlainEntry
deleted es xs = fold without_entry es xs

abbrev pub deletion : Bool → Deletion
deletion true = Deleted
deletion false = Absent

-- the answer for each entry, by the table after the earlier ones
unfoldable pub deletions : List PlainEntry → List PlainEntry → List Deletion
deletions es [] = []
deletions es (x ∷ xs) = deletion (has_entry es x) ∷ deletions (without_entry es x) xs

-- ---- refusing

-- whether two entries are one network with the same sign
abbrev pub same_entry : PlainEntry → PlainEntry → Bool
same_entry x e = eq_by_cmp net_order x.0 e.0 && beq x.1 e.1

-- whether they are one network with opposite signs
abbrev pub is_opposite : PlainEntry → PlainEntry → Bool
is_opposite x e = same_entry (x.0, not x.1) e

-- the place of the first entry after `before` whose network came earlier with the other sign
unfoldable pub conflict_after : List PlainEntry → List PlainEntry → Option ℕ
conflict_after before [] = None
conflict_after before (x ∷ xs) = cond (list_any (is_opposite x) before) (Some (length before)) (conflict_after (before ++ x ∷ []) xs)

-- in a list, counted from 0
abbrev pub conflict_in : List PlainEntry → Option ℕ
conflict_in xs = conflict_after [] xs

abbrev pub conflict_refusal : List PlainEntry → Option TableRefusal
conflict_refusal xs = option_map refusal.Conflict (conflict_in xs)

-- An edit is refused for a conflict in its list, else for a table with too many entries after it.
abbrev pub edit_refusal : List PlainEntry → List PlainEntry → Option TableRefusal
edit_refusal xs after = option_or (conflict_refusal xs) (cond (nat_lt TABLE_LIMIT (length after)) (Some refusal.TableFull) None)

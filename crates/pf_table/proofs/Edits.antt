-- What an edit leaves is a table, or it is refused.
use Rattle.std.proofs.{Common.{◌≡◌, ℕ, ◌≤◌, nat_lt, false, List, [], length, All, arith}, lemmas.Bool.Decides.nat_tests, lemmas.List.Elements.{All-nil, All-from_recursion, recursion_from_All}}
use Rattle.pf_addr.specs.Address.{IsNetwork}
use Rattle.pf_table.specs.declared.limits.TheConstants.{TABLE_LIMIT}
use Rattle.pf_table.specs.{Entries.PlainEntry, Tables.IsTable, Edits.{added, deleted, replaced}, Laws.Edits.{sorted_added, sorted_deleted, added_all, deleted_all, deleted_fewer}}

pub few_of : (n : ℕ) → nat_lt TABLE_LIMIT n ≡ false → n ≤ TABLE_LIMIT
few_of n is = grind (arith, nat_tests)

pub add_leaves_table : (es xs after : List PlainEntry) → IsTable es → All (λ x. IsNetwork x.0) xs → after ≡ added es xs →
    length after ≤ TABLE_LIMIT → IsTable after
add_leaves_table es xs after table networks is few = record {
  sorted = rw is (sorted_added es xs table.sorted);
  networks = rw is (All-from_recursion _ _ (added_all IsNetwork es xs (recursion_from_All _ es table.networks)
      (recursion_from_All _ xs networks)));
  few = few;
}

no_entries : IsTable []
no_entries = record { sorted = tt; networks = All-nil (λ e. IsNetwork e.0); few = omega arith }

pub replace_leaves_table : (xs after : List PlainEntry) → All (λ x. IsNetwork x.0) xs → after ≡ replaced xs → length after ≤ TABLE_LIMIT →
    IsTable after
replace_leaves_table xs after = add_leaves_table [] xs after no_entries

pub still_few : (a b c : ℕ) → a ≤ b → b ≤ c → a ≤ c
still_few a b c p q = omega arith

pub delete_leaves_table : (es xs after : List PlainEntry) → IsTable es → after ≡ deleted es xs → IsTable after
delete_leaves_table es xs after table is = record {
  sorted = rw is (sorted_deleted es xs table.sorted);
  networks = rw is (All-from_recursion _ _ (deleted_all IsNetwork es xs (recursion_from_All _ es table.networks)));
  few = let fewer = deleted_fewer es xs in let most = table.few in rw is (still_few _ _ _ fewer most);
}

use Rattle.std.proofs.Common.{◌≡◌, ◌*◌, ◌-◌, ◌^◌, ◌≤◌, min, drop}
use Rattle.pf_lists.specs.Product.{count}
use Rattle.pf_lists.proofs.product.count_of.Given as goal

abbrev pub invariant-loop-list : goal.invariant-loop-list
invariant-loop-list l = record {
  within : l.count ≤ 2 ^ 64 - 1;
  ways : min (l.count * count (drop l.list-index l.lists)) (2 ^ 64 - 1) ≡ min (count l.lists) (2 ^ 64 - 1);
}

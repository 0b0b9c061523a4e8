use Rattle.std.proofs.Common.{◌≡◌, ◌++◌, drop}
use Rattle.std.specs.List.{list_all}
use Rattle.pf_core.specs.Durable.Changes.{is_in_order, tables_in}
use Rattle.pf_core.proofs.durable.durable.tables_in.Given as goal

abbrev pub invariant-loop-item : goal.invariant-loop-item
invariant-loop-item l = (l.found.items ++ tables_in (drop l.item-index l.items) ≡ tables_in l.items) × (list_all is_in_order l.items ≡ list_all is_in_order (drop l.item-index l.items))

use Rattle.std.proofs.Common.{T, sym, subst, ◌∙◌}
use Rattle.std.proofs.lemmas.List.{map-id}
use Rattle.std.specs.FinMap.{is_sorted}
use Rattle.pf_addr.specs.NetOrder.{net_order}
use Rattle.pf_table.proofs.entry_map.EntryMap.of.Goals as goal

pub of-requires : goal.of-requires
of-requires c = subst (λ l. T (is_sorted net_order l)) (sym (map-id c.args.entries.now)) c.requires

pub returns : goal.returns
returns c = c.in_ok-of.ensures ∙ map-id c.args.entries.now

use Rattle.std.proofs.Common.{◌∙◌, List, sym, ap, subst}
use Rattle.pf_table.specs.{Entries.PlainEntry, Edits.added, Tables.IsTable}
use Rattle.pf_table.proofs.Edits.{add_leaves_table, few_of}
use Rattle.pf_table.proofs.table.Table.add.Goals as goal

pub invariant_of-self : goal.invariant_of-self
invariant_of-self c = (
  subst IsTable (sym c.in_ok-with_added.ensures) (add_leaves_table c.self.inside.entries c.args.entries.now c.in_ok-after.after c.self.invariant.0
      c.in_ok-after.ensures.networks (c.in_ok-after.ensures.after ∙ ap (λ (l : List PlainEntry). added l c.args.entries.now) c.map.ensures)
      (few_of _ (sym c.is_more_than.ensures ∙ c.if-is_more_than.false))),
  tt,
)

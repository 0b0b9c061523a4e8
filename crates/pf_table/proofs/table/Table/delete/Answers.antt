use Rattle.std.proofs.Common.{◌∙◌, List, sym, ap, subst}
use Rattle.pf_table.specs.{Entries.PlainEntry, Edits.deleted, Tables.IsTable}
use Rattle.pf_table.proofs.Edits.{delete_leaves_table}
use Rattle.pf_table.proofs.table.Table.delete.Goals as goal

pub invariant_of-self : goal.invariant_of-self
invariant_of-self c = (
  subst IsTable (sym c.in_ok-without_deleted.ensures) (delete_leaves_table c.self.inside.entries c.args.entries.now c.in_ok-after.after c.self.invariant.0
      (c.in_ok-after.ensures.after ∙ ap (λ (l : List PlainEntry). deleted l c.args.entries.now) (c.in_ok-shared.ensures ∙ c.map.ensures))),
  tt,
)

use Rattle.std.proofs.Common.{◌∙◌, refl, sym}
use Rattle.pfd_conf.specs.Firewalls.{table_of}
use Rattle.pfd_conf.proofs.Rules.{some_more, none_more}
use Rattle.pfd_conf.proofs.firewall.tables_of.Goals.{in-Some+in_ok-push, in_default}
use Rattle.pfd_conf.proofs.firewall.tables_of.Goals as goal

pub loop-table-preserved : goal.loop-table-preserved
loop-table-preserved c =
    let tables = c.args.tables.now in
    let i = c.loop-table.table-index in
    elim c.match-branch-2.branch [
      | in-Some+in_ok-push w ↦
          some_more table_of tables i c.table-item.result w.in-Some.table c.loop-table.placed.items c.match-branch-2.placed.items
          c.loop-table.invariant c.loop-table-test.true c.table-item.is
          (sym c.in_ok-table.ensures ∙ w.in-Some.is) (rw w.placed-is w.in_ok-push.ensures.items)
      | in_default w ↦
          none_more table_of tables i c.table-item.result c.loop-table.placed.items c.match-branch-2.placed.items c.loop-table.invariant
          c.loop-table-test.true c.table-item.is
          (sym c.in_ok-table.ensures ∙ w.in_default.is) (rw w.placed-is refl)
    ]

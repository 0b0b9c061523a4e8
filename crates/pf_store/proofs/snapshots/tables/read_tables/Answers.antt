use Rattle.std.proofs.Common.{◌≡◌, ◌&&◌, nat_le, true, length}
use Rattle.std.specs.List.{list_all}
use Rattle.pf_anchor.specs.declared.limits.TheConstants.{TABLE_COUNT_LIMIT}
use Rattle.pf_anchor.specs.Forms.{has_some}
use Rattle.pf_store.proofs.Durables.{tables_read}
use Rattle.pf_store.proofs.snapshots.tables.read_tables.Goals as goal

pub returns-clause-read : goal.returns-clause-read
returns-clause-read c =
    let rows = c.in_ok-rows.rows.items in
    let filled : (nat_le (length rows) TABLE_COUNT_LIMIT && list_all (λ r. has_some r.placed.1) rows) ≡ true =
    cc (c.are_tables.ensures, c.if-not-are_tables.false, c.deref.ensures.value)
    in
    rw c.in_ok-placed_in.ensures (tables_read rows c.args.from.now.now c.read_ordered_list.new.from.now c.in_ok-rows.ensures.read filled)

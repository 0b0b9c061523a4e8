use Rattle.std.proofs.Common.{◌∙◌, arith}
use Rattle.pf_store.proofs.Taken.{rows_sorted, tables_read}
use Rattle.pf_store.proofs.encoding.items.read_defined.Goals as goal

pub of-requires : goal.of-requires
of-requires c = rw (c.deref.ensures.value ∙ c.in_ok-tables.ensures) (rows_sorted c.in_ok-rows.rows.items c.in_ok-rows.ensures.ordered)

pub returns : goal.returns
returns c =
    tables_read c.in_ok-rows.rows.items c.in_ok-of.field-0 c.args.from.now.now c.read_ordered_list.new.from.now
    (c.in_ok-of.ensures ∙ c.deref.ensures.value ∙ c.in_ok-tables.ensures) (omega arith) c.in_ok-rows.ensures.read

use Rattle.std.proofs.Common.{◌∙◌, sym, ap}
use Rattle.pf_store.specs.Groups.{is_commit}
use Rattle.pf_store.proofs.Taken.{items_read, items_refused}
use Rattle.pf_store.proofs.encoding.items.read_items.Goals as goal

pub returns-then-not-is_commit : goal.returns-then-not-is_commit
returns-then-not-is_commit c =
    items_refused c.args.version c.in_ok-rows.rows.items c.in_ok-items.items.items c.args.from.now.now c.read_rows.new.from.now c.in_ok-items.ensures
    (sym (ap is_commit c.deref.ensures.value) ∙ sym c.is_commit.ensures ∙ c.if-not-is_commit.true) c.in_ok-rows.ensures

pub returns : goal.returns
returns c =
    items_read c.args.version c.in_ok-rows.rows.items c.in_ok-items.items.items c.args.from.now.now c.read_rows.new.from.now c.in_ok-items.ensures
    (sym (ap is_commit c.deref.ensures.value) ∙ sym c.is_commit.ensures ∙ c.if-not-is_commit.false) c.in_ok-rows.ensures

use Rattle.pf_form.specs.Bytes.Forms.{Fits}
use Rattle.pf_form.proofs.BytesRead.{item_fits}
use Rattle.pf_form.proofs.bytes.lists.write_each.Goals as goal

pub write-requires : goal.write-requires
write-requires g c = item_fits (Fits (g.T.Layout.form c.args.version)) g.T.Layout.plain c.args.items.now c.loop-item.item-index c.item-item.result c.loop-item-test.true c.item-item.is c.requires

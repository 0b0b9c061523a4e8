use Rattle.std.proofs.lemmas.List.{drop_all}
use Rattle.pf_store.proofs.Pushed.{items_fit}
use Rattle.pf_store.proofs.encoding.items.push_items.Goals as goal

pub returns-clause-fits : goal.returns-clause-fits
returns-clause-fits c =
    let items = c.args.items.now in
    items_fit c.args.version items c.requires.many (c.loop-item.invariant.fits (rw (drop_all c.loop-item.item-index items c.loop-item-test.false) tt))

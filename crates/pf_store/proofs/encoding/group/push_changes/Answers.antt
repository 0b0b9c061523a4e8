use Rattle.std.proofs.lemmas.List.{drop_all}
use Rattle.pf_store.proofs.Pushed.{made_fit}
use Rattle.pf_store.proofs.encoding.group.push_changes.Goals as goal

pub returns-clause-fits : goal.returns-clause-fits
returns-clause-fits g c =
    let cs = c.args.changes.now in
    made_fit g.C.AsChange.as_plain c.args.version cs c.requires.many (c.loop-change.invariant.fits (rw (drop_all c.loop-change.change-index cs c.loop-change-test.false) tt))

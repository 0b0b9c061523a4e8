use Rattle.std.proofs.Common.{◌≡◌, []}
use Rattle.pf_store.proofs.Durables.{rulesets_fit}
use Rattle.pf_store.proofs.snapshots.rulesets.push_rulesets.Goals as goal

pub returns-clause-fits : goal.returns-clause-fits
returns-clause-fits c =
    let none : (c.loop-placed.placed-iterator ≡ []) × (c.next.new.self ≡ []) = c.in-None.ensures.steps in
    rulesets_fit c.args.version c.args.config.now.rulesets c.rulesets_are_a_map.ensures c.requires.few (c.loop-placed.invariant.0.fits (rw none.0 tt))

use Rattle.std.proofs.Common.{◌≡◌, map}
use Rattle.pf_anchor.specs.Forms.{plain_ruled, ruled_in}
use Rattle.pf_store.proofs.snapshots.facts.rulesets_are_their_data.Given as goal

-- if data determine the rest, they determine all
abbrev pub invariant-loop-placed : goal.invariant-loop-placed
invariant-loop-placed l =
    map ruled_in (map plain_ruled l.placed-iterator) ≡ l.placed-iterator
    → map ruled_in (map plain_ruled l.config.rulesets) ≡ l.config.rulesets

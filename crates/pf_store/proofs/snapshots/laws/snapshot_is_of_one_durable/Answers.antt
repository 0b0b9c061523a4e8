use Rattle.std.proofs.Common.{◌≡◌, ◌&&◌, Bool, true, false, refl}
use Rattle.pf_store.specs.Durables.{durable_has_form}
use Rattle.pf_core.specs.Durable.Forms.{allows}
use Rattle.pf_store.proofs.{Allowing.durable_allowed, Durables.{one_durable, durable_formless}}
use Rattle.pf_store.proofs.snapshots.laws.snapshot_is_of_one_durable.Goals as goal

first_fails : (a b : Bool) → b ≡ true → (a && b) ≡ false → a ≡ false
first_fails false b second none = refl
first_fails true b second none = absurd (cc (second, none))

pub returns-clause-one : goal.returns-clause-one
returns-clause-one c = λ version d e bytes one other. one_durable version d e bytes one other

pub returns-clause-formless : goal.returns-clause-formless
returns-clause-formless c = λ version d bytes none is.
    durable_formless version d bytes (first_fails (durable_has_form d) (allows version d) (durable_allowed version d bytes is) none) is

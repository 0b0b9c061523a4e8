use Rattle.std.proofs.{Common.{◌≡◌, ◌∙◌, ◌||◌, Bool, true, sym, ap, arith}, lemmas.Bool.Decides.nat_tests}
use Rattle.pf_state.specs.{Layouts.States.has_expiry, States.none_expires}
use Rattle.pf_state.proofs.Expiries.{all_allowed_is}
use Rattle.pf_state.proofs.table.StateTable.is_allowed_in.Goals as goal

pub returns-then-version-ge-EXPIRY_FROM : goal.returns-then-version-ge-EXPIRY_FROM
returns-then-version-ge-EXPIRY_FROM c =
    let later = c.if-version-ge-EXPIRY_FROM.true in
    let has : has_expiry c.args.version ≡ true = grind (arith, nat_tests, later) in
    has ∙ sym (ap (λ (b : Bool). b || none_expires c.args.self.now) has) ∙ all_allowed_is c.args.version c.args.self.now

use Rattle.std.proofs.{Common.{◌≡◌, nat_lt, true, List, subst, arith}, lemmas.Bool.Decides.nat_tests}
use Rattle.pf_state.specs.{Dues.AreDues, States.PlainState}
use Rattle.pf_state.proofs.ByExpiry.{first_stands}
use Rattle.pf_state.proofs.index.States.first_due.Goals as goal

pub returns-then-tick-first : goal.returns-then-tick-first
returns-then-tick-first c =
    let due = c.in_ok-first.first in
    let is = subst (λ (es : List PlainState). AreDues es c.self.inside.dues) c.self.view_is c.self.invariant in
    let later : nat_lt c.args.tick due.expiry ≡ true = grind (arith, nat_tests, c.if-tick-first.true) in
    first_stands c.args.tick c.args.self.now due c.self.inside.dues c.requires is c.in_ok-first.ensures later

use Rattle.std.proofs.Common.{◌∙◌, ℕ, List, nat_eq, ap, subst}
use Rattle.pf_state.specs.{Dues.AreDues, States.PlainState}
use Rattle.pf_state.proofs.ByExpiry.{dues_none}
use Rattle.pf_state.proofs.index.States.none_expires.Goals as goal

pub returns : goal.returns
returns c =
    let is : AreDues c.args.self.now c.self.inside.dues = subst (λ (es : List PlainState). AreDues es c.self.inside.dues) c.self.view_is c.self.invariant in
    ap (λ (n : ℕ). nat_eq n 0) c.len.ensures ∙ dues_none c.args.self.now c.self.inside.dues c.requires is

use Rattle.std.proofs.Common.{sym}
use Rattle.std.proofs.lemmas.Result.{on_ok_weaker}
use Rattle.pf_anchor.specs.Forms.{rules_form}
use Rattle.pf_store.proofs.encoding.items.push_rules.Goals as goal

pub returns-clause-fits : goal.returns-clause-fits
unfolding rules_form
returns-clause-fits c =
    let path = rw c.key.ensures at c.push_fitting.ensures.fits in
    on_ok_weaker c.push_rule_list.result (λ rest. (path, rw (sym c.value.ensures) rest)) c.push_rule_list.ensures.fits

use Rattle.std.proofs.Common.{◌≡◌, ◌++◌, true, length}
use Rattle.std.specs.List.{list_all}
use Rattle.pf_form.specs.Bytes.BasicForms.{number_bytes}
use Rattle.pf_anchor.specs.Forms.{rules_form, plain_ruled, allows_ruleset}
use Rattle.pf_state.proofs.Pushing.{Pushing}
use Rattle.pf_store.proofs.snapshots.rulesets.push_rulesets.Given as goal

abbrev pub invariant-loop-placed : goal.invariant-loop-placed
invariant-loop-placed l =
    Pushing (rules_form l.version) plain_ruled l.placed-iterator l.config.rulesets
    (l.fn.out.items ++ number_bytes 4 (length l.config.rulesets)) l.out.items
    × (list_all (allows_ruleset l.version) l.placed-iterator ≡ true)

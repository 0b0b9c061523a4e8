use Rattle.std.proofs.Common.{◌≡◌, ◌++◌, Ok, drop}
use Rattle.pf_form.specs.Form.Forms.{◌>>=◌}
use Rattle.pf_lists.specs.{Product.spelled, Multiplied.rules_of}
use Rattle.pf_lists.proofs.rules.rules_of.Given as goal

abbrev pub invariant-loop-number : goal.invariant-loop-number
invariant-loop-number l = rules_of (spelled l.lists) ≡ (rules_of (drop l.number (spelled l.lists)) >>= λ rules. Ok (l.rules ++ rules))

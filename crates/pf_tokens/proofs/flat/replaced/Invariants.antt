use Rattle.std.proofs.Common.{◌≡◌, ◌++◌, Ok, drop}
use Rattle.pf_form.specs.Form.Forms.{◌>>=◌}
use Rattle.pf_tokens.specs.Flat.{replaced}
use Rattle.pf_tokens.proofs.flat.replaced.Given as goal

abbrev pub invariant-loop-token : goal.invariant-loop-token
invariant-loop-token l = replaced l.macros l.tokens ≡ (replaced l.macros (drop l.token-index l.tokens) >>= λ parts. Ok (l.out ++ parts))

use Rattle.std.proofs.Common.{◌≡◌, ◌+◌, Ok, drop}
use Rattle.pf_form.specs.Form.Forms.{◌>>=◌}
use Rattle.pf_tokens.specs.Lexing.{quoted}
use Rattle.pf_tokens.proofs.lexing.quoted.Given as goal

abbrev pub invariant-loop-count : goal.invariant-loop-count
invariant-loop-count l = quoted l.quote l.bytes ≡ (quoted l.quote (drop l.count l.bytes) >>= λ n. Ok (n + l.count))

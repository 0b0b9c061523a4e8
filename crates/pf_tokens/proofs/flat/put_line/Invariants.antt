use Rattle.std.proofs.Common.{◌≡◌, drop}
use Rattle.pf_tokens.specs.Flat.{put_line}
use Rattle.pf_tokens.proofs.flat.put_line.Given as goal

abbrev pub invariant-loop-token : goal.invariant-loop-token
invariant-loop-token l = put_line l.macros l.line (l.fn.opened, l.fn.tokens) ≡ put_line l.macros (drop l.token-index l.line) (l.opened, l.tokens)

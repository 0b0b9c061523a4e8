use Rattle.std.proofs.Common.{◌≡◌, drop}
use Rattle.pf_tokens.specs.Flat.{counted_uses}
use Rattle.pf_tokens.proofs.flat.count_uses.Given as goal

abbrev pub invariant-loop-token : goal.invariant-loop-token
invariant-loop-token l = counted_uses l.macros l.fn.words_read l.line ≡ counted_uses l.macros l.words_read (drop l.token-index l.line)

use Rattle.std.proofs.Common.{◌≡◌, drop}
use Rattle.pf_tokens.specs.Counting.{counted_at}
use Rattle.pf_tokens.proofs.counting.count_at.Given as goal

abbrev pub invariant-loop-token : goal.invariant-loop-token
invariant-loop-token l = counted_at l.place l.fn.words_read l.tokens ≡ counted_at l.place l.words_read (drop l.token-index l.tokens)

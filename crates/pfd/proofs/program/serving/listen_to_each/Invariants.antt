use Rattle.std.proofs.Common.{◌≡◌, ◌+◌, vec_len}
use Rattle.pfd.proofs.program.serving.listen_to_each.Given as goal

-- each address so far has a name
abbrev pub invariant-loop-address : goal.invariant-loop-address
invariant-loop-address g l = vec_len l.all.names ≡ vec_len l.fn.all.names + l.address-index

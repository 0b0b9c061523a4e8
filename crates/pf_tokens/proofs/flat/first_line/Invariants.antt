use Rattle.std.proofs.Common.{◌≡◌, take, false}
use Rattle.std.specs.List.{list_any}
use Rattle.pf_tokens.specs.Words.{is_newline}
use Rattle.pf_tokens.proofs.flat.first_line.Given as goal

abbrev pub invariant-loop-end : goal.invariant-loop-end
invariant-loop-end l = list_any is_newline (take l.end l.tokens) ≡ false

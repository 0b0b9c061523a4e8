use Rattle.std.proofs.Common.{◌≡◌, drop}
use Rattle.pf_tokens.specs.Lexing.{word_checked}
use Rattle.pf_tokens.proofs.lexing.check_word.Given as goal

abbrev pub invariant-loop-placed : goal.invariant-loop-placed
invariant-loop-placed l = word_checked l.word ≡ word_checked (drop l.placed-index l.word)

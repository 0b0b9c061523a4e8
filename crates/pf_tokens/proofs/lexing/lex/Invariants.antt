use Rattle.std.proofs.Common.{◌≡◌, ◌≤◌, ◌+◌, ◌-◌, ◌++◌, Ok, length, drop}
use Rattle.pf_form.specs.Form.Forms.{◌>>=◌}
use Rattle.pf_tokens.specs.{Counting.words_in, Lexing.lex}
use Rattle.pf_tokens.proofs.lexing.lex.Given as goal

abbrev pub invariant-loop-at : goal.invariant-loop-at
invariant-loop-at l = record {
  within : l.at ≤ length l.bytes;
  is : lex l.source l.fn.words_read 0 l.bytes ≡ (lex l.source l.words_read 0 (drop l.at l.bytes) >>= λ ts. Ok (l.tokens ++ ts));
  counted : l.words_read ≡ l.fn.words_read + words_in l.tokens;
}

abbrev pub decreases-loop-at : goal.decreases-loop-at
decreases-loop-at l = length l.bytes - l.at

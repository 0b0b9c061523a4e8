use Rattle.std.proofs.Common.{◌≡◌, ◌≤◌, ◌++◌, drop}
use Rattle.std.specs.List.{slice_range}
use Rattle.pf_form.specs.Form.Words.{words_of, texts}
use Rattle.pfd_conf.proofs.CaseWords.{Inked}
use Rattle.pfd_conf.proofs.outcomes.put_words.Given as goal

abbrev pub invariant-loop-at : goal.invariant-loop-at
invariant-loop-at l = record {
  start : l.start ≤ l.at;
  word : Inked (slice_range l.line l.start l.at);
  words : texts l.words.items ++ words_of (drop l.start l.line) ≡ words_of l.line;
}

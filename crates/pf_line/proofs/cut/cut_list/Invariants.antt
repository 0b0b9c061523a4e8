use Rattle.std.proofs.Common.{◌≡◌, ◌≤◌, ◌++◌, true, take, drop}
use Rattle.std.specs.List.{list_all, slice_range}
use Rattle.pf_form.specs.Form.Words.{words_of, texts}
use Rattle.pf_line.specs.Lines.{is_line_byte}
use Rattle.pf_line.proofs.Cutting.{Inked}
use Rattle.pf_line.proofs.cut.cut_list.Given as goal

abbrev pub invariant-loop-at : goal.invariant-loop-at
invariant-loop-at l = record {
  start : l.start ≤ l.at;
  bytes : list_all is_line_byte (take l.at l.line) ≡ true;
  word : Inked (slice_range l.line l.start l.at);
  words : texts l.words.items ++ words_of (drop l.start l.line) ≡ words_of l.line;
}

use Rattle.std.proofs.Common.{◌≡◌, take}
use Rattle.pf_form.specs.Form.Words.{texts}
use Rattle.pf_parse.proofs.parser.words_of.Given as goal

abbrev pub invariant-loop-word : goal.invariant-loop-word
invariant-loop-word l = l.list ≡ texts (take l.word-index l.words)

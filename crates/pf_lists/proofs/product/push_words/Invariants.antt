use Rattle.std.proofs.Common.{◌≡◌, ◌++◌, take}
use Rattle.pf_form.specs.Form.Words.{texts}
use Rattle.pf_lists.proofs.product.push_words.Given as goal

abbrev pub invariant-loop-word : goal.invariant-loop-word
invariant-loop-word l = texts l.words.items ≡ texts l.initial.words.items ++ take l.word-index l.item

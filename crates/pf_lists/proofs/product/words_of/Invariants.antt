use Rattle.std.proofs.Common.{◌≡◌, ◌<◌, ◌++◌, drop}
use Rattle.pf_form.specs.Form.Words.{texts}
use Rattle.pf_lists.specs.Product.{count, numbered}
use Rattle.pf_lists.proofs.product.words_of.Given as goal

abbrev pub invariant-loop-list : goal.invariant-loop-list
invariant-loop-list l = record {
  ways : l.rest ≡ count (drop l.list-index l.lists);
  one : l.left < l.rest;
  words : texts l.words.items ++ numbered (drop l.list-index l.lists) l.left ≡ numbered l.lists l.number;
}

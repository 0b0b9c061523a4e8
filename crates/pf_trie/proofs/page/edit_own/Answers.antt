use Rattle.std.proofs.Common.{◌≡◌, subst}
use Rattle.pf_trie.specs.Rows.{AreRows}
use Rattle.pf_trie.proofs.page.edit_own.Goals as goal

pub returns : goal.returns
returns c = λ s top front are less in_front.
    let here : c.args.rows.now ≡ c.replace-own.result = cc in
    c.in_ok-rows.ensures s top front (subst (AreRows s top front) here are) less in_front

use Rattle.std.proofs.Common.{◌/◌, ◌^◌, List, sym, subst}
use Rattle.std.proofs.lemmas.Result.{IfOk-weaker}
use Rattle.pf_trie.specs.declared.rows.Row.{Row}
use Rattle.pf_trie.specs.Rows.{AreRows}
use Rattle.pf_trie.proofs.branch.Branch.of_any_page.Goals as goal

pub returns-then-fits : goal.returns-then-fits
returns-then-fits g c = λ s are. c.of_page.ensures s c.args.top (c.args.address / 2 ^ c.args.top) are

pub returns : goal.returns
returns g c = IfOk-weaker c.of_rows.result _ _ (λ branch made s are. made s
    (subst (λ (v : List Row). AreRows s c.args.top (c.args.address / 2 ^ c.args.top) v) (sym c.in_ok-own_rows.ensures) are)) c.of_rows.ensures

use Rattle.std.proofs.Common.{List, sym, subst}
use Rattle.std.proofs.lemmas.Result.{IfOk-weaker}
use Rattle.pf_trie.specs.declared.rows.Row.{Row}
use Rattle.pf_trie.specs.Rows.{AreRowsWith}
use Rattle.pf_trie.proofs.in_order.with_row.Goals as goal

pub returns-in-Some : goal.returns-in-Some
returns-in-Some c = IfOk-weaker c.insert.result _ _ (λ v same s top front are in_front.
    subst (λ (v : List Row). AreRowsWith s top front c.args.address v) (sym same)
    (c.in-Some.ensures.lacks s top front c.up_to-place.ensures are in_front)) c.insert.ensures

pub returns-in-None : goal.returns-in-None
returns-in-None c = λ s top front are in_front. c.in-None.ensures.has s top front c.up_to-place.ensures are

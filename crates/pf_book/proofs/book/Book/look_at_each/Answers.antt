use Rattle.std.proofs.{Common.{◌∙◌, subst, Option, arith}, lemmas.{List.take_all, List.Elements.All-more}}
use Rattle.std.specs.Prelude.{All}
use Rattle.pf_book.specs.{Books.{PlainBook, world_book}, Receipts.{PlainReceipt, TakesUp}}
use Rattle.pf_book.proofs.book.Book.look_at_each.Goals as goal

pub loop-last-preserved : goal.loop-last-preserved
loop-last-preserved g c =
    let at = c.loop-last in
    let takes : Option PlainReceipt → Type 0 = λ l. TakesUp l (world_book c.args.self.now) in
    let found : TakesUp c.last-item.result (world_book at.self) = rw c.as_ref.ensures.value at c.look_at.ensures.last in
    let here : takes c.last-item.result = subst (λ (b : PlainBook g.row.D.Denot). TakesUp c.last-item.result (world_book b)) at.invariant.same found in
    record {
      same = c.look_at.ensures.same ∙ at.invariant.same;
      each = All-more takes c.args.lasts.now at.last-index c.last-item.result c.loop-last-test.true at.invariant.each (subst takes c.last-item.is here);
    }

pub returns-clause-each : goal.returns-clause-each
returns-clause-each g c =
    let takes : Option PlainReceipt → Type 0 = λ l. TakesUp l (world_book c.args.self.now) in
    subst (All takes) (take_all c.loop-last.last-index c.args.lasts.now (omega (arith, c.loop-last-test.false))) c.loop-last.invariant.each

use Rattle.std.proofs.Common.{List, arith, subst}
use mathlib.Core.List.{IsPrefix}
use Rattle.pf_core.specs.Durable.Changes.{PlainChange}
use Rattle.pf_book.proofs.Closing.{within-acked}
use Rattle.pf_book.proofs.book.closed.Closed.contains.Goals as goal

pub returns-clause-begins : goal.returns-clause-begins
returns-clause-begins g c =
    let tip = c.self.inside.tip in
    let front = c.args.front.now in
    subst (λ (l : List PlainChange). IsPrefix front.front l) c.self.view_is (within-acked front.front tip.front tip.acked c.contains.ensures.begins.0 (omega (arith, c.requires, c.contains.ensures.begins.1)))

use Rattle.std.proofs.Common.{◌≡◌, ◌∙◌, ◌++◌, length, Option, List, [], ◌∷◌, Err, sym, ap, append_assoc, arith}
use Rattle.std.specs.Vec.Iter.{into_iter_items}
use Rattle.pf_book.specs.{Receipts.PlainReceipt, Together.PlainGiven}
use Rattle.pf_book.proofs.Joining.{one-more}
use Rattle.pf_book.proofs.shared.together.give_back.Goals as goal

pub loop-last-preserved : goal.loop-last-preserved
loop-last-preserved g c =
    let at = c.loop-last in
    let steps : into_iter_items at.last-iterator ≡ c.in-Some.last ∷ into_iter_items c.next.new.self = c.in-Some.ensures.steps.0 in
    record {
      all = append_assoc at.yielded (c.in-Some.last ∷ []) _ ∙ rw (← steps) at.invariant.all;
      len = let was = at.invariant.len in let gone = c.in-Some.ensures.steps.1 in let short = ap length steps in omega arith;
      reported = c.push_reserved.ensures.items ∙ ap (λ (l : List PlainGiven). l ++ Err c.in-Some.last ∷ []) at.invariant.reported ∙ sym (one-more {A = (Option PlainReceipt)} {B = PlainGiven} Err at.yielded c.in-Some.last);
      room = omega (arith, at.invariant.room, c.push_reserved.ensures.len, c.push_reserved.ensures.capacity, ap length steps);
    }

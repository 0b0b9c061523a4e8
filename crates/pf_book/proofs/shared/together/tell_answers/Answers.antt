use Rattle.std.proofs.Common.{◌≡◌, ◌∙◌, ◌++◌, length, List, [], ◌∷◌, Ok, sym, ap, append_assoc, arith}
use Rattle.std.specs.Vec.Iter.{into_iter_items}
use Rattle.pf_book.specs.{Groups.Answered, Together.PlainGiven}
use Rattle.pf_book.proofs.Joining.{one-more}
use Rattle.pf_book.proofs.shared.together.tell_answers.Goals as goal

pub loop-answer-preserved : goal.loop-answer-preserved
loop-answer-preserved g c =
    let at = c.loop-answer in
    let steps : into_iter_items at.answer-iterator ≡ c.in-Some.answer ∷ into_iter_items c.next.new.self = c.in-Some.ensures.steps.0 in
    record {
      all = append_assoc at.yielded (c.in-Some.answer ∷ []) _ ∙ rw (← steps) at.invariant.all;
      len = let was = at.invariant.len in let gone = c.in-Some.ensures.steps.1 in let short = ap length steps in omega arith;
      reported = c.push_reserved.ensures.items ∙ ap (λ (l : List PlainGiven). l ++ Ok c.in-Some.answer ∷ []) at.invariant.reported ∙ sym (one-more {A = Answered} {B = PlainGiven} Ok at.yielded c.in-Some.answer);
      room = omega (arith, at.invariant.room, c.push_reserved.ensures.len, c.push_reserved.ensures.capacity, ap length steps);
    }

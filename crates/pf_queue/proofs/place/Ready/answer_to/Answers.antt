use Rattle.std.proofs.Common.{subst}
use Rattle.pf_queue.proofs.place.Ready.answer_to.Goals as goal

-- the job of the answer is the job of the number
pub returns : goal.returns
returns g c = λ entry at.
    let i = c.self.invariant in
    subst (λ (e : g.row.B-Entry.Denot). g.B.RunsTogether.Answers e c.self.inside.answer) (c.agrees.ensures i.0 entry i.1 at) i.2

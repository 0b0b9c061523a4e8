use Rattle.std.proofs.Common.{refl}
use Rattle.pfd.proofs.connection.judge_stage.Goals as goal

pub returns-in-Session : goal.returns-in-Session
returns-in-Session g c =
    rw c.in-Session.is
    (c.go_on_judging.new.session, refl, c.go_on_judging.ensures.number, c.go_on_judging.ensures.part)

pub returns-in-Asking : goal.returns-in-Asking
returns-in-Asking g c =
    rw c.in-Asking.is
    (c.go_on_judging-in-Asking.new.session, refl, c.go_on_judging-in-Asking.ensures.number, c.go_on_judging-in-Asking.ensures.asking_part)

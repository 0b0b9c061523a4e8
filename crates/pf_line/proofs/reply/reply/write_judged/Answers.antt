use Rattle.pf_addr.specs.Writing.{Continues-then, after_nothing}
use Rattle.pf_line.proofs.reply.reply.write_judged.Goals as goal

pub returns : goal.returns
returns g c =
    let whole = after_nothing tt (Continues-then c.write_verdict-so_far.ensures.written c.end_line.ensures) in
    record { text = whole.0; retried = whole.1 }

use Rattle.std.proofs.Common.{refl}
use Rattle.std.specs.Prelude.{[]}
use Rattle.pf_addr.specs.Writing.{Continues-then, after_nothing}
use Rattle.pf_line.specs.Reply.StatusTexts.{status_line}
use Rattle.pf_line.proofs.Writers.{lined}
use Rattle.pf_line.proofs.reply.status.write_status.Goals as goal

pub returns : goal.returns
returns g c =
    let line = status_line c.args.status.now in
    let whole = after_nothing tt (Continues-then c.write_numbers-so_far.ensures.written c.end_line.ensures) in
    record { text = whole.0; retried = whole.1; lines = lined 0 [] line refl c.write_numbers-so_far.ensures.one_line }

use Rattle.std.proofs.Common.{Err}
use Rattle.pf_core.specs.declared.reply.Refusal.TheVariants.{Fault}
use Rattle.pf_book.specs.Groups.{IsAnsweredAsAlone}
use Rattle.pf_session.proofs.server.session.Session.run_waiting.Goals as goal

pub returns-in-Some-Ok : goal.returns-in-Some-Ok
returns-in-Some-Ok g c = λ lines meant.
    c.tell_each.ensures lines c.args.commands.items meant (rw c.as_slice-asked.ensures.value at c.pass_each.ensures)
    (rw (c.in-Some-Ok.field-0-is, c.as_slice-asked.ensures.value, c.as_ref.ensures.value) at c.in-Some-Ok.ensures)

pub returns-in-Some-Err-Fault : goal.returns-in-Some-Err-Fault
returns-in-Some-Err-Fault g c = λ lines meant.
    let failed : IsAnsweredAsAlone g.J.Naming.base g.J.Chapter.setting c.as_slice-asked.result.now (Err Fault) c.args.self.now.last.now =
    rw (c.in-Some-Err-Fault.field-0-is, c.in-Some-Err-Fault.field-0-0-is, c.as_ref.ensures.value) at c.in-Some-Err-Fault.ensures in
    c.tell_fault.ensures lines (rw c.as_slice-asked.ensures.value meant) c.pass_each.ensures failed.group

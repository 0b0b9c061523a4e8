use Rattle.std.proofs.Common.{ap, length, refl, subst, sym, ◌∙◌}
use Rattle.pf_store.specs.Banks.{IsSize, bank_size}
use Rattle.pfd_files.specs.declared.fault.Fault.{Fault}
use Rattle.pfd.specs.Program.{Hinders}
use Rattle.pfd.proofs.Begun.{given-is, own-image, unopened-hinders}
use Rattle.pfd.proofs.program.fresh.open_fresh.Goals as goal

pub returns-in-Ok-clause-given : goal.returns-in-Ok-clause-given
returns-in-Ok-clause-given g c =
    let seen = g.D.Disk.seen c.format.new.disk in
    let nothing = c.in_ok-format.ensures.holds seen (own-image seen (g.D.Disk.unsynced c.format.new.disk)) in
    let (d, held, is, early) = c.in-Ok.ensures.opened in
    given-is seen d c.in-Ok.opening.given held nothing is

pub returns-in-Ok-clause-half : goal.returns-in-Ok-clause-half
returns-in-Ok-clause-half g c = c.in-Ok.ensures.size ∙ ap bank_size (c.in-Ok.ensures.writes.same_size ∙ c.format.ensures.writes.same_size)

pub returns-in-Err-clause-hindered : goal.returns-in-Err-clause-hindered
returns-in-Err-clause-hindered g c =
    let seen = g.D.Disk.seen c.format.new.disk in
    let size = length (g.D.Disk.seen c.args.disk) in
    let own = own-image seen (g.D.Disk.unsynced c.format.new.disk) in
    let nothing = c.in_ok-format.ensures.holds seen own in
    let is : IsSize size = subst IsSize c.size.ensures (c.if-not-is_size.ensures.0 refl) in
    subst (λ (f : Fault). Hinders size f) (sym c.from.ensures)
    (unopened-hinders seen size is c.format.ensures.writes.same_size nothing (c.in_ok-format.ensures.first seen own nothing).0 c.in-Err.fault c.in-Err.ensures.refused)

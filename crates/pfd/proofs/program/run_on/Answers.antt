use Rattle.std.proofs.Common.{ap, inl, ◌∙◌}
use Rattle.pf_store.specs.Banks.{bank_size}
use Rattle.pfd.proofs.program.run_on.Goals as goal

pub returns-in-Ok : goal.returns-in-Ok
returns-in-Ok g c =
    let (d, held, is, early) = c.in-Ok.ensures.opened in
    inl (c.in-Ok.opening, record { kept = d; held = held; early = early; given = is; size = c.in-Ok.ensures.size ∙ ap bank_size c.in-Ok.ensures.writes.same_size }, c.run_alone.ensures)

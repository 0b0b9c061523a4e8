use Rattle.std.proofs.Common.{inl}
use Rattle.pfd.proofs.program.run_alone.Goals as goal

pub returns-in-Ok : goal.returns-in-Ok
returns-in-Ok g c = inl (
  c.serve_alone.result,
  c.session_end.ensures,
  record {
    old = c.in-Ok.book;
    new = c.serve_alone.new.book;
    at = c.in-Ok.ensures.at;
    device = c.in-Ok.ensures.device;
    worlds = c.in-Ok.ensures.worlds;
    session = c.serve_alone.ensures.session;
  },
)

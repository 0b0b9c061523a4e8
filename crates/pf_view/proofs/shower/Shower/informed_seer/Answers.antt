use Rattle.pf_view.proofs.Steps.{admits}
use Rattle.pf_view.proofs.shower.Shower.informed_seer.Goals as goal

pub reader-requires : goal.reader-requires
reader-requires g c = admits g.J.Naming.base g.J.Naming.history

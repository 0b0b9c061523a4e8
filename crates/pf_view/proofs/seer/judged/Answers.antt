use Rattle.pf_view.proofs.Steps.{enters}
use Rattle.pf_view.proofs.seer.judged.Goals as goal

pub enter_as-requires : goal.enter_as-requires
enter_as-requires g c x = enters g.J.Naming.base g.J.Naming.history c.args.reader.place.id _ x

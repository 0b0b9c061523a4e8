use Rattle.std.proofs.Common.{◌≡◌, Some, List, ℕ, sym, ap, ◌∙◌}
use Rattle.pf_addr.proofs.Nesting.{from_main}
use Rattle.pf_addr.proofs.path.reference.Reference.path_from_main.Goals as goal

pub returns : goal.returns
returns c = from_main c.args.self.now c.names.ensures.kept ∙ ap Some (sym c.names.ensures.value)

use Rattle.std.proofs.{lemmas.Bool.Decides.Decides-eqb, lemmas.Slice.Eq.strip_prefix_is}
use Rattle.pf_anchor.proofs.known.rest_after.Goals as goal

pub returns : goal.returns
returns c = strip_prefix_is Decides-eqb _ _ _ c.strip_prefix.ensures.cases

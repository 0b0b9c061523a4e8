use Rattle.pf_parse.proofs.Leniently.{lenient_as_strict}
use Rattle.pf_parse.proofs.laws.lenient_takes_what_strict_takes.Goals as goal

pub returns : goal.returns
returns c = lenient_as_strict

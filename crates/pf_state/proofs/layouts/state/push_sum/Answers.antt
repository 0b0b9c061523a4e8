use Rattle.pf_state.specs.Laws.Layouts.{bytes_fit}
use Rattle.pf_state.proofs.layouts.state.push_sum.Goals as goal

pub returns-clause-fits : goal.returns-clause-fits
returns-clause-fits c = (c.told-sum, bytes_fit c.args.sum.now c.fits-sum)

use Rattle.std.proofs.Common.{sym, ◌∙◌}
use Rattle.wirdalf_c.proofs.Halves.{same_halves}
use Rattle.wirdalf_c.proofs.interface.is_same.Goals as goal

pub returns : goal.returns
returns c = λ is.
    same_halves c.args.one.now c.args.other.now c.told-one c.told-other c.fits-one c.fits-other
    (sym c.halves-first.ensures.first ∙ c.if-first-other_first.false ∙ c.halves-other_first.ensures.first)
    (sym c.halves-first.ensures.last ∙ c.if-last-other_last.false ∙ c.halves-other_first.ensures.last)

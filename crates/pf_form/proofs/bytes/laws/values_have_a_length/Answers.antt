use Rattle.pf_form.specs.Laws.Bytes.Lengths.{length_is}
use Rattle.pf_form.proofs.bytes.laws.values_have_a_length.Goals as goal

pub returns : goal.returns
returns c = λ a f x. length_is f x

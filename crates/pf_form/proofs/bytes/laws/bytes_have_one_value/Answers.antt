use Rattle.pf_form.specs.{Laws.Bytes.Forms.lawful, Laws.Bytes.Texts.one_value}
use Rattle.pf_form.proofs.bytes.laws.bytes_have_one_value.Goals as goal

pub returns-clause-takes : goal.returns-clause-takes
returns-clause-takes c = λ a f bytes x rest h e. (lawful f).takes bytes x rest h e

pub returns-clause-one : goal.returns-clause-one
returns-clause-one c = λ a f bytes x y s t. one_value f bytes x y s t

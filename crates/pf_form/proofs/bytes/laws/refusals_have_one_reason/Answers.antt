use Rattle.pf_form.specs.Laws.Bytes.Texts.{one_refusal, refused_only, wrong_stays}
use Rattle.pf_form.proofs.bytes.laws.refusals_have_one_reason.Goals as goal

pub returns-clause-one : goal.returns-clause-one
returns-clause-one c = λ a f bytes d e h s t. one_refusal f bytes d e h s t

pub returns-clause-read : goal.returns-clause-read
returns-clause-read c = λ a f bytes d h s. refused_only f bytes d h s

pub returns-clause-stays : goal.returns-clause-stays
returns-clause-stays c = λ a f bytes left more wrong. wrong_stays f bytes left more wrong

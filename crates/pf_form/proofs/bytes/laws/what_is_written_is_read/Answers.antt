use Rattle.std.proofs.Common.{sym}
use Rattle.pf_form.specs.Laws.Bytes.Forms.{lawful}
use Rattle.pf_form.proofs.bytes.laws.what_is_written_is_read.Goals as goal

pub returns-clause-again : goal.returns-clause-again
returns-clause-again c = λ a f x rest fits. (lawful f).again x rest fits

pub returns-clause-short : goal.returns-clause-short
returns-clause-short c = λ a f x front b more s. (lawful f).short x front b more s.fits (sym s.written)

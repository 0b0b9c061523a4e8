use Rattle.std.proofs.Common.{ap, ◌∙◌, Ok}
use Rattle.pf_core.specs.declared.step.ReadyStep.{ReadyStep}
use Rattle.pf_core.specs.Cores.{plain}
use Rattle.pf_book.proofs.course.Course.take.Goals as goal

pub unreachable-requires : goal.unreachable-requires
unreachable-requires c = c.requires.own c.in-Ok-OfHistory.field-0-0 (ap plain (c.in-Ok-OfHistory.is ∙ ap (λ (x : ReadyStep). Ok x) c.in-Ok-OfHistory.field-0-is))

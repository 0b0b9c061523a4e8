use Rattle.std.proofs.Common.{refl}
use Rattle.pf_store.proofs.store.replaying.first_kept.Goals as goal

pub returns-in-Err-NoForm-clause-refused : goal.returns-in-Err-NoForm-clause-refused
returns-in-Err-NoForm-clause-refused c = (λ d is. c.in-Err-NoForm.ensures.none c.in-Err-NoForm.field-0-is d is, refl)

use Rattle.std.proofs.Common.{List, sym, subst}
use Rattle.pf_store.specs.declared.encoding.recorded.Recorded.{Recorded}
use Rattle.pf_store.specs.Groups.{IsRecorded}
use Rattle.pf_store.proofs.Leading.{none_follows}
use Rattle.pf_store.proofs.store.replaying.follow.Goals as goal

pub returns-in-Ok-clause-none : goal.returns-in-Ok-clause-none
returns-in-Ok-clause-none c =
    none_follows c.args.version c.left_by_all.result c.as_slice.result.now c.args.durable c.args.payload.now
    (subst (λ (rs : List Recorded). IsRecorded c.args.version rs c.args.payload.now) (sym c.as_slice.ensures.value) c.in-Ok.ensures.found) c.left_by_all.ensures.none

pub returns-clause-none : goal.returns-clause-none
returns-clause-none c is xs here follows = c.in-Err-NoForm.ensures.none c.in-Err-NoForm.field-0-is xs here

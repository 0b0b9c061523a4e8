use Rattle.std.proofs.Common.{refl}
use Rattle.pf_store.proofs.{Allowing.recorded_allowed, Sized.payload_long, RecordedForms.{one_group, recorded_formed}}
use Rattle.pf_store.proofs.encoding.laws.payloads_tell_one_group.Goals as goal

pub returns-clause-one : goal.returns-clause-one
returns-clause-one c = one_group

pub returns-clause-formed : goal.returns-clause-formed
returns-clause-formed c = λ version rs payload is. rw (recorded_formed version rs payload is, recorded_allowed version rs payload is) refl

pub returns-clause-length : goal.returns-clause-length
returns-clause-length c = λ version rs payload is. payload_long version rs payload is

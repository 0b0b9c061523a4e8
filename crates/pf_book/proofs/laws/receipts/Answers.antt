use Rattle.std.proofs.Common.{Some, refl}
use Rattle.pf_book.proofs.LockedCalls.{front-begins, change-longer, applied-is, applied-acked, stored-is, stored-acked, still-acked, still-shown}
use Rattle.pf_book.proofs.laws.receipts.Goals as goal

pub returns-clause-begins : goal.returns-clause-begins
returns-clause-begins d base setting c r slip last a = front-begins a.before c r a.came slip last.front a.front a.change (a.follows last refl).0

pub returns-clause-acked : goal.returns-clause-acked
returns-clause-acked d base setting c r slip last a = still-acked base setting c slip (Some last) r last refl a

pub returns-clause-shown : goal.returns-clause-shown
returns-clause-shown d base setting c r slip last a = still-shown base setting c slip (Some last) r last refl a

pub returns-clause-fewer : goal.returns-clause-fewer
returns-clause-fewer d base setting c r slip last e a is = change-longer a.before c r slip e last.front a.change is (a.follows last refl).0

pub returns-clause-applied : goal.returns-clause-applied
returns-clause-applied d base setting c seq o slip last a = (applied-is base setting c slip last seq o a, applied-acked base setting c slip last seq o a)

pub returns-clause-stored : goal.returns-clause-stored
returns-clause-stored d base setting c seq o slip last a = (stored-is base setting c slip last seq o a, stored-acked base setting c slip last seq o a)

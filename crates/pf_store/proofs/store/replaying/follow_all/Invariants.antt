use Rattle.std.proofs.Common.{◌≡◌, ◌+◌, length, take}
use Rattle.pf_journal.specs.Records.{records, contents}
use Rattle.pf_store.specs.Stores.{Leads}
use Rattle.pf_store.proofs.store.replaying.follow_all.Given as goal

abbrev pub invariant-loop-payload : goal.invariant-loop-payload
invariant-loop-payload l = Leads l.version l.fn.first (contents (take l.payload-index l.payloads)) l.durable × (l.gate ≡ l.start + length (records (contents (take l.payload-index l.payloads))))

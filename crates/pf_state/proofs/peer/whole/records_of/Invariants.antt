use Rattle.std.proofs.Common.{◌≡◌, ◌*◌, ◌-◌, ◌≤◌, ◌++◌, length, Ok}
use Rattle.pf_state.specs.declared.peer.record.TheConstants.{RECORD_LENGTH}
use Rattle.pf_state.specs.Peer.Groups.{records_of, ◌>>=◌}
use Rattle.pf_state.proofs.peer.whole.records_of.Given as goal

abbrev pub invariant-loop : goal.invariant-loop
invariant-loop g l =
    let reading = g.T.PeerRecord.reading in
    record {
      reported : (records_of reading (l.count - l.counter) l.rest >>= λ xs. Ok (l.records.items ++ xs)) ≡ records_of reading l.fn.count l.fn.bytes;
      enough : RECORD_LENGTH * (l.count - l.counter) ≤ length l.rest;
    }

use Rattle.std.proofs.Common.{◌≡◌, ◌∷◌, ◌++◌, take, length}
use Rattle.std.specs.List.{All, flat_map}
use Rattle.byteorder.specs.Endian.{big_bytes}
use Rattle.pf_state.proofs.peer.writing.push_records.Given as goal

abbrev pub invariant-loop-record : goal.invariant-loop-record
invariant-loop-record g l = record {
  written : l.out.items ≡ l.fn.out.items
      ++ (l.fn.action ∷ 0 ∷ (big_bytes 2 (length l.fn.records) ++ flat_map g.T.PeerRecord.writing (take l.record-index l.fn.records)));
  kept : All g.T.PeerRecord.keeps (take l.record-index l.fn.records);
}

use Rattle.std.proofs.Common.{arith}
use Rattle.pf_form.specs.Laws.Bytes.Steps.{bytes_of}
use Rattle.pf_state.proofs.Inserts.{says_insert}
use Rattle.pf_state.proofs.peer.record.InsertPeerRecord.from_row.Goals as goal

pub returns : goal.returns
returns c = says_insert c.args.row.now c.decode.result (bytes_of _ (λ i. omega (arith, c.type_inv.row i))) c.decode.ensures.found c.decode.ensures.refused

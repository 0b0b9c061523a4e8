-- Any thread may have a configuration: its box may go to any, and any may free it.
use Rattle.std.proofs.Common.{Option, Some, None}
use mir.Raw.{raw}
use base.Fraction.{full_share}
use base.Shift.{Keyless}
use denote.Exit.{Exit, unchanged, leaves, hidden, under}
use denote.Memory.{lone}
use denote.RawPtr.{Ptr, block_ptr, null_ptr, lies_at}
use denote.Struct.Struct.{exits_of}
use denote.Struct.Owning.{shape, fields, to}
use denote.Param.Send.{IsSend, Quiet, AllSend, part_keyless, owning_send, struct_send, sendable}
use Rattle.std.proofs.Crossing as any
use Rattle.pf_core.specs.Durable.Changes.{PlainDurable}
use Rattle.wirdalf_c.specs.Owned.{heap, holds}
use Rattle.wirdalf_c.specs.contracts.holding.Holding as holding
use Rattle.wirdalf_c.proofs.holding.Holding.TheSendSync.{the_send as holding_send}
use Rattle.wirdalf_c.specs.contracts.configuration.Configuration.{the_row, the_type}

lies_keyless : (p : Ptr) (d : PlainDurable) → Keyless (lies_at holding.the_row full_share p d)
lies_keyless (block_ptr b o) d = part_keyless holding.the_row holding_send full_share d b o
lies_keyless null_ptr d = tt

holds_keyless : (p : Ptr) (held : Option PlainDurable) → Keyless (holds p held)
holds_keyless p None = tt
holds_keyless p (Some d) = (lies_keyless p d, any.frees.frees heap (raw (lone (holding.the_row).mir)) p)

quiet : {D X : Type 0} (values : D → X) (e : Exit X) → Quiet e → Quiet (hidden (under values e))
quiet values unchanged q = λ d w. tt
quiet values (leaves L l S s r₀) q = λ d. q (values d)

pub send : IsSend the_row
send =
    let all : AllSend (fields the_type) = (search sendable, tt) in
    owning_send the_type all (λ c. holds_keyless c.at c.held) (λ k. quiet (to the_type) (exits_of k (fields the_type)) ((struct_send (shape the_type) all).leaving k))

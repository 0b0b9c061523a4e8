use Rattle.std.proofs.Common.{◌-◌, length, arith, sym, append_assoc}
use Rattle.std.specs.Prelude.{replicate}
use Rattle.pf_form.specs.{Bytes.Names.filled, Laws.Bytes.Steps.bytes_of}
use Rattle.pf_form.proofs.{BytesFilled.bytes_filled, BytesRead.pushed_bytes}
use Rattle.pf_form.proofs.bytes.names.push_padded.Goals as goal

pub returns : goal.returns
returns c =
    let e = pushed_bytes (filled c.args.width c.args.name.now) c.args.out.now.items (bytes_filled c.args.width c.args.name.now (bytes_of c.args.name.now (λ i. omega (arith, c.type_inv.name i)))) in
    let f = c.push_zeros.ensures in
    let g = c.in_ok-push_bytes.ensures.constant in
    rw (e, sym (append_assoc c.args.out.now.items c.args.name.now (replicate (c.args.width - length c.args.name.now) 0)), sym g) f

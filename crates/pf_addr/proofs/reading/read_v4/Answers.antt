use Rattle.std.proofs.Common.{rules, sym, inl, inr, arith}
use Rattle.pf_addr.proofs.Addresses.{v4_fault, v4_read, v4_wrong}
use Rattle.pf_addr.proofs.reading.read_v4.Goals as goal

pub returns-in_err-parts : goal.returns-in_err-parts
returns-in_err-parts c = rw (v4_fault c.args.fewest c.args.at c.args.text.now c.in_err-parts.field-0.0 c.in_err-parts.ensures) (search rules)

pub returns-then-parts-fewest : goal.returns-then-parts-fewest
returns-then-parts-fewest c =
    let wrong = v4_wrong c.args.fewest c.args.at c.args.text.now c.in_ok-parts.parts c.in_ok-parts.ensures in
    elim c.then-parts-fewest.either [ inl few ↦ sym (wrong (inl few)) | inr many ↦ sym (wrong (inr many.1)) ]

pub returns : goal.returns
returns c = rw (v4_read c.args.fewest c.args.at c.args.text.now c.in_ok-parts.parts c.in_ok-parts.ensures (omega arith) (omega arith)) (search rules)

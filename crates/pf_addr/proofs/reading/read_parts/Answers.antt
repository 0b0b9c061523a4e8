use Rattle.std.proofs.Common.{rules, Ok, sym, ap}
use Rattle.pf_addr.specs.{Collected.parts_of, Reading.{part_at, single}}
use Rattle.pf_addr.proofs.Numbers.{no_text, at_start, at_next, at_fault, at_last, part_pushed}
use Rattle.pf_addr.proofs.reading.read_parts.Goals as goal

pub returns-then-is_empty : goal.returns-then-is_empty
returns-then-is_empty c = no_text part_at (single part_at) 46 parts_of c.args.at c.args.text.now (search rules)

pub loop-dot-init : goal.loop-dot-init
loop-dot-init c = at_start part_at (single part_at) 46 parts_of c.args.at c.args.text.now (search rules)

pub returns-in_err-read_part : goal.returns-in_err-read_part
returns-in_err-read_part c =
    let bad = at_fault part_at (single part_at) 46 parts_of c.args.at c.args.text.now c.loop-dot.parts c.loop-dot.at c.loop-dot.rest.now c.in-Some.dot c.in_err-read_part.field-0.0 c.loop-dot.invariant (sym c.in-Some.ensures.place) c.in-Some.ensures.bound c.in_err-read_part.ensures in
    rw (← bad) (search rules)

pub loop-dot-preserved : goal.loop-dot-preserved
loop-dot-preserved c =
    let kept = part_pushed c.loop-dot.invariant.done c.in_ok-read_part.field-0 c.loop-dot.parts c.push.new.self c.loop-dot.invariant.is c.push.ensures.count c.push.ensures.bytes in
    at_next part_at (single part_at) 46 parts_of c.args.at c.args.text.now c.loop-dot.parts c.push.new.self c.loop-dot.at c.loop-dot.rest.now c.in-Some.dot c.in_ok-read_part.field-0 c.loop-dot.invariant (sym c.in-Some.ensures.place) c.in-Some.ensures.bound c.in_ok-read_part.ensures kept

pub returns-in_err-read_part-2 : goal.returns-in_err-read_part-2
returns-in_err-read_part-2 c =
    let last = at_last part_at (single part_at) 46 parts_of c.args.at c.args.text.now c.loop-dot.parts c.loop-dot.at c.loop-dot.rest.now c.loop-dot.invariant (search rules) in
    rw (← last, ← c.in_err-read_part-2.ensures) (search rules)

pub returns : goal.returns
returns c =
    let last = at_last part_at (single part_at) 46 parts_of c.args.at c.args.text.now c.loop-dot.parts c.loop-dot.at c.loop-dot.rest.now c.loop-dot.invariant (search rules) in
    rw (← last, ← c.in_ok-read_part-2.ensures) (ap (λ p. Ok p) (part_pushed c.loop-dot.invariant.done c.in_ok-read_part-2.field-0 c.loop-dot.parts c.push-2.new.self c.loop-dot.invariant.is c.push-2.ensures.count c.push-2.ensures.bytes))

use Rattle.std.proofs.Common.{rules, ap, ◌∙◌, append_assoc, Ok}
use Rattle.pf_addr.specs.Collected.{groups_of}
use Rattle.pf_addr.proofs.{Addresses.{last_v4_fault, last_v4, last_group_fault, last_group}, Numbers.group_pushed}
use Rattle.pf_addr.proofs.ipv6_text.push_last.Goals as goal

pub returns-in_err-number : goal.returns-in_err-number
returns-in_err-number c before is = rw (last_v4_fault before c.args.ends c.args.at c.args.text.now c.in_err-number.field-0.0 (search rules) c.in_err-number.ensures) (search rules)

pub returns-then-may_be_v4 : goal.returns-then-may_be_v4
returns-then-may_be_v4 c before is =
    let high = group_pushed before _ c.args.groups c.push.new.self is c.push.ensures.count c.push.ensures.numbers in
    let low = group_pushed _ _ c.push.new.self c.push-then-may_be_v4.new.self high c.push-then-may_be_v4.ensures.count c.push-then-may_be_v4.ensures.numbers in
    rw (last_v4 before c.args.ends c.args.at c.args.text.now c.in_ok-number.number (search rules) c.in_ok-number.ensures) (ap (λ g. Ok g) (low ∙ ap groups_of (append_assoc before _ _)))

pub returns-in_err-read_group : goal.returns-in_err-read_group
returns-in_err-read_group c before is = rw (last_group_fault before c.args.ends c.args.at c.args.text.now c.in_err-read_group.field-0.0 (search rules) c.in_err-read_group.ensures) (search rules)

pub returns : goal.returns
returns c before is =
    rw (last_group before c.args.ends c.args.at c.args.text.now c.in_ok-read_group.field-0 (search rules) c.in_ok-read_group.ensures)
    (ap (λ g. Ok g) (group_pushed before c.in_ok-read_group.field-0 c.args.groups c.push-2.new.self is c.push-2.ensures.count c.push-2.ensures.numbers))

use Rattle.std.proofs.Common.{rules, sym, ◌∙◌}
use Rattle.pf_addr.specs.{Collected.groups_of, Reading.{group_at, end_at}}
use Rattle.pf_addr.proofs.Numbers.{no_text, at_start, at_next, at_fault, at_last, group_pushed}
use Rattle.pf_addr.proofs.ipv6_text.read_groups.Goals as goal

pub returns-then-is_empty : goal.returns-then-is_empty
returns-then-is_empty c = no_text group_at (end_at c.args.ends) 58 groups_of c.args.at c.args.text.now (search rules)

pub loop-colon-init : goal.loop-colon-init
loop-colon-init c = at_start group_at (end_at c.args.ends) 58 groups_of c.args.at c.args.text.now (search rules)

pub returns-in_err-read_group : goal.returns-in_err-read_group
returns-in_err-read_group c =
    let bad = at_fault group_at (end_at c.args.ends) 58 groups_of c.args.at c.args.text.now c.loop-colon.groups c.loop-colon.at c.loop-colon.rest.now c.in-Some.colon c.in_err-read_group.field-0.0 c.loop-colon.invariant (sym c.in-Some.ensures.place) c.in-Some.ensures.bound c.in_err-read_group.ensures in
    rw (← bad) (search rules)

pub loop-colon-preserved : goal.loop-colon-preserved
loop-colon-preserved c =
    let kept = group_pushed c.loop-colon.invariant.done c.in_ok-read_group.field-0 c.loop-colon.groups c.push.new.self c.loop-colon.invariant.is c.push.ensures.count c.push.ensures.numbers in
    at_next group_at (end_at c.args.ends) 58 groups_of c.args.at c.args.text.now c.loop-colon.groups c.push.new.self c.loop-colon.at c.loop-colon.rest.now c.in-Some.colon c.in_ok-read_group.field-0 c.loop-colon.invariant (sym c.in-Some.ensures.place) c.in-Some.ensures.bound c.in_ok-read_group.ensures kept

pub returns : goal.returns
returns c =
    let last = at_last group_at (end_at c.args.ends) 58 groups_of c.args.at c.args.text.now c.loop-colon.groups c.loop-colon.at c.loop-colon.rest.now c.loop-colon.invariant (search rules) in
    c.push_last.ensures c.loop-colon.invariant.done c.loop-colon.invariant.is ∙ last

use Rattle.std.proofs.{Common.{◌+◌, ◌<◌, rules, refl, sym, ap, Ok, arith}, lemmas.List.take_rest}
use Rattle.pf_addr.proofs.{Addresses.{whole_fault, whole_wrong, whole_read, front_fault, back_fault, cut_wrong, cut_read}, ipv6_text.read_v6.Goals.{then-front-ge-GROUPS-via-then-front-ge-GROUPS, then-front-ge-GROUPS-via-else-front-ge-GROUPS+then-back-front}}
use Rattle.pf_addr.proofs.ipv6_text.read_v6.Goals as goal

pub returns-in_err-groups : goal.returns-in_err-groups
returns-in_err-groups c = rw (whole_fault c.args.text.now c.in_err-groups.field-0.0 (search rules) c.in_err-groups.ensures) (search rules)

pub returns-then-groups-ne-GROUPS : goal.returns-then-groups-ne-GROUPS
returns-then-groups-ne-GROUPS c = sym (whole_wrong c.args.text.now c.in_ok-groups.groups (search rules) c.in_ok-groups.ensures (search rules))

pub returns-in_default : goal.returns-in_default
returns-in_default c = rw (whole_read c.args.text.now c.in_ok-groups.groups (search rules) c.in_ok-groups.ensures (search rules)) (search rules)

pub returns-in_err-front : goal.returns-in_err-front
returns-in_err-front c = rw (front_fault c.args.text.now c.in-Some.gap c.in_err-front.field-0.0 (sym c.in-Some.ensures.place) c.in_err-front.ensures) (search rules)

pub returns-in_err-back : goal.returns-in_err-back
returns-in_err-back c =
    let back = rw (take_rest c.args.text.now (c.in-Some.gap + 2)) at c.in_err-back.ensures in
    rw (back_fault c.args.text.now c.in-Some.gap c.in_ok-front.front c.in_err-back.field-0.0 (sym c.in-Some.ensures.place) c.in_ok-front.ensures back) (search rules)

pub returns-then-front-ge-GROUPS : goal.returns-then-front-ge-GROUPS
returns-then-front-ge-GROUPS c =
    let back = rw (take_rest c.args.text.now (c.in-Some.gap + 2)) at c.in_ok-back.ensures in
    let many : 7 < c.in_ok-front.front.count + c.in_ok-back.back.count = elim c.then-front-ge-GROUPS.branch [ then-front-ge-GROUPS-via-then-front-ge-GROUPS w ↦ omega arith | then-front-ge-GROUPS-via-else-front-ge-GROUPS+then-back-front w ↦ omega arith ] in
    sym (cut_wrong c.args.text.now c.in-Some.gap c.in_ok-front.front c.in_ok-back.back (sym c.in-Some.ensures.place) c.in_ok-front.ensures back many)

pub returns : goal.returns
returns c =
    let back = rw (take_rest c.args.text.now (c.in-Some.gap + 2)) at c.in_ok-back.ensures in
    rw (cut_read c.args.text.now c.in-Some.gap c.in_ok-front.front c.in_ok-back.back (sym c.in-Some.ensures.place) c.in_ok-front.ensures back (omega arith)) (ap (λ n. Ok n) (rw (c.number_of-2.ensures, c.around.ensures) refl))

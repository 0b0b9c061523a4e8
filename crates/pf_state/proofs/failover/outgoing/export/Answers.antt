use Rattle.std.proofs.{Common.{length, map, take, drop, ap, ◌∙◌}, lemmas.List.map-append}
use Rattle.pf_state.specs.Failover.Outgoing.{parts}
use Rattle.pf_state.proofs.ExportParts.{one_more_part, all_parts, one_read_more, all_read, read_in_turn, part_fits, part_long, split_off, some_left, none_left, counted_on}
use Rattle.pf_state.proofs.failover.outgoing.export.Goals as goal

pub written-requires : goal.written-requires
written-requires c = rw (c.deref.ensures.value, c.in_ok-part.ensures.part) (part_fits c.loop-message.rest)

pub loop-message-preserved : goal.loop-message-preserved
loop-message-preserved c =
    let current = c.args.current.now in
    let rest = c.loop-message.rest in
    let part = take 31 rest in
    let following = drop 31 rest in
    let bytes = c.in_ok-written.field-0.items in
    let is_written = rw (c.deref.ensures.value, c.in_ok-part.ensures.part) at c.in_ok-written.ensures.written in
    let is_read = rw (c.deref.ensures.value, c.in_ok-part.ensures.part) at c.in_ok-written.ensures.read in
    let more = rw (c.div_ceil-message-end.ensures, c.len.ensures) at c.loop-message-test.true in
    let some = some_left rest c.loop-message.message (length c.args.states.now) c.loop-message.invariant.count more in
    let grown = ap (map (λ m. m.items)) c.in_ok-push.ensures.items ∙ map-append (λ m. m.items) c.loop-message.messages.items _ in
    rw c.in_ok-part.ensures.left record {
      reported = one_more_part current rest part following _ _ _ bytes (split_off rest) (part_long rest) some is_written grown c.loop-message.invariant.reported;
      read = one_read_more current rest part following bytes _ (split_off rest) (part_long rest) some is_written is_read c.loop-message.invariant.read;
      count = counted_on rest c.loop-message.message _ some c.loop-message.invariant.count;
    }

pub returns-clause-read : goal.returns-clause-read
returns-clause-read c =
    let current = c.args.current.now in
    let rest = c.loop-message.rest in
    let end = rw (c.div_ceil-message-end.ensures, c.len.ensures) at c.loop-message-test.false in
    let none = none_left rest c.loop-message.message (length c.args.states.now) c.loop-message.invariant.count end in
    rw (all_parts current rest _ _ none c.loop-message.invariant.reported)
    (read_in_turn current (parts c.args.states.now) (all_read current rest _ none c.loop-message.invariant.read))

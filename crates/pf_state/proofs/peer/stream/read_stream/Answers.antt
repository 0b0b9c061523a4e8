use Rattle.std.proofs.Common.{inl, ap}
use Rattle.pf_state.proofs.Headers.{one_more_message, unfinished_here, faulty_here, cut_at, begins_broken, judged_message}
use Rattle.pf_state.proofs.peer.stream.read_stream.Goals as goal

pub returns-in-Partial : goal.returns-in-Partial
returns-in-Partial c = unfinished_here c.args.bytes.now c.loop-size.rest.now c.new.result.rest.now c.loop-size.messages.items c.new.result.messages.items c.new.result.fault c.loop-size.invariant
    (ap (λ v. v.items) c.new.ensures.messages) c.new.ensures.fault c.new.ensures.rest c.in-Partial.ensures

pub returns-in-Bad : goal.returns-in-Bad
returns-in-Bad c = faulty_here c.args.bytes.now c.loop-size.rest.now c.new-in-Bad.result.rest.now c.loop-size.messages.items c.new-in-Bad.result.messages.items c.new-in-Bad.result.fault c.in-Bad.fault c.loop-size.invariant
    (ap (λ v. v.items) c.new-in-Bad.ensures.messages) c.new-in-Bad.ensures.fault (inl c.in-Bad.ensures)

pub returns-in-Err : goal.returns-in-Err
returns-in-Err c =
    let split = cut_at c.loop-size.rest.now c.split_at.result.0.now c.split_at.result.1.now c.in-Whole.size c.split_at.ensures.front c.split_at.ensures.back in
    faulty_here c.args.bytes.now c.loop-size.rest.now c.new-in-Err.result.rest.now c.loop-size.messages.items c.new-in-Err.result.messages.items c.new-in-Err.result.fault c.in-Err.fault c.loop-size.invariant
    (ap (λ v. v.items) c.new-in-Err.ensures.messages) c.new-in-Err.ensures.fault
    (begins_broken c.loop-size.rest.now c.split_at.result.0.now c.split_at.result.1.now c.in-Err.fault c.in_ok-message.field-0 split c.in_ok-message.ensures c.in-Err.is)

pub loop-size-preserved : goal.loop-size-preserved
loop-size-preserved c =
    let split = cut_at c.loop-size.rest.now c.split_at.result.0.now c.split_at.result.1.now c.in-Whole.size c.split_at.ensures.front c.split_at.ensures.back in
    let is = judged_message c.split_at.result.0.now c.in-Ok.message c.in_ok-message.field-0 c.in_ok-message.ensures c.in-Ok.is in
    λ ms e read. rw c.in_ok-push-in-Ok.ensures.items
    (one_more_message c.args.bytes.now c.loop-size.rest.now c.split_at.result.0.now c.split_at.result.1.now c.loop-size.messages.items c.in-Ok.message c.loop-size.invariant split is ms e read)

use Rattle.std.proofs.Common.{◌∙◌, ap}
use Rattle.pf_state.specs.{declared.state.StateName.StateName, Ids.with_name}
use Rattle.pf_state.proofs.{Counting.{counts_deleted}, Listed.lists_inserted}
use Rattle.pf_state.proofs.change.act.Goals as goal

pub returns-in_ok-without-in-Delete-clause-counted : goal.returns-in_ok-without-in-Delete-clause-counted
returns-in_ok-without-in-Delete-clause-counted c =
    c.taken_out.ensures.counted
    ∙ rw (c.len-before.ensures, c.in_ok-without-in-Delete.ensures, c.in-Delete.is) (counts_deleted c.args.states c.in-Delete.name c.requires.names)

pub returns-in_ok-left-in-Insert-clause-lists : goal.returns-in_ok-left-in-Insert-clause-lists
returns-in_ok-left-in-Insert-clause-lists c =
    rw c.in_ok-left-in-Insert.ensures.after
    (lists_inserted c.args.states c.in-Insert.new c.args.ids.now c.add.new.self c.requires.lists
    (λ creator. c.in_ok-add-in-Insert.ensures creator ∙ ap (λ (n : StateName). with_name c.args.ids.now n creator) c.key.ensures))

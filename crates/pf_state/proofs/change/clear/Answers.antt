use Rattle.std.proofs.{Common.{List, subst}, lemmas.Bool.eq-eqb}
use Rattle.pf_state.specs.States.{PlainState}
use Rattle.pf_state.proofs.Indexed.{Clearing, clearing_one, cleared}
use Rattle.pf_state.proofs.change.clear.Goals as goal

pub loop-state-preserved-then-key-creator : goal.loop-state-preserved-then-key-creator
loop-state-preserved-then-key-creator c =
    let his = eq-eqb c.in-Some.state.now.0.creator c.args.creator (rw c.key.ensures at c.if-key-creator.true) in
    rw (c.in_ok-left.ensures, c.key-then-key-creator.ensures)
    (clearing_one c.args.states c.args.creator c.in-Some.state.now c.next.new.self c.loop-state.left
    (subst (λ (rest : List PlainState). Clearing c.args.states c.args.creator rest c.loop-state.left) c.in-Some.ensures.steps c.loop-state.invariant) his)

pub returns : goal.returns
returns c =
    cleared c.args.states c.args.creator c.loop-state.left c.requires
    (subst (λ (rest : List PlainState). Clearing c.args.states c.args.creator rest c.loop-state.left) c.in-None.ensures.steps.0 c.loop-state.invariant)

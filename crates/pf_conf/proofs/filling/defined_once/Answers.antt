use Rattle.std.proofs.Common.{take, sym, ap, ◌∙◌, arith}
use Rattle.pf_parse.specs.Reading.{Word}
use Rattle.pf_conf.specs.Filling.{is_defined}
use Rattle.pf_conf.proofs.Defined.{named_more, was_there, was_new, from_next, from_here, from_end}
use Rattle.pf_conf.proofs.filling.defined_once.Goals as goal

pub returns-then-not-branch-clause-once : goal.returns-then-not-branch-clause-once
returns-then-not-branch-clause-once c =
    from_here c.args.tables.now c.loop-number.number c.index-tables-number.result c.loop-number-test.true c.index-tables-number.is
    (ap (λ (w : Word). is_defined w (take c.loop-number.number c.args.tables.now)) (sym c.as_slice.ensures) ∙ sym (c.loop-number.invariant.0 c.as_slice.result)
    ∙ was_there _ _ c.in_ok-insert.ensures.added c.if-not-branch.true)
    c.loop-number.invariant.1

pub loop-number-preserved : goal.loop-number-preserved
loop-number-preserved c = (
  named_more c.loop-number.names c.insert.new.self c.args.tables.now c.loop-number.number c.index-tables-number.result c.as_slice.result c.loop-number-test.true c.index-tables-number.is c.as_slice.ensures
      c.in_ok-insert.ensures.updates.0 c.loop-number.invariant.0,
  from_next c.args.tables.now c.loop-number.number c.index-tables-number.result c.loop-number-test.true c.index-tables-number.is
      (ap (λ (w : Word). is_defined w (take c.loop-number.number c.args.tables.now)) (sym c.as_slice.ensures) ∙ sym (c.loop-number.invariant.0 c.as_slice.result)
      ∙ was_new _ _ c.in_ok-insert.ensures.added c.if-not-branch.false)
      c.loop-number.invariant.1,
)

pub returns-clause-once : goal.returns-clause-once
returns-clause-once c =
    let end = from_end c.args.tables.now c.loop-number.number c.loop-number-test.false c.loop-number.invariant.1 in
    omega (arith, end, c.loop-number-test.false, c.loop-number.auto.number-end)

use Rattle.std.proofs.{Common.{◌∙◌, sym, arith, length-drop}, lemmas.List.take_all}
use Rattle.pf_values.proofs.InterfacesSteps.{no_token, next_token, some_given}
use Rattle.pf_values.proofs.interfaces.addresses.with_addresses.Goals as goal

pub loop-at-preserved : goal.loop-at-preserved
loop-at-preserved c = record {
  deep = omega (arith, c.in_ok-reading.ensures.deep, c.loop-at.invariant.deep);
  rest = next_token c.args.interfaces.now c.args.tokens.now _ c.loop-at.at c.loop-at.known c.take_token.new.known c.loop-at.reading.more
      c.in_ok-reading.reading.more c.loop-at.reading.context c.in_ok-reading.reading.context _
      (take_all _ _ (omega (arith, length-drop c.loop-at.at c.args.tokens.now))) c.in_ok-reading.ensures.goes c.loop-at.invariant.rest;
}

pub returns : goal.returns
returns c =
    sym (no_token c.args.interfaces.now c.loop-at.reading.more c.loop-at.reading.context c.args.tokens.now c.loop-at.at c.loop-at.known
    (omega arith))
    ∙ c.loop-at.invariant.rest ∙ some_given c.args.interfaces.now c.args.tokens.now c.requires

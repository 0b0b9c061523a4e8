-- The three ways of a step: a pair, a byte, the last byte; and the end.
use Rattle.std.proofs.Common.{◌+◌, get_or, refl, arith}
use Rattle.pf_tokens.proofs.Pairs.{after_pair_is, after_one_is, after_last_is, all_is, line-after_pair, column-after_pair, line-after, column-after}
use Rattle.pf_tokens.specs.{Places.place_after, Placed.{placed, place_after_pair}}
use Rattle.pf_tokens.proofs.placing.placed.Goals.{else-byte-eq92-via-then-byte-eq92+else-at-text, else-byte-eq92-via-else-byte-eq92}
use Rattle.pf_tokens.proofs.placing.placed.Goals as goal

pub loop-at-preserved-then-at-text : goal.loop-at-preserved-then-at-text
loop-at-preserved-then-at-text c =
    let was = c.loop-at.invariant in
    let text = c.args.text.now in
    let next = get_or text (c.loop-at.at + 1) 0 in
    let at_line = line-after_pair c.loop-at.place next in
    let at_column = column-after_pair c.loop-at.place next in
    rw c.in_ok-place.ensures.place (record {
      within = omega arith;
      is = after_pair_is (placed c.args.start text) c.loop-at.out c.loop-at.place text c.loop-at.at was.is c.push_pair.new.out (place_after_pair c.loop-at.place next) c.if-at-text.true c.if-byte-eq92.true c.in_ok-place.ensures.out refl;
      line = omega (arith, was.line, at_line, c.if-at-text.true);
      column = omega (arith, was.column, at_column, c.if-at-text.true);
    })

pub loop-at-preserved : goal.loop-at-preserved
loop-at-preserved c =
    let was = c.loop-at.invariant in
    let text = c.args.text.now in
    let byte = get_or text c.loop-at.at 0 in
    let at_line = line-after c.loop-at.place byte in
    let at_column = column-after c.loop-at.place byte in
    rw c.place_after-place.ensures (record {
      within = omega arith;
      is = elim c.else-byte-eq92.branch [
        | else-byte-eq92-via-then-byte-eq92+else-at-text w ↦ after_last_is (placed c.args.start text) c.loop-at.out c.loop-at.place text c.loop-at.at was.is c.push.new.self (place_after byte c.loop-at.place) c.loop-at-test.true w.if-at-text.false c.in_ok-push.ensures.ok refl
        | else-byte-eq92-via-else-byte-eq92 w ↦ after_one_is (placed c.args.start text) c.loop-at.out c.loop-at.place text c.loop-at.at was.is c.push.new.self (place_after byte c.loop-at.place) c.loop-at-test.true w.if-byte-eq92.false c.in_ok-push.ensures.ok refl
      ];
      line = omega (arith, was.line, at_line, c.loop-at-test.true);
      column = omega (arith, was.column, at_column, c.loop-at-test.true);
    })

pub returns : goal.returns
returns c =
    let text = c.args.text.now in
    all_is (placed c.args.start text) c.loop-at.out c.loop-at.place text c.loop-at.at c.loop-at.invariant.is c.push-2.new.self c.loop-at-test.false c.in_ok-push-2.ensures.ok

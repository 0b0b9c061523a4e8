use Rattle.std.proofs.Common.{ℕ, List, sym, ap, subst, ◌∙◌}
use Rattle.pf_anchor.specs.{declared.{evaluated.Evaluated.Evaluated}, Matches.PlainMatch, Rulesets.PlainPlaced, Evaluation.matching, Answered.AreNamed, Known.{ruleset_gives, IsListing}}
use Rattle.pf_anchor.proofs.EachKnown.{enough_here, sorted_here, still_few, still_listed, one_more_given, one_more_onward}
use Rattle.pf_anchor.proofs.in_order.evaluate_each.Goals as goal

pub evaluate_known-gives-requires : goal.evaluate_known-gives-requires
evaluate_known-gives-requires c =
    let config = c.args.config.now in
    let loop = c.loop-left in
    let listing = subst (IsListing config.rulesets) (sym loop.invariant.listed) c.requires.listed in
    record {
      rulesets = enough_here loop.table loop.left c.index-all-number.result c.loop-left-test.true loop.invariant.few c.index-all-number.is config.rulesets (matching config.tables c.args.packet.now)
          c.placed-placed.result.now listing loop.invariant.given loop.invariant.onward c.placed-placed.ensures;
      tables = subst (λ (p : List ℕ). AreNamed c.args.packet.now config.tables p c.named_by.result.own.now c.named_by.result.main.now) c.key.ensures
          (c.named_by.ensures c.args.packet.now config.tables c.requires.tables);
    }

pub found-found-requires-clause-sorted : goal.found-found-requires-clause-sorted
found-found-requires-clause-sorted c =
    let config = c.args.config.now in
    let loop = c.loop-left in
    let listing = subst (IsListing config.rulesets) (sym loop.invariant.listed) c.requires.listed in
    sorted_here loop.table loop.left c.index-all-number.result c.loop-left-test.true loop.invariant.few c.index-all-number.is config.rulesets listing

pub loop-left-preserved : goal.loop-left-preserved
loop-left-preserved c =
    let loop = c.loop-left in
    let k = c.index-all-number.result in
    let v = c.found-found.result in
    let f : PlainPlaced → Evaluated PlainMatch = ruleset_gives c.args.config.now c.args.packet.now in
    let is = c.found-found.ensures.placed in
    let gives = c.found-found.ensures.gives ∙ c.evaluate_known-gives.ensures ∙ ap f c.placed-placed.ensures in
    record {
      few = still_few loop.table loop.left k c.loop-left-test.true loop.invariant.few c.index-all-number.is v is;
      listed = still_listed loop.table loop.left k c.loop-left-test.true loop.invariant.few c.index-all-number.is v is ∙ loop.invariant.listed;
      given = one_more_given loop.table loop.left k c.loop-left-test.true loop.invariant.few c.index-all-number.is v is f gives loop.invariant.given;
      onward = one_more_onward loop.table loop.left k c.loop-left-test.true loop.invariant.few c.index-all-number.is v is c.evaluate_known-gives.result c.found-found.ensures.gives c.found-found.ensures.onward loop.invariant.onward;
    }

use Rattle.pf_form.specs.Form.Words.{texts}
use Rattle.pf_lists.proofs.Turns.{turn, words_turn, words_end}
use Rattle.pf_lists.proofs.product.words_of.Goals as goal

pub nonzero_div-rest : goal.nonzero_div-rest
nonzero_div-rest c =
    (turn c.args.lists.now c.loop-list.list-index c.list-item.result c.loop-list.left c.loop-list.rest c.len-rest.result c.loop-list-test.true c.list-item.is c.loop-list.invariant.ways c.loop-list.invariant.one c.len-rest.ensures).some

pub nonzero_div-left : goal.nonzero_div-left
nonzero_div-left c =
    (turn c.args.lists.now c.loop-list.list-index c.list-item.result c.loop-list.left c.loop-list.rest c.len-rest.result c.loop-list-test.true c.list-item.is c.loop-list.invariant.ways c.loop-list.invariant.one c.len-rest.ensures).others

pub bounds-as_slice-left : goal.bounds-as_slice-left
bounds-as_slice-left c =
    let t = turn c.args.lists.now c.loop-list.list-index c.list-item.result c.loop-list.left c.loop-list.rest c.len-rest.result c.loop-list-test.true c.list-item.is c.loop-list.invariant.ways c.loop-list.invariant.one c.len-rest.ensures in
    rw c.as_slice.ensures t.within

pub nonzero_rem-left : goal.nonzero_rem-left
nonzero_rem-left c =
    (turn c.args.lists.now c.loop-list.list-index c.list-item.result c.loop-list.left c.loop-list.rest c.len-rest.result c.loop-list-test.true c.list-item.is c.loop-list.invariant.ways c.loop-list.invariant.one c.len-rest.ensures).others

pub loop-list-preserved : goal.loop-list-preserved
loop-list-preserved c =
    let t = turn c.args.lists.now c.loop-list.list-index c.list-item.result c.loop-list.left c.loop-list.rest c.len-rest.result c.loop-list-test.true c.list-item.is c.loop-list.invariant.ways c.loop-list.invariant.one c.len-rest.ensures in
    record {
      ways = t.ways;
      one = t.below;
      words = words_turn _ _ _ _ _ _ c.as_slice.result.now c.index-as_slice-left.result (texts c.loop-list.words.items) _ _ t c.as_slice.ensures c.index-as_slice-left.is c.in_ok-push_words.ensures c.loop-list.invariant.words;
    }

pub returns : goal.returns
returns c = words_end c.args.lists.now c.loop-list.list-index c.loop-list.left _ _ c.loop-list-test.false c.loop-list.invariant.words

use Rattle.std.proofs.Common.{◌+◌, ℕ, set, sym, subst, arith}
use Rattle.pf_trie.proofs.IndexEdits.{AddedAfter, none_added, one_added, index_with_one_more}
use Rattle.pf_trie.proofs.indexed.with_one_more.Goals as goal

pub loop-higher-init : goal.loop-higher-init
loop-higher-init c = none_added c.args.before c.args.digit

pub loop-higher-preserved : goal.loop-higher-preserved
loop-higher-preserved c =
    subst (λ (n : ℕ). AddedAfter c.args.before (set c.loop-higher.before c.loop-higher.higher n) c.args.digit (c.loop-higher.higher + 1))
    (sym c.saturating_add.ensures)
    (one_added c.args.before c.loop-higher.before c.args.digit c.loop-higher.higher c.loop-higher.invariant (let up = c.loop-higher.auto.higher in omega (arith, up)))

pub returns : goal.returns
returns c = index_with_one_more c.args.before c.loop-higher.before c.args.digit c.loop-higher.higher c.loop-higher.invariant c.loop-higher-test.false

use Rattle.std.proofs.Common.{ℕ, ◌<◌, ◌∙◌, List, length, take, sym, ap, subst}
use Rattle.pf_table.specs.{Entries.PlainEntry, Edits.deleted, Indexed.AreIn}
use Rattle.pf_table.proofs.{Batches.one_less, TrieSigns.as_many_deleted, AnswersAt.deleted_at}
use Rattle.pf_table.proofs.indexed.Indexed.without_deleted.Goals as goal

pub loop-at-init : goal.loop-at-init
unfolding deleted
loop-at-init g c = c.in_ok-tries.ensures c.args.self.now
    (subst (λ (l : List PlainEntry). AreIn g.T.PrefixIndex.has l c.self.inside.tries.v4 c.self.inside.tries.v6) c.self.view_is c.self.invariant)

pub bounds-answers-at : goal.bounds-answers-at
bounds-answers-at g c = subst (λ (n : ℕ). c.loop-at.at < n) (sym (ap length c.requires.answers ∙ as_many_deleted c.args.self.now c.args.list.now)) c.loop-at-test.true

pub loop-at-preserved : goal.loop-at-preserved
loop-at-preserved g c =
    let es = c.args.self.now in
    let list = c.args.list.now in
    let i = c.loop-at.at in
    let x = c.index-list-at.result in
    subst (λ (l : List PlainEntry). AreIn g.T.PrefixIndex.has l c.in_ok-tries-2.tries.v4 c.in_ok-tries-2.tries.v6) (one_less es list i x c.loop-at-test.true c.index-list-at.is)
    (c.in_ok-tries-2.ensures (deleted es (take i list))
    (deleted_at c.args.answers.now es list i x _ c.requires.answers c.loop-at-test.true c.index-list-at.is)
    c.loop-at.invariant)

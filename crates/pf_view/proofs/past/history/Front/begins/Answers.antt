use Rattle.std.proofs.Common.{◌≤◌, List, length, ap, subst}
use mathlib.Core.List.{IsPrefix}
use Rattle.pf_view.specs.declared.past.rule.HistoryEntry.{HistoryEntry}
use Rattle.pf_view.specs.Past.Pasts.{PlainFront}
use Rattle.pf_view.specs.Past.Rules.{past_of}
use Rattle.pf_view.proofs.Entries.{front_begins}
use Rattle.pf_view.proofs.past.history.Front.begins.Goals as goal

pub returns : goal.returns
returns g c =
    let mine = c.self.inside.seen.log in
    let other = c.other.inside.seen.log in
    let all = c.learn.new.self.log in
    let here : IsPrefix mine all = subst (λ (l : List HistoryEntry). IsPrefix l all) (ap (λ s. s.log) c.again-both.ensures) c.learn.ensures.2 in
    subst (λ (p : PlainFront). length p.front ≤ length c.args.other.now.front → IsPrefix p.front c.args.other.now.front) c.self.view_is
    (subst (λ (q : PlainFront). length (past_of mine).front ≤ length q.front → IsPrefix (past_of mine).front q.front) c.other.view_is (front_begins mine other all here c.learn.ensures.3)) c.requires

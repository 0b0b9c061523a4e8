use Rattle.std.proofs.Common.{◌≡◌, ◌≤◌, List, ap, sym, ◌∙◌, subst}
use mathlib.Core.List.{IsPrefix}
use Rattle.pf_view.specs.declared.past.rule.HistoryEntry.{HistoryEntry}
use Rattle.pf_view.specs.Past.{Pasts.{PlainTip, Begins, front_of}, Rules.{past_of, shown_of}}
use Rattle.pf_view.proofs.Entries.{stays, past_begins, shown_rises}
use Rattle.pf_view.proofs.past.history.Tip.look.Goals as goal

pub compare_exchange-requires : goal.compare_exchange-requires
compare_exchange-requires g c =
    let i = c.self.invariant in
    let h = i.head_is in
    let name = ap (λ w. w.book) h in
    let offer = c.plain-offer.ensures in
    let both = c.learn.ensures.0 ∙ (ap (λ s. s.book) c.again-both.ensures ∙ i.seen_is) in (
      ap (λ w. w.tracked) h,
      both ∙ sym name,
      i.pen_is ∙ sym name,
      offer.0,
      rw (ap (λ w. w.key) h, offer.3) (stays c.learn.new.self.log c.self.inside.pen.nib c.plain-offer.result.ask i.right),
    )

-- whoever has the pen has seen all that was seen
all-seen : (mine all other : List HistoryEntry) → IsPrefix other all → mine ≡ all → IsPrefix other mine
all-seen mine all other there whole = subst (λ (l : List HistoryEntry). IsPrefix other l) (sym whole) there

pub returns-clause-begins : goal.returns-clause-begins
returns-clause-begins g c =
    let mine = c.self.inside.seen.log in
    let here : IsPrefix mine c.learn.new.self.log = subst (λ (l : List HistoryEntry). IsPrefix l c.learn.new.self.log) (ap (λ s. s.log) c.again-both.ensures) c.learn.ensures.2 in
    let begins : IsPrefix c.args.other.now.log mine = all-seen mine c.learn.new.self.log c.args.other.now.log c.learn.ensures.3 (c.compare_exchange.ensures.7.1 mine here (sym c.self.invariant.key)) in
    subst (λ (t : PlainTip). Begins (past_of c.args.other.now.log) (front_of t)) c.self.view_is (past_begins c.args.other.now.log mine begins)

pub returns-clause-risen : goal.returns-clause-risen
returns-clause-risen g c =
    let mine = c.self.inside.seen.log in
    let here : IsPrefix mine c.learn.new.self.log = subst (λ (l : List HistoryEntry). IsPrefix l c.learn.new.self.log) (ap (λ s. s.log) c.again-both.ensures) c.learn.ensures.2 in
    let begins : IsPrefix c.args.other.now.log mine = all-seen mine c.learn.new.self.log c.args.other.now.log c.learn.ensures.3 (c.compare_exchange.ensures.7.1 mine here (sym c.self.invariant.key)) in
    subst (λ (t : PlainTip). shown_of c.args.other.now.log ≤ t.shown) c.self.view_is (shown_rises c.args.other.now.log mine begins)

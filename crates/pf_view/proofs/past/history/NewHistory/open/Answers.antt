use Rattle.std.proofs.Common.{ap, sym, ◌∙◌}
use Rattle.pf_view.proofs.Entries.{starts}
use Rattle.pf_view.proofs.past.history.NewHistory.open.Goals as goal

pub compare_exchange-found-requires : goal.compare_exchange-found-requires
compare_exchange-found-requires c =
    let h = c.tracked-head.ensures.0 in
    let opened = c.open-seen.ensures in
    let offer = c.plain-offer.ensures in
    let none = c.no_pen-none.ensures in
    let same = sym (ap (λ w. w.book) h ∙ opened.2) in (
      ap (λ w. w.tracked) h,
      same,
      none.0 ∙ same,
      offer.0,
      rw (ap (λ w. w.key) h, ap (λ n. n.key) opened.4, offer.3) (starts c.open-seen.result.0.log c.no_pen-none.result.nib c.plain-offer.result.ask),
    )

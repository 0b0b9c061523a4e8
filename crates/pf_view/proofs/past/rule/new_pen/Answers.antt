use Rattle.std.proofs.Common.{ap, sym, ◌∙◌}
use Rattle.pf_view.proofs.Entries.{comes}
use Rattle.pf_view.proofs.past.rule.new_pen.Goals as goal

pub compare_exchange-requires : goal.compare_exchange-requires
compare_exchange-requires c =
    let h = c.requires in
    let same = ap (λ s. s.book) c.again-seen.ensures in
    let offer = c.plain-offer.ensures in
    let pen = c.no_pen-pen.ensures in (
      ap (λ w. w.tracked) h,
      same ∙ sym (ap (λ w. w.book) h),
      pen.0 ∙ (same ∙ sym (ap (λ w. w.book) h)),
      offer.0,
      rw (ap (λ w. w.key) h, pen.1, offer.3) (comes c.again-seen.result.log c.plain-offer.result.ask),
    )

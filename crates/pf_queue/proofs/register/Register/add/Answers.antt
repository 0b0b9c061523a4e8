use Rattle.std.proofs.Common.{sym, ◌∙◌, ap}
use Rattle.pf_queue.proofs.Registering.{adds_moves}
use Rattle.pf_queue.proofs.register.Register.add.Goals as goal

pub compare_exchange-found-requires : goal.compare_exchange-found-requires
compare_exchange-found-requires g c =
    let h = c.self.invariant.0 in
    let same = ap (λ s. s.book) c.again-seen.ensures ∙ c.self.invariant.1 ∙ sym (ap (λ w. w.book) h) in
    let offer = c.plain-offer.ensures in
    let pen = c.no_pen-pen.ensures in (
      ap (λ w. w.tracked) h,
      same,
      pen.0 ∙ same,
      offer.0,
      rw (ap (λ w. w.key) h, pen.1, offer.1, offer.3) (adds_moves _ _ _),
    )

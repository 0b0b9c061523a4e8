use Rattle.std.proofs.Common.{◌≡◌, [], ◌∷◌, ◌++◌, ap, sym, ◌∙◌, arith, length-append}
use Rattle.pf_view.specs.Past.Rules.{lead_of}
use Rattle.pf_view.proofs.Entries.{adds_one, lead_of-push}
use Rattle.pf_view.proofs.past.history.Tip.note.Goals as goal

pub compare_exchange-requires : goal.compare_exchange-requires
compare_exchange-requires g c =
    let i = c.self.invariant in
    let h = i.head_is in
    let name = ap (λ w. w.book) h in
    let offer = c.plain-offer.ensures in (
      ap (λ w. w.tracked) h,
      i.seen_is ∙ sym name,
      i.pen_is ∙ sym name,
      offer.0,
      rw (ap (λ w. w.key) h, offer.3) (adds_one c.self.inside.seen.log c.self.inside.pen.nib c.plain-offer.result.ask i.right i.key),
    )

pub invariant_of-self : goal.invariant_of-self
invariant_of-self g c =
    let i = c.self.invariant in
    let step = c.compare_exchange.ensures in
    let log = c.self.inside.seen.log in
    let ask = c.plain-offer.result.ask in
    let longer : c.compare_exchange.new.seen.log ≡ log ++ ask ∷ [] = step.7 in record {
      head_is = i.head_is;
      seen_is = step.0 ∙ i.seen_is;
      pen_is = c.new_pen.ensures.0 ∙ i.seen_is;
      right = c.new_pen.ensures.1;
      key = sym (ap lead_of longer ∙ (lead_of-push log ask ∙ ap (λ e. e.next) c.plain-offer.ensures.1));
      some = rw longer (omega (arith, length-append log (ask ∷ [])));
    }

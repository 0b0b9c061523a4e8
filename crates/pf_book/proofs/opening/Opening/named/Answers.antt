use Rattle.std.proofs.Common.{ap, sym, ◌∙◌}
use Rattle.std.specs.Arc.{arc_value}
use Rattle.logbook.specs.Pages.{Book}
use Rattle.pf_view.specs.Past.Pasts.{front_of}
use Rattle.pf_book.specs.Books.{PlainOpening, opening_of}
use Rattle.pf_book.proofs.opening.Opening.named.Goals as goal

pub invariant_of-result : goal.invariant_of-result
invariant_of-result g c = record {
  opened = c.self.invariant;
  base_is = ap (λ (o : PlainOpening g.row.D.Denot). o.given) c.self.view_is ∙ c.requires.base;
  tip_is = c.in-Some.ensures;
  start_is = c.front-start.ensures ∙ ap front_of c.in-Some.ensures;
}

pub returns-clause-same : goal.returns-clause-same
returns-clause-same g c =
    let history = ap (λ (o : PlainOpening g.row.D.Denot). o.history) c.self.view_is ∙ c.requires.history in
    ap (λ (b : Book). opening_of c.self.inside.store (arc_value c.self.inside.durable) b) (sym history) ∙ c.self.view_is

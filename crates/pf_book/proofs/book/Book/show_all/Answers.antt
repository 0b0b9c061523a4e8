use Rattle.std.proofs.Common.{◌≡◌, List, length, map, take, sym, ap, ◌∙◌, subst, arith}
use Rattle.std.specs.{Arc.arc_value, Prelude.MatchBool}
use mathlib.Core.List.{IsPrefix}
use Rattle.pf_core.specs.{Durable.Changes.{PlainChange, after}, WorldBooks.WorldBook}
use Rattle.pf_view.specs.Seers.{PlainShower}
use Rattle.pf_book.specs.Books.{PlainBook, world_book, world_book_of, shows_all}
use Rattle.pf_book.proofs.{BookInvariant.{shown-book, shows-either}, OpenedBooks.parts, HistoryGroups.{flat-acked, prefix_short, prefix_take, shown_either}}
use Rattle.pf_book.proofs.book.Book.show_all.Given.{Over}
use Rattle.pf_book.proofs.book.Book.show_all.Goals.{Else-not-offer_rest}
use Rattle.pf_book.proofs.book.Book.show_all.Goals as goal

pub offer_rest-requires-clause-chain : goal.offer_rest-requires-clause-chain
offer_rest-requires-clause-chain g c =
    let i = c.self.invariant in
    let a = c.self.inside.acked in
    i.latest ∙ i.folded.durable ∙ ap (after g.J.Naming.base) (flat-acked (map arc_value c.self.inside.log.items) c.self.inside.sizes.items a i.cuts) ∙ ap (λ xs. after g.J.Naming.base (take a (map arc_value xs))) (sym c.as_slice.ensures.value)

-- what is offered after the rest was
module _ (g : Over) (c : Else-not-offer_rest g) where
  abbrev log : List PlainChange
  log = map arc_value c.self.inside.log.items

  abbrev first : PlainShower
  first = g.S.Publisher.plain c.self.inside.shower

  abbrev mid : PlainShower
  mid = g.S.Publisher.plain c.offer_rest.new.shower

  offered : mid.offered ≡ take c.self.inside.acked log
  offered = c.if-not-offer_rest.ensures.offered ∙ ap (λ xs. take c.self.inside.acked (map arc_value xs)) c.as_slice.ensures.value

  before : IsPrefix mid.shown (take c.self.inside.acked log)
  before =
      let i = c.self.invariant in
      subst (λ (l : List PlainChange). IsPrefix l (take c.self.inside.acked log)) (sym c.offer_rest.ensures.shown)
      (prefix_take log first.shown c.self.inside.offered c.self.inside.acked i.offered_low (subst (λ (l : List PlainChange). IsPrefix first.shown l) i.offered_is i.shown_is))

pub show_offered-requires-clause-within : goal.show_offered-requires-clause-within
show_offered-requires-clause-within g c =
    let here = (goal.at.show_offered-requires-clause-within g c).Else-not-offer_rest in
    omega (arith, prefix_short (mid g here).shown (take c.self.inside.acked (log g here)) (before g here), ap length (offered g here))

pub invariant_of-self-2 : goal.invariant_of-self-2
invariant_of-self-2 g c =
    let here = (goal.at.invariant_of-self-2 g c).Else-not-offer_rest in
    let e = c.show_offered.ensures in
    let last : PlainShower = g.S.Publisher.plain c.show_offered.new.shower in
    let all : List PlainChange = take c.self.inside.acked (log g here) in
    let shown : IsPrefix last.shown all =
    shown_either c.show_offered.result (mid g here).shown last.shown all (subst (λ (l : List PlainChange). MatchBool c.show_offered.result (last.shown ≡ l) (last.shown ≡ (mid g here).shown)) (offered g here) e.shown) (before g here) in
    let is : last.offered ≡ all = e.offered ∙ offered g here in
    shown-book c.self.invariant last c.show_offered.new.tip is (subst (λ (l : List PlainChange). IsPrefix last.shown l) (sym is) shown) e.front e.noted

pub returns-clause-shown : goal.returns-clause-shown
returns-clause-shown g c =
    let here = (goal.at.returns-clause-shown g c).Else-not-offer_rest in
    let i = c.self.invariant in
    let r = c.show_offered.result in
    let last : PlainShower = g.S.Publisher.plain c.show_offered.new.shower in
    let new : WorldBook = world_book_of (record (parts i) { shower = last }) in
    let shown : MatchBool r (last.shown ≡ take c.self.inside.acked (log g here)) (last.shown ≡ (first g here).shown) =
    subst (λ (l : List PlainChange). MatchBool r (last.shown ≡ l) (last.shown ≡ (first g here).shown)) (offered g here) (subst (λ (l : List PlainChange). MatchBool r (last.shown ≡ (mid g here).offered) (last.shown ≡ l)) c.offer_rest.ensures.shown c.show_offered.ensures.shown) in
    subst (λ (l : PlainBook g.row.D.Denot). MatchBool r (new ≡ shows_all (world_book l)) (new ≡ world_book l)) c.self.view_is (shows-either (parts i) last r i.cuts shown)

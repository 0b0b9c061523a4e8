use Rattle.std.proofs.Common.{◌≡◌, [], ◌∷◌, length, map, refl, sym, ap, ◌∙◌, subst, arith}
use Rattle.std.specs.Arc.{arc_value}
use Rattle.pf_ticket.specs.{Laws.Tickets.IsWithin as AreTicketsWithin, Tickets.fresh}
use Rattle.pf_ticket.proofs.TicketLimits.{keeps_the_limits}
use Rattle.pf_core.specs.{Durable.Changes.{PlainDurable, after}, Cores.PlainCore, WorldBooks.{WorldBook, IsAt}, Worlds.{Setting, begun, grouped, opened, down}}
use Rattle.pf_core.specs.Worlds.{raised as raised'}
use Rattle.pf_core.proofs.LongerWorlds.{stands-by, stands-opened}
use Rattle.pf_book.specs.Books.{PlainOpening, cut, setting_of}
use Rattle.pf_book.proofs.BookInvariant.{new-book, new-folded}
use Rattle.pf_book.proofs.book.Book.over.Goals as goal

pub invariant_of-result : goal.invariant_of-result
invariant_of-result g c =
    let i = c.opening.invariant in
    new-book c.opening.inside.store g.J.Naming.base c.new.result (arc_value c.opening.inside.durable) _ _ c.args.history_limit _ _ _ i.opened
    (ap (λ xs. map arc_value xs) c.new-2.ensures.items) c.new-3.ensures.items i.tip_is i.start_is i.base_is (ap (λ (w : PlainCore). w.durable) c.new.ensures ∙ c.in-Ok.ensures)
    (subst (λ (w : PlainCore). AreTicketsWithin w.tickets) (sym c.new.ensures) (keeps_the_limits.first (arc_value c.in-Ok.shared).epoch)) (omega (arith, c.requires.high))
    c.requires.new.0 c.requires.new.1

pub returns-clause-folded : goal.returns-clause-folded
returns-clause-folded g c =
    new-folded (ap (λ (w : PlainCore). w.durable) c.new.ensures ∙ c.in-Ok.ensures ∙ c.opening.invariant.base_is) (ap (λ ns. cut ns (map arc_value c.new-2.result.items)) c.new-3.ensures.items)
    (ap length c.requires.new.0) (ap (after g.J.Naming.base) c.requires.new.0)

pub returns-clause-at : goal.returns-clause-at
returns-clause-at g c =
    let given : arc_value c.in-Ok.shared ≡ c.args.opening.given = ◌∙◌ {b = arc_value c.opening.inside.durable} c.in-Ok.ensures (ap (λ (x : PlainOpening g.row.D.Denot). x.given) c.opening.view_is) in
    record {
      base = sym c.requires.name.0;
      tickets = ap (λ (w : PlainCore). w.tickets) c.new.ensures ∙ ap (λ (k : PlainDurable). fresh k.epoch) given;
      acked = ap (λ ns. cut ns (map arc_value c.new-2.result.items)) c.new-3.ensures.items;
      pending = ap (λ xs. grouped (map arc_value xs)) c.new-2.ensures.items;
      shown = ap length c.requires.new.0;
      setting = ap (λ (x : PlainOpening g.row.D.Denot). setting_of x c.args.history_limit) c.opening.view_is;
    }

-- the same, of an equal of what was given
at-by : (setting : Setting) (given kept : PlainDurable) (b : WorldBook) → given ≡ kept → IsAt (begun setting given) b → IsAt (begun setting kept) b
at-by setting given kept b is = subst (λ (k : PlainDurable). IsAt (begun setting k) b) is

pub returns-clause-worlds : goal.returns-clause-worlds
returns-clause-worlds g c = λ first d world legal comes low raised.
    let setting : Setting = setting_of c.args.opening c.args.history_limit in
    stands-by first _ world (opened setting) (down d) (begun setting (raised' d)) legal comes low refl
    (at-by setting c.args.opening.given (raised' d) _ raised (returns-clause-at g c)) (returns-clause-folded g c)

pub returns-clause-reached : goal.returns-clause-reached
returns-clause-reached g c =
    let o = c.args.opening in
    let epoch = c.opening.invariant.opened.epoch in
    let setting : Setting = setting_of o c.args.history_limit in
    let raises : o.given ≡ raised' epoch.before = ap (λ (x : PlainOpening g.row.D.Denot). x.given) (sym c.opening.view_is) ∙ epoch.raises in
    record {
      base_is = refl;
      setting_is = ap (λ (x : PlainOpening g.row.D.Denot). setting_of x c.args.history_limit) c.opening.view_is ∙ c.requires.name.2;
      first = epoch.before;
      world = opened setting ∷ [];
      stands = stands-opened epoch.before _ setting epoch.low (at-by setting o.given (raised' epoch.before) _ raises (returns-clause-at g c)) (returns-clause-folded g c);
    }

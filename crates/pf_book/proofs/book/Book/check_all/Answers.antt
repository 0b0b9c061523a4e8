use Rattle.std.proofs.{Common.{◌≡◌, ◌∙◌, Bool, true, List, length, map, ap, sym, arith}, lemmas.{Bool.Decides.nat_tests, Grind.common_steps}}
use Rattle.std.specs.{Arc.arc_value, Prelude.nat_lt}
use Rattle.pf_core.specs.declared.reply.Refusal.TheVariants.{Halted}
use Rattle.pf_core.specs.{Commands.group_words, Durable.Changes.PlainChange, Refusing.{and_then, unless}, Worlds.is_halted}
use Rattle.pf_book.specs.Books.{PlainBook}
use Rattle.pf_book.proofs.HistoryGroups.{halted-is}
use Rattle.pf_book.proofs.book.Book.check_all.Goals as goal

pub returns-then-self-len : goal.returns-then-self-len
returns-then-self-len g c =
    let s = c.self.inside in
    let log : List PlainChange = map arc_value s.log.items in
    let counted : c.len.result ≡ length log = grind (arith, common_steps, c.len.ensures) in
    let past : nat_lt s.acked (length log) ≡ true = grind (arith, nat_tests, c.if-self-len.true, counted) in
    let halted : is_halted c.args.self.now.pending ≡ true = ap (λ (l : PlainBook g.row.D.Denot). is_halted l.pending) (sym c.self.view_is) ∙ halted-is log s.acked c.self.invariant.low ∙ past in
    sym (ap (λ (b : Bool). and_then (unless b Halted) (group_words c.args.commands.now)) halted)

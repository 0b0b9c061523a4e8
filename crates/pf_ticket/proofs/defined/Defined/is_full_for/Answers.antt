use Rattle.std.proofs.{Common.{◌≡◌, ℕ, ◌+◌, ◌-◌, true, false, nat_lt, length, sym, ap, ◌∙◌, refl, arith}, lemmas.Bool.Decides.nat_tests}
use Rattle.std.specs.{Prelude.is_some, FinMap.{find}}
use Rattle.pf_addr.specs.Path.Names.{name_order}
use Rattle.pf_map.proofs.Maps.{is_there}
use Rattle.pf_ticket.specs.declared.limits.TheConstants.{OFFERED_TABLE_LIMIT}
use Rattle.pf_ticket.proofs.NamedTables.{count_with}
use Rattle.pf_ticket.proofs.defined.Defined.is_full_for.Goals.{in-Some, in-None}
use Rattle.pf_ticket.proofs.defined.Defined.is_full_for.Goals as goal

one_less : (n : ℕ) → nat_lt (OFFERED_TABLE_LIMIT - 1) n ≡ nat_lt OFFERED_TABLE_LIMIT (n + 1)
one_less n = grind (arith, nat_tests)

pub returns : goal.returns
returns c rows =
    let ts = c.args.self.now in
    let count = count_with c.args.name.now rows ts c.get.ensures.order in
    let there = is_there (λ e. e.now) c.args.name.now c.get.result (find name_order c.args.name.now ts) c.get.ensures.table in
    rw c.len.ensures (elim c.match-get.branch [
      | in-Some w ↦ let yes : is_some (find name_order c.args.name.now ts) ≡ true = sym there ∙ ap is_some w.in-Some.is in
          rw (w.room-is, count, yes) refl
      | in-None w ↦ let no : is_some (find name_order c.args.name.now ts) ≡ false = sym there ∙ ap is_some w.in-None.is in
          rw (w.room-is, count, no) (one_less (length ts))
    ])

use Rattle.std.proofs.Common.{◌≡◌, ◌∙◌, IfOk, sym, subst}
use Rattle.pf_table.proofs.Batches.{with_new}
use Rattle.pf_table.proofs.change.with_entry.Goals as goal

pub returns-clause-value : goal.returns-clause-value
returns-clause-value c =
    subst (λ l. IfOk c.with_new.result (λ m. m ≡ l)) (with_new c.args.entries c.args.entry.now c.args.there c.requires (sym c.is_some.ensures
    ∙ c.if-is_some.false)) c.with_new.ensures

use Rattle.std.proofs.Common.{◌≡◌, ◌∙◌, List, sym, subst}
use Rattle.std.specs.{Prelude.IfSome, Arc.arc_value}
use Rattle.pf_table.specs.{Entries.PlainEntry, Tables.IsTable}
use Rattle.pf_table.proofs.table.Table.holding.Goals as goal

pub invariant_of-result : goal.invariant_of-result
invariant_of-result c =
    let same = sym (c.in_ok-of.ensures.value ∙ c.requires.same) in (
      subst IsTable same (record { sorted = c.requires.entries.sorted; networks = c.in_ok-of.ensures.networks; few = c.requires.entries.few }),
      subst (λ (l : List PlainEntry). IfSome c.in_ok-columns.columns (λ a. arc_value a ≡ l)) same c.in_ok-columns.ensures,
    )

use Rattle.std.proofs.Common.{◌≡◌, Option, Some, None, ◌∙◌, sym}
use Rattle.std.specs.Prelude.{IfSome}
use Rattle.pf_table.specs.{Entries.PlainEntry, Tables.{deciding, Decides}}
use Rattle.pf_table.proofs.Lookups.{none_contains, decides}
use Rattle.pf_table.proofs.table.Table.lookup.Goals as goal

pub returns-clause-decides : goal.returns-clause-decides
returns-clause-decides c = by c.decider.result (sym c.decider.ensures.value) where
  by : (o : Option PlainEntry) → deciding c.args.self.now c.args.addr ≡ o → IfSome o (λ e. Decides c.args.self.now c.args.addr e)
  by None is = tt
  by (Some e) is = decides c.args.self.now c.args.addr e c.decider.ensures.table.sorted is

pub returns-clause-none : goal.returns-clause-none
returns-clause-none c = λ is. none_contains c.args.self.now c.args.addr (sym c.decider.ensures.value ∙ is)

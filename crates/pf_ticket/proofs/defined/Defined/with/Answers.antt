use Rattle.std.proofs.Common.{T, List, subst}
use Rattle.std.specs.FinMap.{is_sorted}
use Rattle.pf_addr.specs.Path.Names.{name_order}
use Rattle.pf_ticket.specs.NamedTables.{PlainDefinedTable}
use Rattle.pf_ticket.proofs.NamedTables.{put_anew}
use Rattle.pf_ticket.proofs.defined.Defined.with.Goals as goal

pub returns : goal.returns
returns c =
    let order = subst (λ (ts : List PlainDefinedTable). T (is_sorted name_order ts)) c.self.view_is c.self.invariant in
    rw (c.in_ok-with.ensures, c.self.view_is) (put_anew c.args.new.now.0 c.args.new.now.1 c.args.self order)

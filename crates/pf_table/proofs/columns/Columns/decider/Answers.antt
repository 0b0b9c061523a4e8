use Rattle.std.proofs.Common.{◌<◌, ◌∙◌, T, List, Some, None, length, rules, sym, ap, subst}
use Rattle.std.specs.FinMap.{is_sorted}
use Rattle.pf_addr.specs.{Address.PlainNet, NetOrder.net_order}
use Rattle.pf_lanes.specs.Longest.{FindsLongest}
use Rattle.pf_table.specs.{Entries.PlainEntry, Tables.deciding}
use Rattle.pf_table.proofs.Lookups.{place_within, longest_decides, none_decides}
use Rattle.pf_table.proofs.columns.Columns.decider.Goals as goal

pub returns-in_err-place : goal.returns-in_err-place
returns-in_err-place c =
    c.from_residual.ensures
    ∙ sym (none_decides c.self.inside.entries.items c.args.addr (subst (λ (ns : List PlainNet). FindsLongest ns c.args.addr None) c.self.invariant c.in_err-place.ensures))
    ∙ ap (λ (l : List PlainEntry). deciding l c.args.addr) c.self.view_is

pub index-requires : goal.index-requires
index-requires c =
    let within : c.in_ok-place.place < length c.self.inside.entries.items =
    place_within c.self.inside.entries.items c.args.addr c.in_ok-place.place
    (subst (λ (ns : List PlainNet). FindsLongest ns c.args.addr (Some c.in_ok-place.place)) c.self.invariant c.in_ok-place.ensures) in
    search rules

pub returns : goal.returns
returns c =
    sym (longest_decides c.self.inside.entries.items c.args.addr c.in_ok-place.place c.index.result.now
    (subst (λ (l : List PlainEntry). T (is_sorted net_order l)) (sym c.self.view_is) c.requires)
    (subst (λ (ns : List PlainNet). FindsLongest ns c.args.addr (Some c.in_ok-place.place)) c.self.invariant c.in_ok-place.ensures) c.index.ensures)
    ∙ ap (λ (l : List PlainEntry). deciding l c.args.addr) c.self.view_is

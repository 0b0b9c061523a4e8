use Rattle.std.proofs.Common.{◌≡◌, Bool, sym, ap, ◌∙◌}
use Rattle.std.specs.Ordering.{is_lt}
use Rattle.pf_map.specs.InOrder.{in_order}
use Rattle.pf_map.proofs.Gathered.{apart, not_apart, flows_sorted, index_of}
use Rattle.pf_map.proofs.index.of_both.Goals as goal
use Rattle.pf_map.proofs.index.of_both.Given.{Over}

-- the answer of the test, of the list that was handed in
abbrev before : (g : Over) → g.row.N.Denot × g.row.V.Denot → g.row.N.Denot × g.row.V.Denot → Bool
before g a b = is_lt (g.F.Key.order (g.V.Flowed.flow a.1) (g.V.Flowed.flow b.1))

pub returns-then-not-are_apart : goal.returns-then-not-are_apart
returns-then-not-are_apart g c =
    not_apart g.met.F.Key.total g.V.Flowed.flow c.args.entries.now c.args.flows.items c.requires.same c.requires.sorted
    (ap (in_order (before g)) (sym c.deref.ensures.value) ∙ sym c.are_apart.ensures ∙ c.if-not-are_apart.true)

pub of-requires-2 : goal.of-requires-2
of-requires-2 g c =
    let flows : c.deref-2.result.now ≡ c.args.flows.items = c.deref-2.ensures.value ∙ c.in_ok-each_by_flow.ensures in
    let sorted =
    flows_sorted g.met.F.Key.total g.V.Flowed.flow c.args.flows.items
    (ap (in_order (before g)) (sym c.deref.ensures.value) ∙ sym c.are_apart.ensures ∙ c.if-not-are_apart.false) in
    rw flows sorted

pub invariant_of-result : goal.invariant_of-result
invariant_of-result g c =
    let flows : c.deref-2.result.now ≡ c.args.flows.items = c.deref-2.ensures.value ∙ c.in_ok-each_by_flow.ensures in
    let sorted =
    flows_sorted g.met.F.Key.total g.V.Flowed.flow c.args.flows.items
    (ap (in_order (before g)) (sym c.deref.ensures.value) ∙ sym c.are_apart.ensures ∙ c.if-not-are_apart.false) in
    rw (c.in_ok-names.ensures, c.in_ok-flows.ensures, flows)
    (index_of g.met.F.Key.total g.V.Flowed.flow g.met.N.Key.total g.met.N.Key.alike c.args.entries.now c.args.flows.items c.requires.named c.requires.same sorted)

pub returns : goal.returns
returns g c = (
  c.in_ok-names.ensures,
  apart g.met.F.Key.total g.V.Flowed.flow c.args.entries.now c.args.flows.items c.requires.same
      (ap (in_order (before g)) (sym c.deref.ensures.value) ∙ sym c.are_apart.ensures ∙ c.if-not-are_apart.false),
)

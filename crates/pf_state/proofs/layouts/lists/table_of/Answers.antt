use Rattle.std.proofs.Common.{◌≡◌, true, Option, List, map, sym, ◌∙◌, subst}
use Rattle.pf_map.specs.Indexes.{IsIndexOf, no_flow_twice}
use Rattle.pf_state.specs.{FlowKeys.{key_of, key_order}, States.PlainState}
use Rattle.pf_state.proofs.Rows.{is_table}
use Rattle.pf_state.proofs.layouts.lists.table_of.Goals as goal

pub returns-in-Some : goal.returns-in-Some
returns-in-Some c =
    let es = c.in-Some.states in
    let rows = c.args.rows.now in
    let made = subst (λ (o : Option (List PlainState)). IsIndexOf key_order (λ held. key_of held.flow) c.deref.result.now o) c.in-Some.is c.in_ok-states-2.ensures in
    let are : (es ≡ map (λ row. row.state) rows) × (no_flow_twice key_order (λ held. key_of held.flow) (map (λ row. row.state) rows) ≡ true) =
    subst (λ (l : List PlainState). (es ≡ l) × (no_flow_twice key_order (λ held. key_of held.flow) l ≡ true)) (c.deref.ensures.value ∙ c.in_ok-states.ensures.value) made in
    rw c.of-in-Some.ensures (is_table rows es (sym c.are_in_order.ensures ∙ c.if-not-are_in_order.false) c.if-rows-gt-STATE_LIMIT.false are.0 are.1)

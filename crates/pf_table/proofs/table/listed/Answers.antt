use Rattle.std.proofs.Common.{◌++◌, ◌∷◌, [], ◌∙◌, List, append_assoc, append-nil, sym, ap}
use Rattle.pf_table.specs.Entries.{PlainEntry}
use Rattle.pf_table.proofs.table.listed.Goals as goal

pub loop-entry-init : goal.loop-entry-init
loop-entry-init c =
    ap (λ (l : List PlainEntry). l ++ c.into_iter-entry-iterator.result) c.in_ok-list.ensures.items
    ∙ c.into_iter-entry-iterator.ensures.into_iter_gives ∙ c.entries-entry-items.ensures

pub loop-entry-preserved : goal.loop-entry-preserved
loop-entry-preserved c =
    let x = c.in-Some.entry.now in
    let rest = c.next.new.self in
    let old = c.loop-entry.list.items in
    ap (λ (l : List PlainEntry). l ++ rest) c.in_ok-push.ensures.items ∙ append_assoc old (x ∷ []) rest
    ∙ ap (λ (l : List PlainEntry). old ++ l) (sym c.in-Some.ensures.steps) ∙ c.loop-entry.invariant

pub returns : goal.returns
returns c =
    let made = c.loop-entry.list.items in
    sym (append-nil made) ∙ ap (λ (l : List PlainEntry). made ++ l) (sym c.in-None.ensures.steps.0) ∙ c.loop-entry.invariant

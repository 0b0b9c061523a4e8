use Rattle.std.proofs.Common.{[], ◌∷◌, ◌++◌, ap, ◌∙◌}
use Rattle.pf_parse.specs.declared.tree.Entry.{Entry}
use Rattle.pf_sources.proofs.Entries.{one_more_entry, all_entries}
use Rattle.pf_sources.proofs.tables.entries_at.Goals as goal

pub loop-entry-init : goal.loop-entry-init
loop-entry-init c = record { some = []; whole = c.into_iter-entry-iterator.ensures.into_iter_gives ∙ c.entries-entry-items.ensures.value; pushed = c.new-entries.ensures }

pub loop-entry-preserved : goal.loop-entry-preserved
loop-entry-preserved c =
    one_more_entry c.args.place c.args.table.now c.loop-entry.entry-iterator c.next.new.self c.in-Some.entry.now c.loop-entry.entries _ c.in-Some.ensures.steps c.loop-entry.invariant
    (c.in_ok-push.ensures.ok ∙ ap (λ (e : Entry). c.loop-entry.entries ++ e ∷ []) c.entry_at.ensures)

pub returns : goal.returns
returns c = all_entries c.args.place c.args.table.now c.loop-entry.entry-iterator c.loop-entry.entries c.in-None.ensures.steps.0 c.loop-entry.invariant

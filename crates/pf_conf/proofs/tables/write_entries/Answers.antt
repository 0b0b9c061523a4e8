use Rattle.std.proofs.Common.{[], ◌∙◌}
use Rattle.pf_conf.proofs.Texts.{still, one_more_entry, all_entries}
use Rattle.pf_conf.proofs.tables.write_entries.Goals as goal

pub loop-entry-init : goal.loop-entry-init
loop-entry-init g c = record { some = []; whole = c.into_iter-entry-iterator.ensures.into_iter_gives ∙ c.entries-entry-items.ensures.value; written = still c.args.begun (g.W.Write.contents c.args.out.now) }

pub loop-entry-preserved : goal.loop-entry-preserved
loop-entry-preserved g c =
    one_more_entry c.args.begun c.loop-entry.so_far c.write_more-so_far.result c.write_entry-so_far.result (g.W.Write.contents c.args.out.now)
    (g.W.Write.contents c.loop-entry.out) (g.W.Write.contents c.write_more-so_far.new.out) (g.W.Write.contents c.write_entry-so_far.new.out)
    c.args.table.now c.loop-entry.entry-iterator c.next.new.self c.in-Some.entry.now c.in-Some.ensures.steps c.loop-entry.invariant
    c.write_more-so_far.ensures c.write_entry-so_far.ensures

pub returns : goal.returns
returns g c =
    all_entries c.args.begun c.loop-entry.so_far (g.W.Write.contents c.args.out.now) (g.W.Write.contents c.loop-entry.out) c.args.table.now
    c.loop-entry.entry-iterator c.in-None.ensures.steps.0 c.loop-entry.invariant

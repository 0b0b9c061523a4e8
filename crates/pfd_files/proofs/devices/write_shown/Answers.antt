use Rattle.std.proofs.Common.{Err, Ok, ap, length, ◌∙◌}
use Rattle.pf_addr.specs.Writing.{Continues-then, after_nothing}
use Rattle.pf_anchor.specs.Configurations.{PlainConfig}
use Rattle.pfd_files.specs.Showing.{shown_text}
use Rattle.pfd_files.proofs.Showing.{as_reported, flushed, reported}
use Rattle.pfd_files.proofs.devices.write_shown.Goals as goal

pub returns-in-Ok : goal.returns-in-Ok
returns-in-Ok g c =
    let all = after_nothing tt (Continues-then c.write_number-so_far.ensures (Continues-then c.write_sum-so_far.ensures
    (Continues-then c.write_number-so_far-2.ensures (Continues-then c.write_number-so_far-3.ensures
    (Continues-then c.write_number-so_far-4.ensures c.write_number.ensures))))) in
    let is = reported c.args.durable.now c.epoch.result c.ruleset_count-rulesets.result c.table_count-tables.result c.len.result c.tick.result c.sum.result
    c.epoch.ensures c.sum.ensures (c.ruleset_count-rulesets.ensures ∙ ap (λ (k : PlainConfig). length k.rulesets) c.config.ensures)
    (c.table_count-tables.ensures ∙ ap (λ (k : PlainConfig). length k.tables) c.config-2.ensures) (c.len.ensures ∙ ap length c.states.ensures.states) c.tick.ensures in
    let old = g.W.Write.contents c.args.out.now in
    let mid = g.W.Write.contents c.write_number.new.out in
    let written = as_reported c.write_number.result (Ok c.in-Ok.field-0) old mid _ (shown_text c.args.durable.now) c.in-Ok.is is all.0 in
    flushed c.flush.result old mid (g.W.Write.contents c.flush.new.self) (shown_text c.args.durable.now) written c.flush.ensures.bytes

pub returns-in-Err : goal.returns-in-Err
returns-in-Err g c =
    let all = after_nothing tt (Continues-then c.write_number-so_far.ensures (Continues-then c.write_sum-so_far.ensures
    (Continues-then c.write_number-so_far-2.ensures (Continues-then c.write_number-so_far-3.ensures
    (Continues-then c.write_number-so_far-4.ensures c.write_number.ensures))))) in
    let is = reported c.args.durable.now c.epoch.result c.ruleset_count-rulesets.result c.table_count-tables.result c.len.result c.tick.result c.sum.result
    c.epoch.ensures c.sum.ensures (c.ruleset_count-rulesets.ensures ∙ ap (λ (k : PlainConfig). length k.rulesets) c.config.ensures)
    (c.table_count-tables.ensures ∙ ap (λ (k : PlainConfig). length k.tables) c.config-2.ensures) (c.len.ensures ∙ ap length c.states.ensures.states) c.tick.ensures in
    as_reported c.write_number.result (Err c.in-Err.error) (g.W.Write.contents c.args.out.now) (g.W.Write.contents c.write_number.new.out) _
    (shown_text c.args.durable.now) c.in-Err.is is all.0

use Rattle.std.proofs.Common.{◌≡◌, true, false, Ok, sym, ◌∙◌, subst}
use Rattle.pf_form.specs.Bytes.Forms.{reads}
use Rattle.pf_state.specs.States.{all_stand}
use Rattle.pf_core.specs.Durable.{Changes.{PlainDurable}, Forms.{durable_form, plain_durable}}
use Rattle.pf_store.proofs.Durables.{durable_read, durable_refused}
use Rattle.pf_store.proofs.snapshots.durable.SnapshotLayout.read.Goals as goal

pub returns-then-not-all_stand : goal.returns-then-not-all_stand
returns-then-not-all_stand c =
    let k = c.in_ok-kept.kept in
    let due : all_stand c.in_ok-tick.tick k.states ≡ false = sym c.all_stand.ensures ∙ c.if-not-all_stand.true in
    durable_refused c.args.version c.args.from.now.now c.read_u32.new.from.now c.read_tick.new.from.now c.read_kept.new.from.now
    c.in_ok-epoch.epoch c.in_ok-tick.tick k.rulesets.items k.tables.items k.states
    c.in_ok-epoch.ensures c.in_ok-tick.ensures c.in_ok-kept.ensures.read due

pub returns : goal.returns
returns c =
    let k = c.in_ok-kept.kept in
    let standing : all_stand c.in_ok-tick.tick k.states ≡ true = sym c.all_stand.ensures ∙ c.if-not-all_stand.false in
    subst (λ (d : PlainDurable). reads (durable_form c.args.version) c.args.from.now.now ≡ Ok (plain_durable d, c.read_kept.new.from.now)) (sym c.in_ok-durable.ensures)
    (durable_read c.args.version c.args.from.now.now c.read_u32.new.from.now c.read_tick.new.from.now c.read_kept.new.from.now
    c.in_ok-epoch.epoch c.in_ok-tick.tick k.rulesets.items k.tables.items k.states
    c.in_ok-epoch.ensures c.in_ok-tick.ensures c.in_ok-kept.ensures.read standing)

use Rattle.std.proofs.Common.{◌∙◌}
use Rattle.std.specs.Prelude.{Result, Ok, Err, OnOk}
use Rattle.pf_store.proofs.Durables.{ends_in_snapshot}
use Rattle.pf_store.proofs.snapshots.durable.push_snapshot.Goals as goal

both : {A E P Q R : Type 0} (r : Result A E) → (P → Q → R) → OnOk r P → OnOk r Q → OnOk r R
both (Ok x) f p q = f p q
both (Err e) f p q = tt

pub returns : goal.returns
returns c =
    both c.push_durable.result (ends_in_snapshot c.args.version c.args.durable.now c.args.out.now.items c.push_durable.new.out.items c.durable_is_its_data.ensures)
    c.push_durable.ensures.fits c.push_durable.ensures.written

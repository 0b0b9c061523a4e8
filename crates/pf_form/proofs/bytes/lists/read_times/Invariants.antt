use Rattle.std.proofs.Common.{◌≡◌, ◌-◌}
use Rattle.std.specs.Prelude.{map}
use Rattle.pf_form.specs.{Bytes.BasicForms.times_by, Bytes.Forms.reads}
use Rattle.pf_form.proofs.BytesInTurn.{with_front}
use Rattle.pf_form.proofs.bytes.lists.read_times.Given as goal

abbrev pub invariant-loop : goal.invariant-loop
invariant-loop g l =
    let read = reads (g.T.Layout.form l.version) in
    with_front (map g.T.Layout.plain l.items.items) (times_by (l.count - l.counter) read l.from.now) ≡ times_by l.count read l.fn.from.now

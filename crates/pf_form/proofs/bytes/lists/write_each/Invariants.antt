use Rattle.std.proofs.Common.{◌≡◌, drop}
use Rattle.std.specs.Prelude.{map}
use Rattle.pf_form.specs.{Bytes.BasicForms.onto_each, Bytes.Forms.onto}
use Rattle.pf_form.proofs.bytes.lists.write_each.Given as goal

abbrev pub invariant-loop-item : goal.invariant-loop-item
invariant-loop-item g l =
    let push = onto (g.T.Layout.form l.version) in
    onto_each push (map g.T.Layout.plain (drop l.item-index l.items)) l.out.items ≡ onto_each push (map g.T.Layout.plain l.items) l.fn.out.items

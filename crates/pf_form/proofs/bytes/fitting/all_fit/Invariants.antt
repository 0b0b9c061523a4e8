use Rattle.std.proofs.Common.{map, take}
use Rattle.std.specs.List.{AllByRecursion}
use Rattle.pf_form.specs.Bytes.Forms.{Fits}
use Rattle.pf_form.proofs.bytes.fitting.all_fit.Given as goal

abbrev pub invariant-loop-item : goal.invariant-loop-item
invariant-loop-item g l = AllByRecursion (Fits (g.T.Layout.form l.version)) (map g.T.Layout.plain (take l.item-index l.items))

use Rattle.std.proofs.Common.{◌≡◌, [], drop}
use Rattle.pf_form.specs.Form.Words.{texts}
use Rattle.pf_values.specs.Interfaces.Interfaces.{all_held}
use Rattle.pf_values.proofs.interfaces.interface.all_held.Given as goal

abbrev pub invariant-loop-part : goal.invariant-loop-part
invariant-loop-part l = all_held [] (texts l.parts) ≡ all_held l.all (texts (drop l.part-index l.parts))

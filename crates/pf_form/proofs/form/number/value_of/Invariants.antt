use Rattle.std.proofs.Common.{◌≡◌, Some, take}
use Rattle.pf_form.specs.Form.Numbers.{decimal_value, of_bits}
use Rattle.pf_form.proofs.form.number.value_of.Given as goal

abbrev pub invariant-loop-digit : goal.invariant-loop-digit
invariant-loop-digit l = l.value ≡ of_bits 64 (Some (decimal_value (take l.digit-index l.digits)))

-- An interface's name is read as it is given.
use Rattle.std.proofs.Common.{◌≡◌, ◌&&◌, Bool, true, false, length, nat_lt, Some, Result, Ok, Err, ap, if◌then◌else◌}
use Rattle.std.specs.{List.list_all, Result.{is_ok, result_ok}}
use Rattle.pf_form.specs.Form.Words.{Word}
use Rattle.pf_form.specs.declared.form.fault.Kind.{Kind, TheVariants.{BadWord, NameTooLong}}
use Rattle.pf_addr.specs.Path.Names.{is_name_byte}
use Rattle.pf_rule.specs.Value.Values.{interface_of}
use Rattle.pf_rule.specs.declared.value.interface.TheConstants.{INTERFACE_LIMIT}

was_ok : (r : Result Word Kind) (v : Word) → result_ok r ≡ Some v → r ≡ Ok v
was_ok (Ok x) v h = cc
was_ok (Err e) v h = cc

pub is_interface : (w v : Word) → result_ok (interface_of w) ≡ Some v → is_ok (interface_of w) ≡ true
is_interface w v h = ap (λ (r : Result Word Kind). is_ok r) (was_ok (interface_of w) v h)

given_back : (b c : Bool) (e f : Kind) (w v : Word) → (if b then Err e else (if c then Ok w else Err f)) ≡ Ok v → v ≡ w
given_back true c e f w v h = cc
given_back false true e f w v h = cc
given_back false false e f w v h = cc

pub read_as_given : (w v : Word) → result_ok (interface_of w) ≡ Some v → v ≡ w
read_as_given w v h =
    given_back (nat_lt INTERFACE_LIMIT (length w)) (nat_lt 0 (length w) && list_all is_name_byte w) NameTooLong BadWord w v (was_ok (interface_of w) v h)

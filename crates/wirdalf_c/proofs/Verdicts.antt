-- A path is short.
use Rattle.std.proofs.{Common.{◌≡◌, ℕ, ◌≤◌, Bool, true, false, List, [], ◌∷◌, length, nat_lt, Option, Some, refl, arith, if◌then◌else◌}, lemmas.Bool.Decides.nat_tests}
use Rattle.std.specs.Option.{is_none, option_or}
use Rattle.pf_form.specs.declared.form.fault.Kind.{Kind, TheVariants.NameTooLong}
use Rattle.pf_addr.specs.{declared.path.limits.TheConstants.PATH_LIMIT, Path.Paths.{is_path, components, first_fault, depth_fault}}

kept_short : (b : Bool) (o : Option Kind) → is_none (if b then Some NameTooLong else o) ≡ true → b ≡ false
kept_short true o h = cc
kept_short false o h = refl

pub short_path : (p : List ℕ) → is_path p ≡ true → length p ≤ 255
short_path [] h = omega arith
short_path (b ∷ bs) h =
    let low = kept_short (nat_lt PATH_LIMIT (length (b ∷ bs))) (option_or (first_fault (components (b ∷ bs))) (depth_fault (length (components (b ∷ bs))))) h in
    grind (arith, nat_tests, low)

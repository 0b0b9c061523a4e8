-- What tests that hold say.
use Rattle.std.proofs.Common.{◌≡◌, T, Bool, true, false, ◌&&◌, Some, refl, sym, ap, subst}
use Rattle.std.specs.{declared.{cmp.Ordering.Ordering, cmp.Ordering.TheVariants.Less, cmp.Ordering.TheVariants.Equal, cmp.Ordering.TheVariants.Greater}, Ordering.{is_eq, is_lt}, Option.unwrap_or}

pub true_of : (b : Bool) → T b → b ≡ true
true_of true p = refl
true_of false p = absurd p

pub holds_of : (b : Bool) → b ≡ true → T b
holds_of b is = subst T (sym is) tt

pub first_of : (a b : Bool) → T (a && b) → T a
first_of true b p = tt
first_of false b p = p

pub second_of : (a b : Bool) → T (a && b) → T b
second_of true b p = p
second_of false b p = absurd p

pub less_of : (o : Ordering) → T (is_lt o) → o ≡ Less
less_of Less p = refl
less_of Equal p = absurd p
less_of Greater p = absurd p

pub parts_of : (a b : Bool) → T (a && b) → T a × T b
parts_of a b p = (first_of a b p, second_of a b p)

pub both_of : (a b : Bool) → T a → T b → T (a && b)
both_of true b p q = q
both_of false b p q = p

pub equal_of : (o : Ordering) → is_eq o ≡ true → o ≡ Equal
equal_of Less is = absurd (cc (is))
equal_of Equal is = refl
equal_of Greater is = absurd (cc (is))

pub untied_of : (o : Ordering) → T (is_lt o) → is_eq o ≡ false
untied_of o p = rw (less_of o p) refl

pub same_entry : {A : Type 0} (x y : A) → Some x ≡ Some y → x ≡ y
same_entry x y is = ap (λ z. unwrap_or z x) is

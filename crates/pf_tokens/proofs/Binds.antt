-- Steps that may fail, one after another.
use Rattle.std.proofs.Common.{◌≡◌, Bool, true, false, Result, Ok, Err, refl, subst, if◌then◌else◌}
use Rattle.pf_form.specs.Form.Forms.{◌>>=◌}

pub bind_assoc : {A B C E : Type 0} → (r : Result A E) (f : A → Result B E) (g : B → Result C E) → ((r >>= f) >>= g) ≡ (r >>= λ (x : A). f x >>= g)
bind_assoc (Ok x) f g = refl
bind_assoc (Err e) f g = refl

pub bind_same : {A B E : Type 0} → (r : Result A E) (f g : A → Result B E) → ((x : A) → f x ≡ g x) → (r >>= f) ≡ (r >>= g)
bind_same (Ok x) f g same = same x
bind_same (Err e) f g same = refl

-- what holds of whatever steps give

pub then_all : {A B E : Type 0} (P : B → Type 0) (r : Result A E) (f : A → Result B E) (y : B) → ((x : A) → r ≡ Ok x → f x ≡ Ok y → P y) → (r >>= f) ≡ Ok y → P y
then_all P (Ok x) f y all is = all x refl is
then_all P (Err e) f y all is = cc

pub or_else : {B E : Type 0} (P : B → Type 0) (b : Bool) {r s : Result B E} (y : B) → (r ≡ Ok y → P y) → (s ≡ Ok y → P y) → (if b then r else s) ≡ Ok y → P y
or_else P true y first second is = first is
or_else P false y first second is = second is

pub ok_all : {B E : Type 0} (P : B → Type 0) (x y : B) → P x → ◌≡◌ {A = Result B E} (Ok x) (Ok y) → P y
ok_all P x y holds is = let same : x ≡ y = cc in subst P same holds

pub err_all : {B E : Type 0} (P : B → Type 0) (e : E) (y : B) → ◌≡◌ {A = Result B E} (Err e) (Ok y) → P y
err_all P e y is = cc

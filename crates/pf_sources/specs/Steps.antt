-- Steps that may stop, one after another, and when a function leaves what is wanted.
use Rattle.std.specs.Prelude.{◌≡◌, List, [], ◌∷◌, Result, Ok, Err}
use Rattle.pf_form.specs.Form.Forms.{◌>>=◌}
use Rattle.pf_parse.specs.declared.{fault.Stop.Stop, fault.Stop.TheVariants.{Faulty, Needs, Memory}}

-- a step for each of these in turn, as long as none stops
unfoldable pub each : {A S E : Type 0} → (A → S → Result S E) → List A → S → Result S E
each step [] s = Ok s
each step (x ∷ xs) s = step x s >>= λ t. each step xs t

-- What a function leaves is what is wanted, unless memory runs out.
abbrev pub Leaves : {A : Type 0} → Result (Unit {0}) Stop → A → Result A Stop → Type 0
Leaves (Ok done) x wanted = wanted ≡ Ok x
Leaves (Err (Faulty f)) x wanted = wanted ≡ Err (Faulty f)
Leaves (Err (Needs name)) x wanted = wanted ≡ Err (Needs name)
Leaves (Err Memory) x wanted = Unit {0}

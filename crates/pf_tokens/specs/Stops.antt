-- Why a text isn't read, and when a function gives what is wanted.
use Rattle.std.specs.Prelude.{◌≡◌, Result, Ok, Err}
use Rattle.pf_tokens.specs.declared.{place.Place.Place, fault.Mistake.Mistake, fault.TokenStop.TokenStop, fault.TokenStop.TheVariants.{Faulty, Needs, Memory}}

abbrev pub faulty : Place → Mistake → TokenStop
faulty p m = Faulty (record { place = p; mistake = m })

-- A function gives what is wanted, unless memory runs out.
abbrev pub Gives : {A : Type 0} → Result A TokenStop → Result A TokenStop → Type 0
Gives (Ok x) wanted = wanted ≡ Ok x
Gives (Err (Faulty f)) wanted = wanted ≡ Err (Faulty f)
Gives (Err (Needs name)) wanted = wanted ≡ Err (Needs name)
Gives (Err Memory) wanted = Unit {0}

-- What a function leaves is what is wanted, unless memory runs out.
abbrev pub Leaves : {A B : Type 0} → Result B TokenStop → A → Result A TokenStop → Type 0
Leaves (Ok done) x wanted = wanted ≡ Ok x
Leaves (Err (Faulty f)) x wanted = wanted ≡ Err (Faulty f)
Leaves (Err (Needs name)) x wanted = wanted ≡ Err (Needs name)
Leaves (Err Memory) x wanted = Unit {0}

-- Why a part of a file isn't read, and when a function gives what is wanted.
use Rattle.std.specs.Prelude.{◌≡◌, Result, Ok, Err}
use Rattle.pf_tokens.specs.declared.place.Place.{Place}
use Rattle.pf_tokens.specs.declared.fault.TokenStop.{TokenStop}
use Rattle.pf_tokens.specs.declared.fault.TokenStop.TheVariants as token_stops
use Rattle.pf_parse.specs.declared.{fault.Mistake.Mistake, fault.Stop.Stop, fault.Stop.TheVariants.{Faulty, Needs, Memory}}
use Rattle.pf_parse.specs.declared.fault.Mistake.TheVariants as mistakes

abbrev pub fault_at : Place → Mistake → Stop
fault_at p m = Faulty (record { place = p; is = m })

-- what is wrong with the tokens is wrong with the file
abbrev pub stop_of : TokenStop → Stop
stop_of (token_stops.Faulty f) = fault_at f.place (mistakes.Token f.mistake)
stop_of (token_stops.Needs name) = Needs name
stop_of token_stops.Memory = Memory

-- A function gives what is wanted, unless memory runs out.
abbrev pub Gives : {A : Type 0} → Result A Stop → Result A Stop → Type 0
Gives (Ok x) wanted = wanted ≡ Ok x
Gives (Err (Faulty f)) wanted = wanted ≡ Err (Faulty f)
Gives (Err (Needs name)) wanted = wanted ≡ Err (Needs name)
Gives (Err Memory) wanted = Unit {0}

-- A function that tells a fault tells what is wanted, unless memory runs out.
abbrev pub TellsStop : Stop → Stop → Type 0
TellsStop (Faulty f) wanted = wanted ≡ Faulty f
TellsStop (Needs name) wanted = wanted ≡ Needs name
TellsStop Memory wanted = Unit {0}

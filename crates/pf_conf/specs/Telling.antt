-- What a user is told: where, and what.
use Rattle.std.specs.Prelude.{◌≡◌, ℕ, List, [], Option, Some, None, Result, Ok, Err}
use Rattle.std.specs.{List.slice_get, Option.option_map}
use denote.Ref.{Bor}
use Rattle.pf_tokens.specs.declared.{place.Place.Place, files.File.File, flat.Macro.Macro}
use Rattle.pf_tokens.specs.declared.fault.TokenStop.{TokenStop}
use Rattle.pf_tokens.specs.declared.fault.TokenStop.TheVariants as token_stops
use Rattle.pf_parse.specs.declared.{fault.Mistake.Mistake, fault.Stop.Stop}
use Rattle.pf_parse.specs.declared.fault.Mistake.TheVariants as mistakes
use Rattle.pf_parse.specs.declared.fault.Stop.TheVariants as stops
use Rattle.pf_parse.specs.{Stops.stop_of, Reading.Word}
use Rattle.pf_conf.specs.declared.{fault.Spot.Spot, fault.Unread.Unread, fault.Unread.TheVariants.{Faulty, Needs, Memory}}

abbrev pub name_of_file : Option File → Word
name_of_file None = []
name_of_file (Some f) = f.name

abbrev pub name_of_macro : List Macro → Option ℕ → Option Word
name_of_macro ms None = None
name_of_macro ms (Some n) = option_map (λ (m : Macro). m.name) (slice_get ms n)

-- where a user finds a place, given the macros of its file's reading
abbrev pub spot_of : List File → List Macro → Place → Spot
spot_of files ms p =
    record { file = name_of_file (slice_get files p.file); line = p.line; column = p.column; of_macro = name_of_macro ms p.value_of }

-- the beginning of a file
abbrev pub first_spot : Word → Spot
first_spot name = record { file = name; line = 1; column = 1; of_macro = None }

abbrev pub unread_at : Spot → Mistake → Unread
unread_at spot m = Faulty (record { spot = spot; mistake = m })

abbrev pub unread_of : List File → List Macro → Stop → Unread
unread_of files ms (stops.Faulty f) = unread_at (spot_of files ms f.place) f.is
unread_of files ms (stops.Needs name) = Needs name
unread_of files ms stops.Memory = Memory

-- a stop within a file is told by the macros of its reading
abbrev pub telling : {A : Type 0} → List File → List Macro → Result A Stop → Result A Unread
telling files ms (Ok x) = Ok x
telling files ms (Err e) = Err (unread_of files ms e)

-- the same, where the macros come with it
abbrev pub telling_with : {A : Type 0} → List File → Result A (TokenStop × List Macro) → Result A Unread
telling_with files (Ok x) = Ok x
telling_with files (Err (e, ms)) = Err (unread_of files ms (stop_of e))

-- what is wrong with a file itself is told where it is named
abbrev pub telling_at : {A : Type 0} → Spot → Result A TokenStop → Result A Unread
telling_at spot (Ok x) = Ok x
telling_at spot (Err (token_stops.Faulty f)) = Err (unread_at spot (mistakes.Token f.mistake))
telling_at spot (Err (token_stops.Needs name)) = Err (Needs name)
telling_at spot (Err token_stops.Memory) = Err Memory

-- What is told is what is wanted, unless memory runs out.
abbrev pub Tells : Unread → Unread → Type 0
Tells (Faulty f) wanted = wanted ≡ Faulty f
Tells (Needs name) wanted = wanted ≡ Needs name
Tells Memory wanted = Unit {0}

-- A function gives what is wanted, unless memory runs out.
abbrev pub GivesWanted : {A : Type 0} → Result A Unread → Result A Unread → Type 0
GivesWanted (Ok x) wanted = wanted ≡ Ok x
GivesWanted (Err (Faulty f)) wanted = wanted ≡ Err (Faulty f)
GivesWanted (Err (Needs name)) wanted = wanted ≡ Err (Needs name)
GivesWanted (Err Memory) wanted = Unit {0}

-- The same of a text that is found.
abbrev pub FindsWanted : Result (ℕ × Bor Word) Unread → Result (ℕ × Word) Unread → Type 0
FindsWanted (Ok (n, text)) wanted = wanted ≡ Ok (n, text.now)
FindsWanted (Err (Faulty f)) wanted = wanted ≡ Err (Faulty f)
FindsWanted (Err (Needs name)) wanted = wanted ≡ Err (Needs name)
FindsWanted (Err Memory) wanted = Unit {0}

-- What it leaves is what is wanted, unless memory runs out.
abbrev pub LeavesWanted : {A : Type 0} → Result (Unit {0}) Unread → A → Result A Unread → Type 0
LeavesWanted (Ok done) x wanted = wanted ≡ Ok x
LeavesWanted (Err (Faulty f)) x wanted = wanted ≡ Err (Faulty f)
LeavesWanted (Err (Needs name)) x wanted = wanted ≡ Err (Needs name)
LeavesWanted (Err Memory) x wanted = Unit {0}

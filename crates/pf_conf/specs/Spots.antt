-- Where a user finds a fault or a note, as it is told.
use Rattle.std.specs.Prelude.{ℕ, ◌++◌, List, codes, decimal}
use Rattle.pf_tokens.specs.Places.{shown}
use Rattle.pf_conf.specs.declared.fault.Spot.{Spot}

-- FILE:LINE:COLUMN
abbrev pub spot_text : Spot → List ℕ
spot_text s = shown s.file ++ codes ":" ++ decimal s.line ++ codes ":" ++ decimal s.column

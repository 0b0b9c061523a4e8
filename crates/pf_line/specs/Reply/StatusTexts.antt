-- The text of a status: one line of names and numbers.
use Rattle.std.specs.Prelude.{ℕ, List, [], ◌∷◌, ◌++◌, codes, decimal}
use Rattle.pf_line.specs.declared.reply.status.Status.{Status}

abbrev pub age_text : Status → List ℕ
age_text s = codes "epoch " ++ decimal s.epoch ++ (codes " changes " ++ decimal s.changes ++ (codes " tick " ++ decimal s.tick))

abbrev pub kept_text : Status → List ℕ
kept_text s = codes " rulesets " ++ decimal s.rulesets ++ (codes " tables " ++ decimal s.tables ++ (codes " states " ++ decimal s.states))

abbrev pub room_text : Status → List ℕ
room_text s = codes " held " ++ decimal s.held ++ (codes " of " ++ decimal s.size ++ (codes " sessions " ++ decimal s.sessions))

abbrev pub status_line : Status → List ℕ
status_line s = age_text s ++ (kept_text s ++ room_text s)

abbrev pub status_text : Status → List ℕ
status_text s = status_line s ++ 10 ∷ []

-- The files that are given: a function from names to what they have.
use Rattle.std.specs.Prelude.{◌≡◌, ℕ, ◌+◌, nat_lt, nat_le, List, [], ◌∷◌, length, Option, Some, None, Result, Ok, Err, IsErr, if◌then◌else◌}
use Rattle.std.specs.Str.{bytes_eq}
use denote.Ref.{Bor}
use Rattle.pf_tokens.specs.declared.{place.Place.Place, files.File.File, files.Contents.Contents, files.Contents.TheVariants.{Text, Unreadable}, files.TheConstants.{FILE_LIMIT, READING_LIMIT}, fault.TokenStop.TokenStop, fault.TokenStop.TheVariants.{Faulty, Needs, Memory}}
use Rattle.pf_tokens.specs.declared.fault.Mistake.TheVariants as mistakes
use Rattle.pf_tokens.specs.Stops.{faulty}

-- the first file with this name, with its number, given that of the first one here
abbrev pub file_from : ℕ → List ℕ → List File → Option (ℕ × Contents)
file_from n name [] = None
file_from n name (f ∷ fs) = if bytes_eq f.name name then Some (n, f.contents) else file_from (n + 1) name fs

-- a file, with its number, is the one that was found
abbrev pub IsFound : Option (ℕ × Bor File) → Option (ℕ × Contents) → Type 0
IsFound None found = found ≡ None
IsFound (Some (n, f)) found = found ≡ Some (n, f.now.contents)

-- what a file has that is named at this place
abbrev pub contents_at : Place → List ℕ → Option (ℕ × Contents) → Result (ℕ × List ℕ) TokenStop
contents_at at name None = Err (Needs name)
contents_at at name (Some (n, Unreadable)) = Err (faulty at (mistakes.Unreadable name))
contents_at at name (Some (n, Text bytes)) = if nat_le (length bytes) FILE_LIMIT then Ok (n, bytes) else Err (faulty at mistakes.LongFile)

-- the number and the text of a file that is named at this place, as the next after so many
unfoldable pub text_of_file : List File → ℕ → Place → List ℕ → Result (ℕ × List ℕ) TokenStop
text_of_file files files_read at name =
    if nat_lt files_read READING_LIMIT then contents_at at name (file_from 0 name files) else Err (faulty at mistakes.ManyFiles)

-- What is found is what is wanted. Memory can only run out where a name is told.
abbrev pub Finds : Result (ℕ × Bor (List ℕ)) TokenStop → Result (ℕ × List ℕ) TokenStop → Type 0
Finds (Ok (n, text)) wanted = wanted ≡ Ok (n, text.now)
Finds (Err (Faulty f)) wanted = wanted ≡ Err (Faulty f)
Finds (Err (Needs name)) wanted = wanted ≡ Err (Needs name)
Finds (Err Memory) wanted = IsErr wanted

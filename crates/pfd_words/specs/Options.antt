-- What the options of a subcommand say. `met` is the subcommand that clap found, with its options.
use Rattle.std.specs.Prelude.{◌≡◌, Bool, true, false, List, [], Option, Some, None, codes, map, option_and_then, option_map, unwrap_or}
use denote.Ref.{Bor}
use Rattle.clap.specs.Words.{Row, Text, all_of, first_of, one_of}

-- the text of an option of the subcommand
abbrev pub text_in : Text → Option (Text × List Row) → Option Text
text_in id met = option_and_then (λ m. first_of id m.1) met

-- the text of an option that must be there
abbrev pub SaysText : Text → Option (Text × List Row) → Text → Type 0
SaysText id met text = text ≡ unwrap_or (text_in id met) []

-- the text of an option, or none if the option isn't there
abbrev pub MaySayText : Text → Option (Text × List Row) → Option (Bor Text) → Type 0
MaySayText id met text = option_map (λ s. s.now) text ≡ text_in id met

-- the texts of an option that may be said again, in their order
abbrev pub SaysTexts : Text → Option (Text × List Row) → List Text → Type 0
SaysTexts id met texts = texts ≡ unwrap_or (option_and_then (λ m. all_of id m.1) met) []

-- what clap says of an option without a value: whether it is there
abbrev pub IsFlag : Option Text → Bool → Type 0
IsFlag None said = said ≡ false
IsFlag (Some text) said = (text ≡ codes "true" → said ≡ true) × (text ≡ codes "false" → said ≡ false)

abbrev pub SaysFlag : Text → Option (Text × List Row) → Bool → Type 0
SaysFlag id met said = IsFlag (option_and_then (λ m. one_of id m.1) met) said

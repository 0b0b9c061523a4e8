-- References to rulesets (pf.conf(5), ANCHORS): names of a path, followed by "/*" if the rulesets attached to it are meant, and perhaps
-- quotes around it all. The limit of bytes is this project's own.
use Rattle.std.specs.{Prelude.{ℕ, ◌-◌, ◌++◌, Bool, true, false, if◌then◌else◌, List, [], length, take, drop, codes, Option, Some, None, Result, Ok, Err}, Option.{option_and_then, option_map_or}, Str.bytes_eq}
use Rattle.pf_addr.specs.declared.path.limits.TheConstants.{REFERENCE_LIMIT}
use Rattle.pf_form.specs.declared.form.fault.Kind.{Kind}
use Rattle.pf_addr.specs.Path.Paths.{fault_within}
use Rattle.pf_form.specs.Form.Words.{Word}

-- the names of a path, and whether they mean the rulesets attached to it instead of its own
pub record PlainReference : Type 0 where
  pub names : List ℕ
  pub wildcard : Bool

abbrev pub refers : List ℕ → Bool → PlainReference
refers names wildcard = record { names = names; wildcard = wildcard }

abbrev pub quote : Word
quote = codes "\""

abbrev pub ending : Word
ending = codes "/*"

-- what comes after this front of a text
abbrev pub rest_after : Word → Word → Option Word
rest_after front text = if bytes_eq (take (length front) text) front then Some (drop (length front) text) else None

-- what comes before this end of a text
abbrev pub before : Word → Word → Option Word
before end text = if bytes_eq (drop (length text - length end) text) end then Some (take (length text - length end) text) else None

-- what is between two quotes, or else the word
abbrev pub unquoted : Word → Word
unquoted w = option_map_or (λ text. text) (option_and_then (before quote) (rest_after quote w)) w

-- the names before "/*", or else the whole text
abbrev pub split_wildcard : Word → PlainReference
split_wildcard text = option_map_or (λ names. refers names true) (before ending text) (refers text false)

-- why a text isn't a reference: first its whole length, then its names as a path's
abbrev pub reference_fault : Word → Option Kind
reference_fault text = fault_within REFERENCE_LIMIT text (split_wildcard text).names

abbrev pub reference_in : Word → Result PlainReference Kind
reference_in text = option_map_or (λ k. Err k) (reference_fault text) (Ok (split_wildcard text))

-- a reference as a word of a rule
abbrev pub reference_of : Word → Result PlainReference Kind
reference_of w = reference_in (unquoted w)

-- a reference as it is written, without quotes or with them
abbrev pub reference_text : PlainReference → Word
reference_text r = r.names ++ (if r.wildcard then ending else [])

abbrev pub quoted : Word → Word
quoted text = quote ++ (text ++ quote)

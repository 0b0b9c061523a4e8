-- Which fault a word has that isn't a name, a path or a reference, by cases on the word. The order of faults is this project's own.
use Rattle.std.specs.{Prelude.{◌≡◌, ◌≢◌, ℕ, ◌<◌, ◌≤◌, ◌⊎◌, true, false, List, [], ◌∷◌, ◌++◌, length, codes}, List.{AllByRecursion, list_all}}
use Rattle.pf_addr.specs.declared.path.limits.TheConstants.{PATH_LIMIT, COMPONENT_LIMIT, DEPTH_LIMIT, REFERENCE_LIMIT}
use Rattle.pf_form.specs.declared.form.fault.Kind.{Kind, TheVariants.{BadWord, NameTooLong, BadProto}}
use Rattle.pf_addr.specs.Path.{Names.is_name_byte, Paths.{components, is_component}, PathGrammar.IsComponent, References.{ending, quoted}}
use Rattle.pf_form.specs.Form.Words.{Word}

-- A name past its limit is too long whatever its bytes; a shorter one is empty, or has another byte.
abbrev pub IsNameFault : ℕ → Word → Kind → Type 0
IsNameFault limit w NameTooLong = limit < length w
IsNameFault limit w BadWord = (length w ≤ limit) × ((w ≡ []) ⊎ (list_all is_name_byte w ≡ false))
IsNameFault limit w BadProto = ⊥

-- A component that is empty, has another byte, or is ".." or "-" is a bad word whatever its length; any other fault is its length.
abbrev pub IsComponentFault : List ℕ → Kind → Type 0
IsComponentFault c BadWord = is_component c ≡ false
IsComponentFault c NameTooLong = (is_component c ≡ true) × (COMPONENT_LIMIT < length c)
IsComponentFault c BadProto = ⊥

-- Names in a text of at most so many bytes: the text is longer; or one component has the fault, and each before it is good; or all are
-- good, and there are too many.
pub data IsFaultWithin (limit : ℕ) (text names : Word) (kind : Kind) : Type 0 where
  too_long : limit < length text → kind ≡ NameTooLong → IsFaultWithin limit text names kind
  bad_component : length text ≤ limit → (front following : List (List ℕ)) → (c : List ℕ) → components names ≡ front ++ c ∷ following
      → AllByRecursion IsComponent front → IsComponentFault c kind → IsFaultWithin limit text names kind
  too_deep : length text ≤ limit → AllByRecursion IsComponent (components names) → DEPTH_LIMIT < length (components names)
      → kind ≡ NameTooLong → IsFaultWithin limit text names kind

-- "-" is the main ruleset's path
abbrev pub IsPathFault : Word → Kind → Type 0
IsPathFault w kind = (w ≢ codes "-") × IsFaultWithin PATH_LIMIT w w kind

-- what is between two quotes, or the whole word if it isn't in quotes
abbrev pub IsUnquoted : Word → Word → Type 0
IsUnquoted w text = (w ≡ quoted text) ⊎ ((w ≡ text) × ((t : Word) → w ≢ quoted t))

-- what comes before "/*", or the whole text if it doesn't end so
abbrev pub IsUnended : Word → Word → Type 0
IsUnended text names = (text ≡ names ++ ending) ⊎ ((text ≡ names) × ((n : Word) → text ≢ n ++ ending))

-- The quotes don't count in any length; "/*" counts in the text's.
abbrev pub IsReferenceFault : Word → Kind → Type 0
IsReferenceFault w kind = (text names : Word) × IsUnquoted w text × IsUnended text names × IsFaultWithin REFERENCE_LIMIT text names kind

-- What follows from the definitions of references, as laws in contracts.
use Rattle.std.specs.Prelude.{◌≡◌, Ok}
use Rattle.pf_addr.specs.Path.{References.{PlainReference, reference_of}, ReferenceGrammar.SpellsReference}
use Rattle.pf_form.specs.Form.Words.{Word}

-- what is read is what the word spells
abbrev pub ReferenceIsSpelled : Type 0
ReferenceIsSpelled = (w : Word) (r : PlainReference) → reference_of w ≡ Ok r → SpellsReference w r

-- and what is spelled is read
abbrev pub SpelledReferenceIsRead : Type 0
SpelledReferenceIsRead = (w : Word) (r : PlainReference) → SpellsReference w r → reference_of w ≡ Ok r

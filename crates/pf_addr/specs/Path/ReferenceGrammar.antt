-- Which words spell a reference (pf.conf(5), ANCHORS), by cases.
use Rattle.std.specs.Prelude.{◌≡◌, ◌⊎◌, ◌≤◌, length}
use Rattle.pf_addr.specs.Path.{PathGrammar.IsNames, References.{PlainReference, reference_text, quoted}}
use Rattle.pf_form.specs.Form.Words.{Word}
use Rattle.pf_addr.specs.declared.path.limits.TheConstants.{REFERENCE_LIMIT}

-- names of a path, at most 63 bytes including the "/*" after them
pub record IsReference (r : PlainReference) : Type 0 where
  pub names : IsNames r.names
  pub short : length (reference_text r) ≤ REFERENCE_LIMIT

-- a reference is spelled by its text, with or without quotes
abbrev pub SpellsReference : Word → PlainReference → Type 0
SpellsReference w r = IsReference r × ((w ≡ reference_text r) ⊎ (w ≡ quoted (reference_text r)))

-- Which words spell a path (pf.conf(5), ANCHORS), by cases.
use Rattle.std.specs.{Prelude.{◌≡◌, ◌≢◌, ◌⊎◌, ℕ, ◌<◌, ◌≤◌, true, List, length, codes}, List.{AllByRecursion, list_all, join_with_byte}}
use Rattle.pf_addr.specs.Path.{Names.is_name_byte, Paths.main}
use Rattle.pf_form.specs.Form.Words.{Word}
use Rattle.pf_addr.specs.declared.path.limits.TheConstants.{PATH_LIMIT, COMPONENT_LIMIT, DEPTH_LIMIT}

-- 1 to 63 bytes of a name, and neither ".." nor "-"
pub record IsComponent (c : List ℕ) : Type 0 where
  pub some : 0 < length c
  pub short : length c ≤ COMPONENT_LIMIT
  pub bytes : list_all is_name_byte c ≡ true
  pub no_dots : c ≢ codes ".."
  pub no_dash : c ≢ codes "-"

-- 1 to 16 components with a slash (47) between each two
pub record IsNames (w : Word) : Type 0 where
  pub parts : List (List ℕ)
  pub each : AllByRecursion IsComponent parts
  pub some : 0 < length parts
  pub few : length parts ≤ DEPTH_LIMIT
  pub joined : w ≡ join_with_byte 47 parts

-- and at most 255 bytes in all
pub record IsPathText (w : Word) : Type 0 where
  pub names : IsNames w
  pub short : length w ≤ PATH_LIMIT

-- "-" spells the main ruleset's path, and every other path spells itself
abbrev pub SpellsPath : Word → List ℕ → Type 0
SpellsPath w p = ((w ≡ codes "-") × (p ≡ main)) ⊎ (IsPathText w × (p ≡ w))

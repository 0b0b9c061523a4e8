-- What laws say of files that are loaded (pf.conf(5), "load anchor").
use Rattle.std.specs.Prelude.{◌≡◌, ◌<◌, ◌≤◌, ℕ, List, length, Ok}
use Rattle.pf_tokens.specs.declared.{files.File.File, files.TheConstants.READING_LIMIT}
use Rattle.pf_parse.specs.declared.parser.Mode.{Mode}
use Rattle.pf_parse.specs.Reading.{Word}
use Rattle.pf_values.specs.declared.interfaces.interface.Interface.{Interface}
use Rattle.pf_conf.specs.{Found.nothing_found, Resolving.{main_file, with_file, loads_from}}
use Rattle.pf_load.specs.Files.Types.{Found}

-- this was found of the main file
abbrev pub IsOfMain : List File → List Interface → Mode → Word → Word → Found → Type 0
IsOfMain files interfaces mode base name s = with_file files interfaces mode base (main_file name) nothing_found ≡ Ok s

-- However many loads may be read, it is the same.
abbrev pub MoreLoadsChangeNothing : Type 0
MoreLoadsChangeNothing =
    (files : List File) (interfaces : List Interface) (mode : Mode) (base name : Word) (s : Found) (more : ℕ) →
    IsOfMain files interfaces mode base name s → READING_LIMIT ≤ more →
    loads_from files interfaces mode 0 more s ≡ loads_from files interfaces mode 0 READING_LIMIT s

-- There are fewer loads than may be read, so that none waits.
abbrev pub NoLoadWaits : Type 0
NoLoadWaits =
    (files : List File) (interfaces : List Interface) (mode : Mode) (base name : Word) (s t : Found) →
    IsOfMain files interfaces mode base name s →
    loads_from files interfaces mode 0 READING_LIMIT s ≡ Ok t → length t.waiting < READING_LIMIT

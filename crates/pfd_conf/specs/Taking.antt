-- A pf.conf with all files that it names (pf.conf(5), "include", "load anchor" and "table .. file"), and what is printed of it.
use Rattle.std.specs.Prelude.{◌≡◌, ℕ, List, [], ◌∷◌, ◌++◌, All, Option, Some, None, Result, Ok, Err}
use Rattle.std.specs.declared.alloc.AllocError.{AllocError}
use Rattle.std.specs.Io.KnownBytes.{Appends, Keeps}
use Rattle.pf_form.specs.Form.Forms.{◌>>=◌}
use Rattle.pf_addr.specs.Writing.{WritesFront}
use Rattle.pf_tokens.specs.declared.{files.File.File, files.Contents.Contents}
use Rattle.pf_values.specs.declared.interfaces.interface.Interface.{Interface}
use Rattle.pf_values.specs.Interfaces.Interfaces.{interface_of}
use Rattle.pf_parse.specs.declared.parser.Mode.{Mode}
use Rattle.pf_parse.specs.Reading.{Word}
use Rattle.pf_conf.specs.declared.{fault.Unread.Unread, found.Conf.Conf}
use Rattle.pf_conf.specs.declared.fault.Unread.TheVariants as unread
use Rattle.pf_conf.specs.{Resolving.resolved, Shown.shown}
use Rattle.pfd_conf.specs.declared.fault.Fault.{Fault}
use Rattle.pfd_conf.specs.declared.fault.Fault.TheVariants as faults

-- ---- interfaces, as they are given

-- one behind others, or the text that gives none
abbrev pub with_given : List Interface → Word → Option Interface → Result (List Interface) Word
with_given is text None = Err text
with_given is text (Some i) = Ok (is ++ i ∷ [])

-- the interfaces that these texts give, or the first text that gives none
unfoldable pub interfaces_given : List Interface → List Word → Result (List Interface) Word
interfaces_given is [] = Ok is
interfaces_given is (text ∷ texts) = with_given is text (interface_of text) >>= λ known. interfaces_given known texts

-- The interfaces are read, or the fault tells the first text that gives none; or memory ran out.
abbrev pub AreGiven : Result (List Interface) Word → Result (List Interface) Fault → Type 0
AreGiven wanted (Ok is) = wanted ≡ Ok is
AreGiven wanted (Err (faults.Interface text)) = wanted ≡ Err text
AreGiven wanted (Err faults.Memory) = Unit {0}
AreGiven wanted (Err f) = ⊥

-- The same of a function that leaves them.
abbrev pub GoesOn : Result (Unit {0}) Fault → List Interface → Result (List Interface) Word → Type 0
GoesOn (Ok u) is wanted = wanted ≡ Ok is
GoesOn (Err f) is wanted = AreGiven wanted (Err f)

-- ---- files

-- what may be read under a name
abbrev pub Reads : Type 1
Reads = Word → Result Contents AllocError → Type 0

-- each of the files has what was read under its name
abbrev pub AreRead : Reads → List File → Type 0
AreRead reads files = All (λ (f : File). reads f.name (Ok f.contents)) files

-- A file means this, with files that were read.
pub record IsTaken (reads : Reads) (interfaces : List Interface) (mode : Mode) (base name : Word) (conf : Conf) : Type 0 where
  pub files : List File
  pub read : AreRead reads files
  pub means : resolved files interfaces mode base name ≡ Ok conf

-- It isn't taken, with files that were read.
pub record IsUntaken (reads : Reads) (interfaces : List Interface) (mode : Mode) (base name : Word) (why : Unread) : Type 0 where
  pub files : List File
  pub read : AreRead reads files
  pub stops : resolved files interfaces mode base name ≡ Err why

-- why a file isn't taken, as it is told
abbrev pub Refuses : Reads → List Interface → Mode → Word → Word → Fault → Type 0
Refuses reads interfaces mode base name (faults.Conf f) = IsUntaken reads interfaces mode base name (unread.Faulty f)
Refuses reads interfaces mode base name (faults.Unread n) = IsUntaken reads interfaces mode base name (unread.Needs n)
Refuses reads interfaces mode base name faults.Memory = Unit {0}
Refuses reads interfaces mode base name f = ⊥

-- The same, or it is taken, and what is noted of it couldn't be written.
abbrev pub RefusesOrStops : Reads → List Interface → Mode → Word → Word → Fault → Type 0
RefusesOrStops reads interfaces mode base name faults.Output = (conf : Conf) × IsTaken reads interfaces mode base name conf
RefusesOrStops reads interfaces mode base name f = Refuses reads interfaces mode base name f

-- The fault tells why what is known isn't a meaning.
abbrev pub IsRefused : Result Conf Unread → Fault → Type 0
IsRefused known (faults.Conf f) = known ≡ Err (unread.Faulty f)
IsRefused known (faults.Unread n) = known ≡ Err (unread.Needs n)
IsRefused known faults.Memory = known ≡ Err unread.Memory
IsRefused known f = ⊥

-- What a file means is written; or it isn't taken, and nothing is; or writing failed, behind a front of it.
abbrev pub IsChecked : Reads → List Interface → Mode → Word → Word → Result (Unit {0}) Fault → Option (List ℕ) → Option (List ℕ) → Type 0
IsChecked reads interfaces mode base name (Ok u) old new =
    (conf : Conf) × IsTaken reads interfaces mode base name conf × Appends old new (shown conf)
IsChecked reads interfaces mode base name (Err faults.Output) old new =
    (conf : Conf) × IsTaken reads interfaces mode base name conf × WritesFront old new (shown conf)
IsChecked reads interfaces mode base name (Err f) old new = Refuses reads interfaces mode base name f × Keeps old new

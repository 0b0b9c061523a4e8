-- Why the bytes of a disk aren't read.
use Rattle.std.specs.Prelude.{ℕ, List}
use Rattle.pf_store.specs.{Openings.IsUnopened, declared.store.fault.OpenFault.OpenFault}
use Rattle.pf_store.specs.declared.store.fault.OpenFault.TheVariants as opening
use Rattle.wirdalf_c.specs.declared.fault.ReadFault.{ReadFault, TheVariants.{BadSize, NoBank, Corrupt, Memory}}

-- what is true of them; that memory ran out says nothing of them
abbrev pub IsUnread : ReadFault → List ℕ → Type 0
IsUnread BadSize bytes = IsUnopened opening.BadSize bytes
IsUnread NoBank bytes = IsUnopened opening.NoBank bytes
IsUnread (Corrupt at) bytes = IsUnopened (opening.Corrupt at) bytes
IsUnread Memory bytes = Unit {0}

-- the fault for each of a store
abbrev pub unread : OpenFault → ReadFault
unread opening.BadSize = BadSize
unread opening.NoBank = NoBank
unread (opening.Corrupt at) = Corrupt at
unread _ = Memory

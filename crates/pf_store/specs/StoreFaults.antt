-- Which error it is, and which errors depend only on the device's bytes.
use Rattle.std.specs.Prelude.{ℕ, Bool, true, false, Result, Ok, Err}
use Rattle.pf_snap.specs.declared.fault.LookFault.{LookFault}
use Rattle.pf_snap.specs.declared.fault.LookFault.TheVariants as looking
use Rattle.pf_store.specs.declared.store.fault.{SaveFault.SaveFault, OpenFault.OpenFault, OpenFault.TheVariants.{BadSize, NoBank, Corrupt, Memory, Fault, EpochsExhausted, Full, Places}}
use Rattle.pf_store.specs.declared.store.fault.SaveFault.TheVariants as saving
use Rattle.pf_store.specs.declared.store.fault.AddFault.{AddFault}
use Rattle.pf_store.specs.declared.store.fault.AddFault.TheVariants as adding
use Rattle.pf_snap.specs.declared.fault.SwitchFault.{SwitchFault}
use Rattle.pf_snap.specs.declared.fault.SwitchFault.TheVariants as switching

abbrev is_saving_fault : SaveFault → Bool
is_saving_fault saving.Memory = false
is_saving_fault saving.Full = false
is_saving_fault saving.Fault = true
is_saving_fault saving.Halted = false

-- a call of the device failed
abbrev pub is_save_fault : {T : Type 0} → Result T SaveFault → Bool
is_save_fault (Ok x) = false
is_save_fault (Err e) = is_saving_fault e

-- `Ok`, `Memory` and `Fault` come only if this holds, and `Full` only if it doesn't.
abbrev pub TellsRoom : {T : Type 0} → Result T SaveFault → Type 0 → Type 0
TellsRoom (Ok x) P = P
TellsRoom (Err saving.Memory) P = P
TellsRoom (Err saving.Full) P = ¬ P
TellsRoom (Err saving.Fault) P = P
TellsRoom (Err saving.Halted) P = Unit {0}

abbrev pub is_fault : OpenFault → Bool
is_fault BadSize = false
is_fault NoBank = false
is_fault (Corrupt at) = false
is_fault Memory = false
is_fault Fault = true
is_fault EpochsExhausted = false
is_fault Full = false
is_fault Places = false

-- a call of the device failed
abbrev pub is_open_fault : {T : Type 0} → Result T OpenFault → Bool
is_open_fault (Ok x) = false
is_open_fault (Err e) = is_fault e

-- the same where the device comes with the error
abbrev pub is_opening_fault : {T X : Type 0} → Result T (OpenFault × X) → Bool
is_opening_fault (Ok x) = false
is_opening_fault (Err e) = is_fault e.0

-- it says that nothing that can be kept is held by a generation below 2^63
abbrev pub SaysNone : OpenFault → Type 0
SaysNone BadSize = Unit {0}
SaysNone NoBank = Unit {0}
SaysNone (Corrupt at) = Unit {0}
SaysNone Memory = ⊥
SaysNone Fault = ⊥
SaysNone EpochsExhausted = ⊥
SaysNone Full = ⊥
SaysNone Places = ⊥

-- corrupt at a place for which P holds, or out of memory
abbrev pub BreaksOff : OpenFault → (ℕ → Type 0) → Type 0
BreaksOff BadSize P = ⊥
BreaksOff NoBank P = ⊥
BreaksOff (Corrupt at) P = P at
BreaksOff Memory P = Unit {0}
BreaksOff Fault P = ⊥
BreaksOff EpochsExhausted P = ⊥
BreaksOff Full P = ⊥
BreaksOff Places P = ⊥

-- the same error, if it came from a look at a device
abbrev pub unlooked : LookFault → OpenFault
unlooked looking.BadSize = BadSize
unlooked looking.NoBank = NoBank
unlooked (looking.Corrupt at) = Corrupt at
unlooked looking.Memory = Memory
unlooked looking.Fault = Fault

-- ---- adding a record

abbrev is_adding_fault : AddFault → Bool
is_adding_fault adding.Memory = false
is_adding_fault adding.Full = false
is_adding_fault adding.Fault = true

-- a call of the device failed
abbrev pub is_add_fault : {T : Type 0} → Result T AddFault → Bool
is_add_fault (Ok x) = false
is_add_fault (Err e) = is_adding_fault e

-- why a device isn't opened, if its record wasn't added
abbrev pub unadded : AddFault → OpenFault
unadded adding.Memory = Memory
unadded adding.Full = Full
unadded adding.Fault = Fault

-- why a record wasn't added, if its switch failed
abbrev pub switched_to : SwitchFault → AddFault
switched_to switching.Memory = adding.Memory
switched_to switching.Fault = adding.Fault

-- The program's fault for each fault of the crates below.
use Rattle.pf_disk.specs.declared.file.FileFault.{FileFault}
use Rattle.pf_disk.specs.declared.file.FileFault.TheVariants as file
use Rattle.pf_store.specs.declared.store.fault.OpenFault.{OpenFault}
use Rattle.pf_snap.specs.declared.fault.FormatFault.{FormatFault}
use Rattle.pf_snap.specs.declared.fault.FormatFault.TheVariants as formatting
use Rattle.pf_store.specs.declared.store.fault.OpenFault.TheVariants as opening
use Rattle.pfd_files.specs.declared.fault.{Fault.Fault, Fault.TheVariants.{BadSize, NoBank, Corrupt, Device, Memory, EpochsExhausted, Full, Places, Input}}

abbrev pub fault_of_opening : OpenFault → Fault
fault_of_opening opening.BadSize = BadSize
fault_of_opening opening.NoBank = NoBank
fault_of_opening (opening.Corrupt at) = Corrupt at
fault_of_opening opening.Memory = Memory
fault_of_opening opening.Fault = Device
fault_of_opening opening.EpochsExhausted = EpochsExhausted
fault_of_opening opening.Full = Full
fault_of_opening opening.Places = Places

abbrev pub fault_of_formatting : FormatFault → Fault
fault_of_formatting formatting.BadSize = BadSize
fault_of_formatting formatting.Memory = Memory
fault_of_formatting formatting.Fault = Device

abbrev pub fault_of_file : FileFault → Fault
fault_of_file file.WrongLength = Input
fault_of_file file.Fault = Device
fault_of_file file.Memory = Memory

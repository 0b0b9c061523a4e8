-- A store over a device.
use Rattle.std.specs.Prelude.{ℕ, ◌-◌, ◌^◌, ◌<◌, Bool, List, length, Result, Ok, Err}
use Rattle.pf_disk.specs.Disk.{IsSynced}
use Rattle.pf_snap.specs.{Banks.{bank_size, Content}, Ready.{IsReady, Keeps}, declared.banks.Banks.Banks}
use Rattle.pf_core.specs.Durable.Changes.{PlainDurable}
use Rattle.pf_store.specs.{Stores.{Holds, Makes}, declared.store.fault.OpenFault.OpenFault}

-- What contracts see of a store: its device; how many bytes each of its banks has; the version and the generation of the one that counts,
-- and how many bytes that one has from its closed gate on; whether a save met a fault.
pub record PlainStore (D : Type 0) : Type 0 where
  pub disk : D
  pub size : ℕ
  pub version : ℕ
  pub generation : ℕ
  pub room : ℕ
  pub halted : Bool

abbrev pub store_with : {D : Type 0} → (seen : D → List ℕ) → Banks D → Bool → PlainStore D
store_with seen banks halted = record {
  disk = banks.journal.disk;
  size = bank_size (length (seen banks.journal.disk));
  version = banks.version;
  generation = banks.generation;
  room = banks.journal.end - banks.journal.gate;
  halted = halted;
}

-- The store stands for what is kept: its device holds it, and nothing is unsynced.
pub record Stands {D : Type 0} (seen : D → List ℕ) (unsynced : D → ℕ → Bool) (store : PlainStore D) (d : PlainDurable) : Type 0 where
  pub holds : Holds (seen store.disk) d
  pub synced : IsSynced (unsynced store.disk)

-- the device that a result of an opening has, wherever it has it
abbrev pub device_of : {D : Type 0} → Result (PlainDurable × PlainStore D) (OpenFault × D) → D
device_of (Ok r) = r.1.disk
device_of (Err e) = e.1

-- what a store's type guarantees as long as it isn't halted
pub record IsStore {D : Type 0} (seen : D → List ℕ) (unsynced : D → ℕ → Bool) (faults : D → ℕ) (banks : Banks D) : Type 0 where
  pub ready : IsReady seen unsynced banks
  pub content : Content
  pub keeps : Keeps seen banks content
  pub few : faults banks.journal.disk < 2 ^ 63

-- the banks hold what is kept, and their fields agree with it
pub record HaveKept {D : Type 0} (seen : D → List ℕ) (banks : Banks D) (d : PlainDurable) : Type 0 where
  pub content : Content
  pub keeps : Keeps seen banks content
  pub makes : Makes content d

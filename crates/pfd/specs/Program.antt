-- What the program does with its words.
use Rattle.std.specs.{Prelude.{◌≡◌, ◌⊎◌, ℕ, ◌+◌, ◌<◌, List, [], ◌∷◌, ◌++◌, length, flat_map, Option, Result, Ok, Err, OnOk, codes, vec_len}, Io.KnownBytes.Keeps}
use Rattle.std.specs.declared.{io.ErrorKind.ErrorKind, io.ErrorKind.TheVariants.OutOfMemory}
use Rattle.pf_addr.specs.Writing.{Writes}
use Rattle.pf_core.specs.{Durable.Changes.{PlainDurable, kept_nothing}, WorldBooks.{IsAt, StandsFor}, Worlds.{Event, begun, down, last_epoch, opened, raised, state_after, IsWorld}}
use Rattle.pf_store.specs.{Banks.{IsSize, bank_size}, Openings.IsUnopened, Rooms.on_device, Stores.Holds}
use Rattle.pf_store.specs.declared.store.fault.OpenFault.{OpenFault}
use Rattle.pf_book.specs.Books.{IsUnshown, PlainBook, PlainOpening, world_book, setting_of}
use Rattle.pfd_words.specs.declared.words.{Service.Service, Task.Task, Task.TheVariants.{Run, RunOn, Format, Show, Serve, Connect, Conf, Explain, Load, Status}, TheConstants.MEMORY_SIZE}
use Rattle.pf_session.specs.declared.line_engine.fault.EngineFault.{EngineFault}
use Rattle.pf_session.specs.declared.line_engine.fault.EngineFault.TheVariants as session
use Rattle.pf_session.specs.{LineEngine.Sessions.IsSession, Serving.Serves}
use Rattle.pfd_files.specs.declared.fault.{Fault.Fault, Fault.TheVariants.{BadSize, Device, Input, Memory, Output, Places}}
use Rattle.pfd_files.specs.{Faults.{fault_of_opening}, Showing.{IsOfFile, ShownOfFile}}

abbrev pub fault_of_session : EngineFault → Fault
fault_of_session session.Read = Input
fault_of_session session.Write = Output
fault_of_session session.Memory = Memory

-- what the program says of a session
abbrev pub ended : Result (Unit {0}) EngineFault → Result (Unit {0}) Fault
ended (Ok u) = Ok u
ended (Err fault) = Err (fault_of_session fault)

-- of worlds that come to this and don't have the last epoch, the Book stands for those with this opening at their end
abbrev pub Follows : {D : Type 0} → PlainOpening D → ℕ → PlainBook D → Type 0
Follows opening history book = (first d : PlainDurable) (world : List Event) → IsWorld first world → state_after (down first) world ≡ down d
    → d.epoch < last_epoch → opening.given ≡ raised d
    → StandsFor first (world_book book) (world ++ opened (setting_of opening history) ∷ [])

-- A session was served over what was opened, by a Book with room for so many changes.
pub record Began {D : Type 0} (faults : D → ℕ) (opening : PlainOpening D) (history : ℕ)
    (result : Result (Unit {0}) EngineFault) (unread still_unread held held' : Option (List ℕ)) : Type 0 where
  pub old : PlainBook D
  pub new : PlainBook D
  pub at : IsAt (begun (setting_of opening history) opening.given) (world_book old)
  pub device : old.disk ≡ opening.disk
  pub worlds : Follows opening history old
  pub session : IsSession (Serves faults) result unread still_unread old new held held'

-- So it was, or the copies for workers couldn't be made, and nothing was read or written.
abbrev pub ServesFrom : {D : Type 0} → (D → ℕ) → PlainOpening D → ℕ → Result (Unit {0}) Fault
    → Option (List ℕ) → Option (List ℕ) → Option (List ℕ) → Option (List ℕ) → Type 0
ServesFrom faults opening history result unread still_unread held held' =
    ((session : Result (Unit {0}) EngineFault) × (result ≡ ended session) × Began faults opening history session unread still_unread held held')
    ⊎ ((fault : OpenFault) × IsUnshown fault × (result ≡ Err (fault_of_opening fault)) × Keeps unread still_unread × Keeps held held')

-- A session was served over a disk in memory that was just formatted, by a Book with room for so many changes: it stands for the world in
-- which the first opening begins, with the room that a disk of this size has.
pub record IsMemorySession {M : Type 0} (faults : M → ℕ) (size history : ℕ)
    (result : Result (Unit {0}) EngineFault) (unread still_unread held held' : Option (List ℕ)) : Type 0 where
  pub size_is : IsSize size
  pub old : PlainBook M
  pub new : PlainBook M
  pub fresh : StandsFor (kept_nothing 0) (world_book old) (opened (on_device history (bank_size size)) ∷ [])
  pub session : IsSession (Serves faults) result unread still_unread old new held held'

-- Why there is no session over a disk in memory of so many bytes: it may not have so many; or it may, and there is no memory, the disk
-- fails, or there are no places for workers.
abbrev pub Hinders : ℕ → Fault → Type 0
Hinders size BadSize = ¬ IsSize size
Hinders size Memory = IsSize size
Hinders size Device = IsSize size
Hinders size Places = IsSize size
Hinders size fault = ⊥

-- It ran, or something kept it from beginning: then nothing was read or written.
abbrev pub IsMemoryRun : {M : Type 0} → (M → ℕ) → ℕ → ℕ → Result (Unit {0}) Fault
    → Option (List ℕ) → Option (List ℕ) → Option (List ℕ) → Option (List ℕ) → Type 0
IsMemoryRun faults size history result unread still_unread held held' =
    ((session : Result (Unit {0}) EngineFault) × (result ≡ ended session) × IsMemorySession faults size history session unread still_unread held held')
    ⊎ ((fault : Fault) × (result ≡ Err fault) × Hinders size fault × Keeps unread still_unread × Keeps held held')

-- What the disk held, in the next epoch, which there is: so of each world that leaves what the disk held the opening is the next event
-- (`Follows`), and the replies are legal after it. Each of its banks has half of its bytes.
pub record Opens {D : Type 0} (seen : List ℕ) (opening : PlainOpening D) : Type 0 where
  pub kept : PlainDurable
  pub held : Holds seen kept
  pub early : kept.epoch < last_epoch
  pub given : opening.given ≡ raised kept
  pub size : opening.size ≡ bank_size (length seen)

-- A session was served over what the disk held; or the disk couldn't be opened, for a cause that is there, and nothing was read or
-- written.
abbrev pub IsDeviceRun : {D : Type 0} → (D → List ℕ) → (D → ℕ) → D → ℕ → Result (Unit {0}) Fault
    → Option (List ℕ) → Option (List ℕ) → Option (List ℕ) → Option (List ℕ) → Type 0
IsDeviceRun {D = D} seen faults disk history result unread still_unread held held' =
    ((opening : PlainOpening D) × Opens (seen disk) opening × ServesFrom faults opening history result unread still_unread held held')
    ⊎ ((fault : OpenFault) × (result ≡ Err (fault_of_opening fault)) × IsUnopened fault (seen disk) × Keeps unread still_unread × Keeps held held')

-- So it was over some disk; or the file couldn't be had as one.
abbrev pub IsFileRun : {F : Type 0} → (F → List ℕ) → (F → ℕ) → ℕ → Result (Unit {0}) Fault
    → Option (List ℕ) → Option (List ℕ) → Option (List ℕ) → Option (List ℕ) → Type 0
IsFileRun {F = F} seen faults history result unread still_unread held held' =
    ((disk : F) × IsDeviceRun seen faults disk history result unread still_unread held held')
    ⊎ ((fault : Fault) × (result ≡ Err fault) × IsOfFile fault × Keeps unread still_unread × Keeps held held')

abbrev pub status_of : {E : Type 0} → Result (Unit {0}) E → ℕ
status_of (Ok u) = 0
status_of (Err fault) = 1

-- It ran, and the status says whether it came to the input's end; or it couldn't begin.
abbrev pub IsProgramRun : {M : Type 0} → (M → ℕ) → ℕ → ℕ → Option (List ℕ) → Option (List ℕ) → Option (List ℕ) → Option (List ℕ) → Type 0
IsProgramRun faults history status unread still_unread held held' =
    ((session : Result (Unit {0}) EngineFault) × (status ≡ status_of session) × IsMemorySession faults MEMORY_SIZE history session unread still_unread held held')
    ⊎ ((status ≡ 1) × Keeps unread still_unread × Keeps held held')

-- what is written once connections can be made to the address
abbrev pub listening_text : List ℕ → List ℕ
listening_text address = codes "listening " ++ (address ++ 10 ∷ [])

-- how many addresses the words say
abbrev pub address_count : Service → ℕ
address_count service = vec_len service.addresses + vec_len service.askers + vec_len service.peers

-- These addresses are listened on, and a line is written for each. Where all goes well they are as many as the words say.
abbrev pub IsListening : {A : Type 0} → Service → Result A Fault → Option (List ℕ) → Option (List ℕ) → Type 0
IsListening service result held held' =
    (bounds : List (List ℕ)) × Writes result held held' (flat_map listening_text bounds) × OnOk result (length bounds ≡ address_count service)

-- What was asked was done. Lines are read only for a session and to be sent to a server; formatting a disk writes nothing, and a server
-- writes where it listens. What is asked of a pf.conf is answered as pfd_conf says, and one is loaded as pf_load says. The functions count the faults of disks in memory, give
-- what a disk on a file reads as, and count the faults of such disks.
abbrev pub IsDone : {M F : Type 0} → (M → ℕ) → (F → List ℕ) → (F → ℕ) → Task → Result (Unit {0}) Fault
    → Option (List ℕ) → Option (List ℕ) → Option (List ℕ) → Option (List ℕ) → Type 0
IsDone memory seen file (Run size history) result unread still_unread held held' = IsMemoryRun memory size history result unread still_unread held held'
IsDone memory seen file (RunOn path size history) result unread still_unread held held' = IsFileRun seen file history result unread still_unread held held'
IsDone memory seen file (Format path size) result unread still_unread held held' = Keeps unread still_unread × Keeps held held'
IsDone memory seen file (Show path) result unread still_unread held held' = Keeps unread still_unread × ShownOfFile seen result held held'
IsDone memory seen file (Serve service) result unread still_unread held held' =
    Keeps unread still_unread × IsListening service result held held'
IsDone memory seen file (Connect address) result unread still_unread held held' = Unit {0}
IsDone memory seen file (Conf task) result unread still_unread held held' = Keeps unread still_unread
IsDone memory seen file (Explain task) result unread still_unread held held' = Keeps unread still_unread
IsDone memory seen file (Load task) result unread still_unread held held' = Keeps unread still_unread
IsDone memory seen file (Status address) result unread still_unread held held' = Keeps unread still_unread

-- The status if the words couldn't be had: 1 when out of memory, else 2.
abbrev pub status_without_words : ErrorKind → ℕ
status_without_words OutOfMemory = 1
status_without_words _ = 2

-- What is shown of a disk, and why it may not be.
use Rattle.std.specs.{Prelude.{◌≡◌, ◌≢◌, ◌⊎◌, ℕ, Bool, true, false, List, [], ◌∷◌, ◌++◌, codes, decimal, length, Option, Result, Ok, Err}, Io.KnownBytes.{Appends, Keeps}}
use Rattle.pf_addr.specs.Writing.{WritesFront}
use Rattle.pf_core.specs.Durable.Changes.{PlainDurable, main_sum}
use Rattle.pf_core.specs.declared.reply.{Answer.TheVariants.Sum, Reply.TheVariants.Answer}
use Rattle.pf_line.specs.Reply.Replies.{reply_text}
use Rattle.pf_store.specs.{Openings.IsUnopened, Stores.Holds}
use Rattle.pf_store.specs.declared.store.fault.{OpenFault.OpenFault, OpenFault.TheVariants.{EpochsExhausted, Full}}
use Rattle.pfd_files.specs.declared.fault.{Fault.Fault, Fault.TheVariants.{BadSize, Device, Input, Memory, Output}}
use Rattle.pfd_files.specs.Faults.{fault_of_opening}

-- a word, a number and a newline
abbrev pub number_line : List ℕ → ℕ → List ℕ
number_line word n = word ++ (decimal n ++ 10 ∷ [])

-- a checksum, after the word and as the line `sum` is answered
abbrev pub sum_line : List ℕ → List ℕ
sum_line sum = codes "sum " ++ reply_text (Answer (Sum sum))

-- the epoch, the checksum of the main rules, how many rulesets, tables and states there are, and the tick
abbrev pub shown_text : PlainDurable → List ℕ
shown_text d =
    number_line (codes "epoch ") d.epoch
    ++ (sum_line (main_sum d)
    ++ (number_line (codes "rulesets ") (length d.config.rulesets)
    ++ (number_line (codes "tables ") (length d.config.tables)
    ++ (number_line (codes "states ") (length d.states)
    ++ number_line (codes "tick ") d.tick))))

-- why a disk that is read but not opened can't be shown
pub record IsUnread (why : OpenFault) (seen : List ℕ) : Type 0 where
  pub refused : IsUnopened why seen
  pub epochs : why ≢ EpochsExhausted
  pub room : why ≢ Full

-- What a disk with these bytes holds was written. Or nothing was, since nothing was read that can be kept: the fault says why. Or a write
-- failed after some front of the text.
abbrev pub IsShown : Result (Unit {0}) Fault → List ℕ → Option (List ℕ) → Option (List ℕ) → Type 0
IsShown (Ok u) seen held held' = (d : PlainDurable) × Holds seen d × Appends held held' (shown_text d)
IsShown (Err fault) seen held held' =
    ((why : OpenFault) × (fault ≡ fault_of_opening why) × IsUnread why seen × Keeps held held')
    ⊎ ((fault ≡ Output) × ((d : PlainDurable) × Holds seen d × WritesFront held held' (shown_text d)))

abbrev is_device : Fault → Bool
is_device Device = true
is_device _ = false

-- a call of the disk failed
abbrev pub is_device_fault : {T : Type 0} → Result T Fault → Bool
is_device_fault (Ok x) = false
is_device_fault (Err fault) = is_device fault

-- ---- files

-- why a file can't be used as a disk
abbrev pub IsOfFile : Fault → Type 0
IsOfFile Input = Unit {0}
IsOfFile BadSize = Unit {0}
IsOfFile Device = Unit {0}
IsOfFile Memory = Unit {0}
IsOfFile fault = ⊥

-- Some disk was shown, as `IsShown` says; or the file couldn't be used as one, and nothing was written.
abbrev pub ShownOfFile : {F : Type 0} → (F → List ℕ) → Result (Unit {0}) Fault → Option (List ℕ) → Option (List ℕ) → Type 0
ShownOfFile {F = F} seen result held held' =
    ((disk : F) × IsShown result (seen disk) held held')
    ⊎ ((fault : Fault) × (result ≡ Err fault) × IsOfFile fault × Keeps held held')

-- What calls answer.
use Rattle.std.specs.{Prelude.{◌≡◌, ◌⊎◌, ℕ, min, true, false, List, length, take, slice_get, Option, None, Some, Result, Ok, Err, if◌then◌else◌}, Option.option_map}
use Rattle.pf_form.specs.declared.form.fault.Kind.{Kind}
use Rattle.pf_addr.specs.{declared.addr.Addr.Addr, Path.{Names.table_name_of, Paths.path_of}}
use Rattle.pf_table.specs.{Entries.PlainEntry, Tables.deciding}
use Rattle.pf_core.specs.{Durable.Changes.{PlainDurable, entries_at, verdict}, Laws.Durable.IsWithin}
use Rattle.pf_store.specs.Stores.{Holds}
use Rattle.wirdalf_c.specs.{Codes.{code_of, line_code, place_of}, Images.IsUnread, Lines.{AreMade, reply_of}, Packets.{address_in, is_family, packet_in}, Verdicts.SaysVerdict}
use Rattle.wirdalf_c.specs.declared.{configuration.Configuration.Configuration, fault.ReadFault.ReadFault, fault.TheConstants.{OK, MEMORY}, judging.TheConstants.{NO_ENTRY, IN_TABLE, NEGATED, BAD_NAME}, lines.LineFault.LineFault, record.CountsRecord.CountsRecord, record.FaultRecord.FaultRecord, record.PacketRecord.PacketRecord, record.TheConstants.REPLY_LIMIT, record.VerdictRecord.VerdictRecord}

-- The record of a verdict is that on the packet of another record; there is none if that says no packet.
unfoldable pub IsJudged : PlainDurable → PacketRecord → VerdictRecord → Type 0
IsJudged d packet v = SaysVerdict v (option_map (verdict d) (packet_in packet))

-- The counts are these.
pub record AreCounts (d : PlainDurable) (c : CountsRecord) : Type 0 where
  pub tick : c.tick ≡ d.tick
  pub rulesets : c.rulesets ≡ length d.config.rulesets
  pub tables : c.tables ≡ length d.config.tables
  pub states : c.states ≡ length d.states
  pub epoch : c.epoch ≡ d.epoch

-- ---- tables

abbrev pub entry_code : Option PlainEntry → ℕ
entry_code None = NO_ENTRY
entry_code (Some e) = if e.1 then NEGATED else IN_TABLE

-- the prefix length of the entry, or what was there
abbrev pub length_after : ℕ → Option PlainEntry → ℕ
length_after before None = before
length_after before (Some e) = e.0.len

-- What is answered of a table at a path and an address, if the words are a path and a name.
abbrev pub IsFound : PlainDurable → Result (List ℕ) Kind → Result (List ℕ) Kind → Addr → (before after code : ℕ) → Type 0
IsFound d (Ok path) (Ok table) a before after code =
    let entry = deciding (entries_at d path table) a in (code ≡ entry_code entry) × (after ≡ length_after before entry)
IsFound d (Ok path) (Err kind) a before after code = (code ≡ BAD_NAME) × (after ≡ before)
IsFound d (Err kind) table a before after code = (code ≡ BAD_NAME) × (after ≡ before)

-- and if the address has a family
pub record IsTested (d : PlainDurable) (path table : List ℕ) (family : ℕ) (address : List ℕ) (before after code : ℕ) : Type 0 where
  pub found : is_family family ≡ true → IsFound d (path_of path) (table_name_of table) (address_in family address) before after code
  pub refused : is_family family ≡ false → (code ≡ BAD_NAME) × (after ≡ before)

-- ---- what is kept for C

-- A configuration was `old` and is `new` after something was to be kept in it: it is there, or the fault is told and nothing else changed.
abbrev pub IsKept : Result PlainDurable ReadFault → (old new : Configuration) → (code place : ℕ) → Type 0
IsKept (Ok d) old new code place = (new.held ≡ Some d) × (code ≡ OK)
IsKept (Err fault) old new code place = (new ≡ old) × (code ≡ code_of fault) × (place ≡ place_of fault)

-- What bytes hold is there, or the fault says why not.
abbrev pub IsRead : List ℕ → (old new : Configuration) → (code place : ℕ) → Type 0
IsRead bytes old new code place =
    ((d : PlainDurable) × IsKept (Ok d) old new code place × Holds bytes d × IsWithin d)
    ⊎ ((fault : ReadFault) × IsKept (Err fault) old new code place × IsUnread fault bytes)

-- What another configuration holds is there once more, or memory ran out.
abbrev pub IsCopied : PlainDurable → (old new : Configuration) → (code : ℕ) → Type 0
IsCopied d old new code = ((new.held ≡ Some d) × (code ≡ OK)) ⊎ ((new ≡ old) × (code ≡ MEMORY))

-- ---- lines

-- C's record tells the fault: the number of the line, and what pfd replies to it, as far as there is room, with a zero behind it.
pub record SaysFault (fault : LineFault) (returned : ℕ) (r : FaultRecord) : Type 0 where
  pub code : returned ≡ line_code fault.why
  pub line : r.line ≡ fault.line
  pub reply_length : r.reply_length ≡ min REPLY_LIMIT (length (reply_of fault.why))
  pub reply : take r.reply_length r.reply ≡ take REPLY_LIMIT (reply_of fault.why)
  pub zero : slice_get r.reply r.reply_length ≡ Some 0

-- What lines make is there, or the fault tells the first that isn't done.
abbrev pub IsLined : List ℕ → (old new : Configuration) → (code : ℕ) → FaultRecord → Type 0
IsLined text old new code r =
    ((d : PlainDurable) × AreMade text (Ok d) × (new.held ≡ Some d) × (code ≡ OK))
    ⊎ ((fault : LineFault) × AreMade text (Err fault) × (new ≡ old) × SaysFault fault code r)

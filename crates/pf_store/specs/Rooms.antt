-- Whether a device has room for one more group of changes.
use Rattle.std.specs.Prelude.{ℕ, ◌+◌, ◌&&◌, not, nat_le, Bool, List, ◌++◌}
use Rattle.pf_snap.specs.declared.header.TheConstants.{BANK_HEADER}
use Rattle.pf_core.specs.{Durable.Changes.{PlainDurable, PlainChange, after}, Worlds.{Setting, flat}}
use Rattle.pf_store.specs.{Groups.made_all, Lengths.{payload_length, snapshot_length}}
use Rattle.pf_store.specs.declared.limits.TheConstants.{AROUND, ROOM_TO_OPEN}

-- A group finds room in banks of `size` bytes: a bank has 64 bytes left after a snapshot of what is kept then, and room for the group's
-- record after one of what was kept before.
unfoldable pub group_fits : (size : ℕ) → (before next : PlainDurable) → List PlainChange → Bool
group_fits size before next es =
    nat_le (BANK_HEADER + snapshot_length next + ROOM_TO_OPEN) size
    && nat_le (BANK_HEADER + snapshot_length before + (payload_length (made_all es) + AROUND)) size

-- What an opening is given to keep within: `limit` changes, and banks of `size` bytes.
abbrev pub on_device : (limit size : ℕ) → Setting
on_device limit size = record {
  limit = limit;
  is_full = λ base groups group. not (group_fits size (after base (flat groups)) (after base (flat groups ++ group)) group);
}

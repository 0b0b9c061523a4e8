-- What a Book says of itself.
use Rattle.std.specs.Prelude.{◌≡◌, ℕ, ◌+◌, length, min, Option}
use Rattle.pf_snap.specs.declared.header.TheConstants.{BANK_HEADER}
use Rattle.pf_core.specs.{Durable.Changes.PlainDurable, WorldBooks.WorldBook, Worlds.Setting}
use Rattle.pf_store.specs.declared.limits.TheConstants.{ROOM_TO_OPEN}
use Rattle.pf_store.specs.Lengths.{snapshot_length}
use Rattle.pf_book.specs.declared.status.BookStatus.{BookStatus}
use Rattle.pf_book.specs.{Books.log_in, Receipts.{PlainReceipt, IsReached, TakesUp}}

-- the bytes of a bank that what is kept takes: a change after which a bank has fewer is refused as full
abbrev pub held : PlainDurable → ℕ
held d = BANK_HEADER + snapshot_length d + ROOM_TO_OPEN

-- the status where this is kept after so many changes, in banks of so many bytes
abbrev pub status_with : PlainDurable → (changes size : ℕ) → BookStatus
status_with d changes size = record {
  epoch = d.epoch;
  changes = changes;
  tick = d.tick;
  rulesets = length d.config.rulesets;
  tables = length d.config.tables;
  states = length d.states;
  held = min (held d) 18446744073709551615;
  size = size;
}

abbrev pub status_of : WorldBook → (size : ℕ) → BookStatus
status_of b size = status_with b.whole.durable (length (log_in b)) size

-- Under the lock a Book of this opening said this of itself, of whose history the receipt that was handed in, if there is one, has a front.
pub record SaysStatus (base : PlainDurable) (setting : Setting) (status : BookStatus) (last : Option PlainReceipt) : Type 0 where
  pub book : WorldBook
  pub reached : IsReached base setting book
  pub takes : TakesUp last book
  pub is : status ≡ status_of book status.size

-- How full a disk is, and when that is said.
use Rattle.std.specs.Prelude.{ℕ, ◌+◌, ◌*◌, ◌/◌, Bool, ◌&&◌, nat_lt, nat_le, min, max, List, [], ◌∷◌, ◌++◌, codes, decimal, Option, Some, None, if◌then◌else◌}
use Rattle.pf_core.specs.Durable.Changes.{PlainDurable}
use Rattle.pf_snap.specs.declared.header.TheConstants.{BANK_HEADER}
use Rattle.pf_store.specs.declared.limits.TheConstants.{ROOM_TO_OPEN}
use Rattle.pf_store.specs.Lengths.{snapshot_length}
use Rattle.pfd.specs.declared.fullness.gauge.Gauge.{Gauge}

-- the bytes of a bank that are used: a change after which they would be more than the bank has is refused as full
abbrev pub used : PlainDurable → ℕ
used d = BANK_HEADER + snapshot_length d + ROOM_TO_OPEN

-- how many hundredths of a bank so many bytes are, rounded down
abbrev pub percent : ℕ → ℕ → ℕ
percent size bytes = min 100 (bytes * 100 / size)

-- more than seven eighths are used, of a bank that has bytes
abbrev pub is_nearly_full : ℕ → ℕ → Bool
is_nearly_full size bytes = nat_lt 0 size && nat_lt (7 * size) (8 * bytes)

-- no more than three quarters are used
abbrev pub has_room_again : ℕ → ℕ → Bool
has_room_again size bytes = nat_le (4 * bytes) (3 * size)

-- What is said: that a disk is nearly full, and at each further hundredth that again.
abbrev pub news : Gauge → ℕ → Option ℕ
news g bytes = if is_nearly_full g.size bytes && nat_lt g.reported (percent g.size bytes) then Some (percent g.size bytes) else None

-- The gauge after that. What was said counts until there is room again.
abbrev pub noted : Gauge → ℕ → Gauge
noted g bytes =
    if is_nearly_full g.size bytes then record g { reported = max g.reported (percent g.size bytes) }
    else if has_room_again g.size bytes then record g { reported = 0 }
    else g

-- the line that says it
abbrev pub fullness_text : ℕ → List ℕ
fullness_text hundredths = codes "pfd: the disk is " ++ (decimal hundredths ++ (codes " % full" ++ 10 ∷ []))

-- What a connection is, by the address that it came to and its first byte.
use Rattle.std.specs.Prelude.{◌≡◌, ℕ, ◌-◌, ◌==◌, ◌||◌, not, nat_lt, Bool, true, false, if◌then◌else◌}
use Rattle.pfd.specs.declared.admitting.{Admits.Admits, Admits.TheVariants.{Both, Sessions, Questions, Peers}, Way.Way, Way.TheVariants.{Session, Asking, Stream, Denied}}

-- a peer's stream, where one is admitted
abbrev pub stream_at : Admits → Way
stream_at Both = Stream
stream_at Sessions = Denied
stream_at Questions = Denied
stream_at Peers = Stream

-- a session of lines, where one is admitted
abbrev pub session_at : Admits → Way
session_at Both = Session
session_at Sessions = Session
session_at Questions = Asking
session_at Peers = Denied

-- A peer's stream begins with the byte 5, the version of its messages, and no line does. What isn't admitted at an address is denied.
abbrev pub way_of : Admits → ℕ → Way
way_of admits first = if first == 5 then stream_at admits else session_at admits

-- At an address of sessions alone that ask, or of peers' streams alone, connections are guests.
abbrev pub is_guest : Admits → Bool
is_guest Both = false
is_guest Sessions = false
is_guest Questions = true
is_guest Peers = true

-- A guest is let in while another worker is left to those that are none. A worker that is alone serves all.
abbrev pub lets_in : Admits → ℕ → ℕ → Bool
lets_in admits guests workers = not (is_guest admits) || guests == 0 || nat_lt guests (workers - 1)

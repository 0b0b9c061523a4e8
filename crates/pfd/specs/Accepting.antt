-- Which connections a listener serves, and under which numbers.
use Rattle.std.specs.{Prelude.{◌≡◌, ℕ, ◌+◌, Bool, true, false, not, ◌&&◌, ◌||◌, ◌==◌, ◌⊎◌, nat_lt, min, Option, Some, None, Result, Ok, Err}, IoError.error_kind}
use Rattle.std.specs.declared.{io.Error.Error, io.ErrorKind.TheVariants.{ConnectionAborted, Interrupted}}
use Rattle.pfd.specs.declared.accepting.{Acceptor.Acceptor, Taken.Taken, Taken.TheVariants.{Serve, Again, End}}

-- before the first accept
abbrev pub new_acceptor : ℕ → Acceptor
new_acceptor sessions = record { sessions = sessions; accepted = 0; has_failed = false }

-- Another connection is accepted unless an accept failed, or there were as many as there may be. A limit of 0 is none.
abbrev pub accepts_more : Acceptor → Bool
accepts_more a = not a.has_failed && (a.sessions == 0 || nat_lt a.accepted a.sessions)

-- Sessions are numbered from 1 in the order of their connections, and the number stays at its last value.
abbrev pub next_session : Acceptor → Acceptor
next_session a = record a { accepted = min (a.accepted + 1) 4294967295 }

-- an accept failed
abbrev pub failed : Acceptor → Acceptor
failed a = record a { has_failed = true }

-- the client gave its connection up, or none came for a while
abbrev pub IsPassedOver : Error → Type 0
IsPassedOver error = (error_kind error ≡ ConnectionAborted) ⊎ (error_kind error ≡ Interrupted)

-- What becomes of what an accept gave: a connection is served under the next number, one that its client gave up is passed over, as where none
-- came, and after any other error no more are accepted.
abbrev pub IsTaken : {C : Type 0} → Result C Error → Acceptor → Acceptor → Taken C → Type 0
IsTaken (Ok connection) old new taken = (new ≡ next_session old) × (taken ≡ Serve connection new.accepted)
IsTaken (Err error) old new taken =
    (IsPassedOver error × (new ≡ old) × (taken ≡ Again)) ⊎ (¬ IsPassedOver error × (new ≡ failed old) × (taken ≡ End))

-- The next connection has the next number, where one more is accepted; there is none where no more are, where an accept failed, or where a
-- pause is due.
abbrev pub FindsNext : {C : Type 0} → Type 0 → Acceptor → Acceptor → Option (C × ℕ) → Type 0
FindsNext MayPause old new (Some found) = (accepts_more old ≡ true) × (new ≡ next_session old) × (found.1 ≡ new.accepted)
FindsNext MayPause old new None =
    ((accepts_more old ≡ false) × (new ≡ old)) ⊎ ((accepts_more old ≡ true) × ((new ≡ failed old) ⊎ (MayPause × (new ≡ old))))

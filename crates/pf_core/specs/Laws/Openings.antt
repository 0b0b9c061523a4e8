-- What holds of every world over crashes and openings: what each opening gives, and what workers saw and learnt of it.
use Rattle.std.specs.{Prelude.{◌≡◌, ℕ, ◌<◌, ◌≤◌, false, List, [], ◌∷◌, ◌++◌, length, take, ⊤}, List.AllByRecursion}
use Rattle.pf_ticket.specs.{declared.{name.RulesetName.RulesetName, ticket.Ticket.Ticket}, Tickets.is_valid}
use Rattle.pf_core.specs.{Durable.Changes.{PlainDurable, PlainChange, in_epoch, after}, History.{base_of, acked_of, acknowledged, earlier, history, offered, AreAmong, tickets_given}, Worlds.{Setting, CurrentOpening, State, up, down, Doing, Event, entered, learned, crashed, opened, flat, next, state_after, IsWorld}}

-- ---- tickets

-- none of these tickets is valid for any ruleset; between two openings none is
abbrev pub AreVoid : State → List Ticket → Type 0
AreVoid (up h) ts = (name : RulesetName) → AllByRecursion (λ t. is_valid h.tickets name t ≡ false) ts
AreVoid (down d) ts = ⊤

-- no ticket that was given before an opening is valid after it
abbrev pub VoidsTickets : Type 0
VoidsTickets = (first : PlainDurable) (world later : List Event) (setting : Setting) → IsWorld first (world ++ opened setting ∷ later) →
    AreVoid (state_after (down first) (world ++ opened setting ∷ later)) (tickets_given world)

-- an opening's epoch is greater than that of each ticket that was given before it
abbrev pub RaisesTheEpoch : Type 0
RaisesTheEpoch = (first : PlainDurable) (world : List Event) (setting : Setting) → IsWorld first (world ++ opened setting ∷ []) →
    AllByRecursion (λ t. t.epoch < (base_of (state_after (down first) (world ++ opened setting ∷ []))).epoch) (tickets_given world)

-- ---- what is kept

-- what is kept are groups that were offered, each whole, in order and at most once
abbrev pub KeepsWhole : Type 0
KeepsWhole = (first : PlainDurable) (world : List Event) → IsWorld first world → AreAmong (history (down first) world) (offered (down first) world)

-- the same, whatever the epoch
abbrev pub IsButForEpoch : PlainDurable → PlainDurable → Type 0
IsButForEpoch d e = d ≡ in_epoch d.epoch e

-- what each opening gave is, but for its epoch, the fold of all that was kept before it; so is what is held between two
abbrev pub GivesTheFold : Type 0
GivesTheFold = (first : PlainDurable) (world : List Event) → IsWorld first world →
    IsButForEpoch (base_of (state_after (down first) world)) (after first (flat (earlier (down first) world)))

abbrev pub IsFrontOf : {A : Type 0} → List A → List A → Type 0
IsFrontOf {A} front all = (rest : List A) × (all ≡ front ++ rest)

-- what was acknowledged stays
abbrev pub KeepsAcknowledged : Type 0
KeepsAcknowledged = (first : PlainDurable) (world later : List Event) → IsWorld first (world ++ later) →
    IsFrontOf (acknowledged (down first) world) (history (down first) (world ++ later))

-- What an opening gives after a world and what came later: but for its epoch the fold of all groups that were kept, which are whole groups
-- that were offered, in order and each at most once, and begin with those that the first part acknowledged.
pub record IsGiven (first : PlainDurable) (world later : List Event) (given : PlainDurable) : Type 0 where
  pub fold : IsButForEpoch given (after first (flat (history (down first) (world ++ later))))
  pub whole : AreAmong (history (down first) (world ++ later)) (offered (down first) (world ++ later))
  pub acknowledged : IsFrontOf (acknowledged (down first) world) (history (down first) (world ++ later))

abbrev pub GivesAllThatWasKept : Type 0
GivesAllThatWasKept = (first : PlainDurable) (world later : List Event) (setting : Setting) →
    IsWorld first ((world ++ later) ++ opened setting ∷ []) →
    IsGiven first world later (base_of (state_after (down first) ((world ++ later) ++ opened setting ∷ [])))

-- ---- what is seen and learnt

-- the changes that a worker sees who sees the first n of the opening that a world ends in, after those of all earlier openings
abbrev pub seen : PlainDurable → List Event → ℕ → List PlainChange
seen first world n = flat (earlier (down first) world) ++ take n (flat (acked_of (state_after (down first) world)))

-- By this event, after a world, a worker saw n changes or learnt of them: they were acknowledged in their opening, and what is kept begins
-- with those of all earlier openings and then them, whatever came later.
pub record IsSeenBy (event : Event) (first : PlainDurable) (world later : List Event) (n : ℕ) : Type 0 where
  pub acknowledged : n ≤ length (flat (acked_of (state_after (down first) world)))
  pub stays : IsFrontOf (seen first world n) (flat (history (down first) (world ++ event ∷ later)))

-- the n changes that a worker saw were acknowledged in their opening, and what is kept begins with all that it saw, whatever came later
abbrev pub IsSeen : PlainDurable → (world later : List Event) → (worker n : ℕ) → Type 0
IsSeen first world later worker n = IsSeenBy (entered worker n) first world later n

abbrev pub KeepsSeen : Type 0
KeepsSeen = (first : PlainDurable) (world later : List Event) (worker n : ℕ) → IsWorld first (world ++ entered worker n ∷ later) →
    IsSeen first world later worker n

-- the same for the n changes that a worker learnt of, whether it ever judges by them or not
abbrev pub KeepsLearnt : Type 0
KeepsLearnt = (first : PlainDurable) (world later : List Event) (worker n : ℕ) → IsWorld first (world ++ learned worker n ∷ later) →
    IsSeenBy (learned worker n) first world later n

-- ---- crashes

-- what some crash may leave of an opening
abbrev pub Leaves : CurrentOpening → Doing → PlainDurable → Type 0
Leaves h doing d = (n : ℕ) × (next (up h) (crashed doing n) ≡ down d)

-- this is held after the world and some crash
abbrev pub IsHeldAfter : PlainDurable → List Event → Doing → PlainDurable → Type 0
IsHeldAfter first world doing d = (n : ℕ) × IsWorld first (world ++ crashed doing n ∷ []) ×
    (state_after (down first) (world ++ crashed doing n ∷ []) ≡ down d)

-- whatever a crash may leave of an opening is what is held after a world that ends in that crash
abbrev pub CrashesAreEvents : Type 0
CrashesAreEvents = (first : PlainDurable) (world : List Event) (h : CurrentOpening) (doing : Doing) (d : PlainDurable) → IsWorld first world →
    state_after (down first) world ≡ up h → Leaves h doing d → IsHeldAfter first world doing d

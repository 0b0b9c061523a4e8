-- Laws of what a message asks for and of an export, as law functions promise them.
use Rattle.std.specs.{Prelude.{◌≡◌, ℕ, ◌<◌, ◌≤◌, ◌^◌, ◌&&◌, false, nat_lt, cond, List, [], ◌∷◌, length, map}, List.{concat, flat_map, sum_by}, Str.bytes_eq}
use Rattle.pf_state.specs.{declared.{peer.message.Group.Group, peer.message.Group.TheVariants.Inserts, peer.message.Group.TheVariants.Deletes, peer.message.Group.TheVariants.Clears, peer.message.Message.Message, peer.message.TheConstants.MESSAGE_LIMIT, binding.TheConstants.ALL_ONES, state.Bound.Bound, state.Bound.TheVariants.Rule, state.Bound.TheVariants.Default, step.StateStep.StateStep, step.StateStep.TheVariants.Insert, failover.outgoing.TheConstants.EXPORT_RECORDS}, Peer.Records.PlainInsert, Peer.Streams.{Reads, Unfinished}, Peer.Written.{Each, message_length, message_bytes}, Flows.IsFlow, States.{PlainState, IsStates}, Steps.{after, passes_limit, any_inserts_due}, Failover.Incoming.steps_of, Failover.Outgoing.{parts, exported_messages}}

-- ---- a step for each record

abbrev pub record_count : Group → ℕ
record_count (Inserts xs) = length xs
record_count (Deletes xs) = length xs
record_count (Clears xs) = length xs

-- a message asks for as many steps as its groups have records
abbrev pub OneStepForEach : Type 0
OneStepForEach = (m : Message) (current : List ℕ) (count : ℕ) → length (steps_of m current count) ≡ sum_by record_count m.groups

-- what it inserts never expires, so none of it is due at any tick
abbrev pub InsertsNothingDue : Type 0
InsertsNothingDue = (tick : ℕ) (m : Message) (current : List ℕ) (count : ℕ) → any_inserts_due tick (steps_of m current count) ≡ false

-- ---- what an export has

-- each part but the last has 31 states, and the last 1 to 31
abbrev pub AreFullButLast : List (List PlainState) → Type 0
AreFullButLast [] = Unit {0}
AreFullButLast (p ∷ []) = (1 ≤ length p) × (length p ≤ EXPORT_RECORDS)
AreFullButLast (p ∷ q ∷ ps) = (length p ≡ EXPORT_RECORDS) × AreFullButLast (q ∷ ps)

-- the parts of some states are these states, cut like that
pub record AreParts (es : List PlainState) (ps : List (List PlainState)) : Type 0 where
  pub joined : flat_map (λ p. p) ps ≡ es
  pub full : AreFullButLast ps

abbrev pub CutsIntoParts : Type 0
CutsIntoParts = (es : List PlainState) → AreParts es (parts es)

-- a message of an export: the checksum of the rules here, and one group of 1 to 31 inserts, no longer than a message may be
pub record IsExported (current : List ℕ) (m : Message) : Type 0 where
  pub checksum : m.checksum ≡ current
  pub inserts : List PlainInsert
  pub one_group : m.groups ≡ Inserts inserts ∷ []
  pub some : 1 ≤ length inserts
  pub few : length inserts ≤ EXPORT_RECORDS
  pub fits : message_length m ≤ MESSAGE_LIMIT

abbrev pub ExportsMessages : Type 0
ExportsMessages = (current : List ℕ) (es : List PlainState) → Each (IsExported current) (exported_messages current es)

-- ---- what a peer makes of it

-- What a state is bound to at a peer: its rule if that was one of the rules here, the peer has the same rules, and enough of them; else the
-- default rule.
abbrev pub bound_there : List ℕ → List ℕ → ℕ → Bound → Bound
bound_there ours theirs count (Rule number sum) =
    cond (bytes_eq sum ours && (bytes_eq ours theirs && nat_lt number count)) (Rule number sum) Default
bound_there ours theirs count Default = Default

-- the state at a peer: all of it but the rule that it is bound to, and without an expiry
abbrev pub state_there : List ℕ → List ℕ → ℕ → PlainState → PlainState
state_there ours theirs count s = (
  s.0,
  record { generation = s.1.generation; flow = s.1.flow; bound = bound_there ours theirs count s.1.bound; expiry = 0 },
)

-- an export asks a peer for an insert of each state, in order, and for nothing else
abbrev pub TellsTheStates : Type 0
TellsTheStates = (ours theirs : List ℕ) (count : ℕ) (es : List PlainState) → count ≤ ALL_ONES
    → flat_map (λ m. steps_of m theirs count) (exported_messages ours es) ≡ map (λ s. Insert (state_there ours theirs count s)) es

-- these steps are taken if there are no states, no step leaves more states than the limit, and these are left
pub record MakesStates (steps : List StateStep) (es : List PlainState) : Type 0 where
  pub left : after [] steps ≡ es
  pub fits : passes_limit [] steps ≡ false

-- A peer without states takes all steps that an export of a table asks for, in turn: no step leaves more states than the limit, and then it
-- has these states and no others.
abbrev pub TakesOver : Type 0
TakesOver = (ours theirs : List ℕ) (count : ℕ) (es : List PlainState) → IsStates es → count ≤ ALL_ONES
    → MakesStates (flat_map (λ m. steps_of m theirs count) (exported_messages ours es)) (map (state_there ours theirs count) es)

-- ---- its bytes

abbrev pub IsBound : Bound → Type 0
IsBound (Rule number sum) = number < 2 ^ 32
IsBound Default = Unit {0}

-- each number of a state is within its width
pub record IsState (s : PlainState) : Type 0 where
  pub id : s.0.id < 2 ^ 64
  pub creator : s.0.creator < 2 ^ 32
  pub generation : s.1.generation < 2 ^ 32
  pub flow : IsFlow s.1.flow
  pub bound : IsBound s.1.bound

-- the bytes of an export, one message after the other, are read as these messages, and nothing is left
abbrev pub IsReadBack : Type 0
IsReadBack = (current : List ℕ) (es : List PlainState) → length current ≡ 16 → Each IsState es
    → Reads (concat (map message_bytes (exported_messages current es))) (exported_messages current es) (Unfinished [])

-- What a peer reads in the lines of an export.
use Rattle.std.specs.Prelude.{◌≡◌, ◌≤◌, ℕ, List, [], length, map, Some, Ok}
use Rattle.hex.specs.Hex.{IsBytes}
pub use Rattle.pf_state.specs.declared.peer.message.Message.{Message}
pub use Rattle.pf_state.specs.declared.step.StateStep.{StateStep}
use Rattle.pf_state.specs.{Peer.Written.{Each, message_bytes}, States.{PlainState, IsStates}, Failover.Outgoing.exported_messages, Laws.Failover.{IsState, state_there}}
use Rattle.pf_anchor.specs.Rulesets.{rules_at}
use Rattle.pf_core.specs.Durable.Changes.{PlainDurable, main_sum}
use Rattle.pf_core.specs.declared.{command.Command.TheVariants.States, command.StateCommand.TheVariants.Peer}
use Rattle.pf_line.specs.declared.{line.TheConstants.LINE_LIMIT, request.Request.TheVariants.Run}
use Rattle.pf_line.specs.{Lines.{line_at, Means}, Reply.StateTexts.message_line}

-- the line that a peer is sent for a message
abbrev pub message_text : Message → List ℕ
message_text m = message_line (message_bytes m)

-- the lines of an export of these states, if the main rules have this checksum
abbrev pub exported_lines : List ℕ → List PlainState → List (List ℕ)
exported_lines current es = map message_text (exported_messages current es)

-- a line within the limit, which means to act on this message
pub record TellsOf (m : Message) (line : List ℕ) : Type 0 where
  pub short : length line ≤ LINE_LIMIT
  pub means : Means (line_at line) (Ok (Some (Run (States (Peer m)))))

-- what can be exported: a checksum, and a table's states, each number of which is within its width
pub record CanBeExported (current : List ℕ) (es : List PlainState) : Type 0 where
  pub sum : length current ≡ 16
  pub bytes : IsBytes current
  pub table : IsStates es
  pub numbers : Each IsState es

-- the line of each message of an export means to act on that message
abbrev pub ExportsAreRead : Type 0
ExportsAreRead = (current : List ℕ) (es : List PlainState) → length current ≡ 16 → IsBytes current → Each IsState es
    → Each (λ m. TellsOf m (message_text m)) (exported_messages current es)

-- ---- where it is read

-- how many main rules there are
abbrev pub main_count : PlainDurable → ℕ
main_count d = length (rules_at [] d.config.rulesets)

-- these states of ours, as they are where this is kept: none has an expiry, and each is bound to its rule only if the checksums agree
abbrev pub states_there : PlainDurable → List ℕ → List PlainState → List PlainState
states_there d ours es = map (state_there ours (main_sum d) (main_count d)) es

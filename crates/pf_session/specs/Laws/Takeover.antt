-- What a Book holds that was given the lines of a peer's export.
use Rattle.std.specs.Prelude.{◌≡◌, ◌⊎◌, ◌+◌, ◌≤◌, ℕ, List, [], ◌∷◌, ◌++◌, length}
use Rattle.pf_core.specs.declared.{reply.Refusal.Refusal, reply.Refusal.TheVariants.{Full, Fault, Memory}, reply.Reply.TheVariants.Refused}
use Rattle.pf_core.specs.{Durable.Changes.{PlainDurable, kept_nothing, after}, WorldBooks.{WorldBook, StandsFor}, Worlds.{Setting, Event, flat, opened}}
use Rattle.pf_book.specs.Books.{PlainBook, world_book}
use Rattle.pf_line.specs.{Laws.Exports.{exported_lines, CanBeExported, main_count, states_there}, Reply.Replies.reply_text, StateTables.PlainState}
use Rattle.pf_session.specs.Serving.{Serves}

-- what a Book holds, as far as it was acknowledged
abbrev pub held_in : WorldBook → PlainDurable
held_in b = after b.base (flat b.acked)

-- no states yet, no group pending, room for so many changes, and few enough main rules that a message can name each
pub record IsReadyFor (changes : ℕ) (b : WorldBook) : Type 0 where
  pub no_states : (held_in b).states ≡ []
  pub none_pending : b.pending ≡ []
  pub room : length (flat b.acked) + changes ≤ b.setting.limit
  pub rules : main_count (held_in b) ≤ 4294967295

-- a change that is due may be refused for want of memory, or of room on the device, or for a fault of it
abbrev pub IsWant : Refusal → Type 0
IsWant Memory = Unit {0}
IsWant Full = Unit {0}
IsWant Fault = Unit {0}
IsWant e = ⊥

-- some line was refused so
pub record WasRefused (text : List ℕ) : Type 0 where
  pub why : Refusal
  pub is : IsWant why
  pub front : List ℕ
  pub following : List ℕ
  pub text_is : text ≡ front ++ (reply_text (Refused why) ++ following)

-- A Book that is ready for the lines of an export holds the states that were exported once it was given these lines, one by one, unless a
-- line was refused for want of memory or room, or for a fault. Each state has its name, its generation and its flow, never expires, and
-- is bound to its rule only where the checksums of the main rules agree.
abbrev pub TakesOver : {D : Type 0} → (D → ℕ) → Type 0
TakesOver {D = D} faults = (ours : List ℕ) (es : List PlainState) (first : PlainDurable) (world : List Event) (old new : PlainBook D) (text : List ℕ)
    → CanBeExported ours es → StandsFor first (world_book old) world → IsReadyFor (length (exported_lines ours es)) (world_book old)
    → Serves faults old new (exported_lines ours es) text
    → ((held_in (world_book new)).states ≡ states_there (held_in (world_book old)) ours es) ⊎ WasRefused text

-- so does a fresh Book, whatever its opening has to keep within, where its history has room for as many changes
abbrev pub FreshTakesOver : {D : Type 0} → (D → ℕ) → Type 0
FreshTakesOver {D = D} faults = (ours : List ℕ) (es : List PlainState) (setting : Setting) (old new : PlainBook D) (text : List ℕ)
    → CanBeExported ours es → StandsFor (kept_nothing 0) (world_book old) (opened setting ∷ [])
    → length (exported_lines ours es) ≤ setting.limit → Serves faults old new (exported_lines ours es) text
    → ((held_in (world_book new)).states ≡ states_there (kept_nothing 1) ours es) ⊎ WasRefused text

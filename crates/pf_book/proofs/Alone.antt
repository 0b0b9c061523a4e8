-- A group in which each change finds room by itself is due what its commands would be due one by one.
use Rattle.std.proofs.{Common.{◌≡◌, ℕ, ◌+◌, ◌≤◌, ◌<◌, Bool, true, false, cond, List, [], ◌∷◌, ◌++◌, length, Result, Ok, Err, refl, sym, ap, ◌∙◌, subst, append-nil, arith}, lemmas.Bool.Decides.nat_tests}
use Rattle.std.specs.Prelude.{nat_lt}
use Rattle.pf_core.specs.declared.{command.Command.Command, reply.Refusal.{Refusal, TheVariants.HistoryFull, TheVariants.Full}, reply.Reply.Reply}
use Rattle.pf_core.specs.{Durable.Changes.{PlainDurable, PlainChange, applied}, Laws.Groups.{HaveRoomEach}, WorldBooks.{WorldBook, IsAt, LeadsGroup}, Worlds.{Setting, CurrentOpening, Upshot, flat, log_of, durable_of, room_for, amid, changes_due}}
use Rattle.pf_core.proofs.{Courses.{IsAccepted, accepted, durable-amid, length-with}, Groups.rooms-found, InTurn.roomy_groups_are_in_turn}
use Rattle.pf_store.specs.{Rooms.{on_device}}
use Rattle.pf_book.specs.{Books.{PlainBook, world_book}, Courses.{FindRoomEach, IsPlanned}, Groups.{Answered, AreDueAsAlone, replies_of}}
use Rattle.pf_book.proofs.{Calling.durable-is, Finding.device-fits, Grouping.changes-are}

-- room in banks of this size is what the opening looks for
rooms-each : (h : CurrentOpening) (limit size : ℕ) (es : List PlainChange) → h.setting ≡ on_device limit size → h.pending ≡ [] → length (flat h.acked) + length es ≤ limit → FindRoomEach size (durable_of h) es → HaveRoomEach h es
rooms-each h limit size [] setting none few each = tt
rooms-each h limit size (e ∷ es) setting none few each =
    let a : CurrentOpening = amid h (e ∷ []) in
    let log : length (log_of h) ≡ length (flat h.acked) = ap (λ (gs : List (List PlainChange)). length (flat (h.acked ++ gs))) none ∙ ap (λ (gs : List (List PlainChange)). length (flat gs)) (append-nil h.acked) in
    let low : length (log_of h) + 1 ≤ h.setting.limit = omega (arith, log, few, ap (λ (s : Setting). s.limit) setting) in
    let fits : h.setting.is_full h.base h.acked (e ∷ []) ≡ false =
    ap (λ (s : Setting). s.is_full h.base h.acked (e ∷ [])) setting ∙ device-fits size h.base (durable_of h) (applied (durable_of h) e) h.acked (e ∷ []) refl refl each.0 in
    let on : FindRoomEach size (durable_of a) es = subst (λ (d : PlainDurable). FindRoomEach size d es) (sym (durable-amid h (e ∷ []))) each.1 in
    let more : length (flat a.acked) + length es ≤ limit = omega (arith, few, length-with h.acked (e ∷ [])) in
    (rooms-found h (e ∷ []) low fits, rooms-each a limit size es setting none more on)

-- a group that found room has no more changes than the history may have
within : (h : CurrentOpening) (es : List PlainChange) → room_for h es ≡ Ok tt → 0 < length es → length (log_of h) + length es ≤ h.setting.limit
within h [] room some = absurd (omega (arith, some))
within h (e ∷ es) room some = by (nat_lt h.setting.limit (length (log_of h) + length (e ∷ es))) refl room where
  found : Bool → Result (Unit {0}) Refusal
  found b = cond b (Err HistoryFull) (cond (h.setting.is_full h.base h.acked (e ∷ es)) (Err Full) (Ok tt))

  by : (b : Bool) → nat_lt h.setting.limit (length (log_of h) + length (e ∷ es)) ≡ b → found b ≡ Ok tt → length (log_of h) + length (e ∷ es) ≤ h.setting.limit
  by true is found = absurd (cc (found))
  by false is found = grind (arith, nat_tests, is)

each-of : (h : CurrentOpening) (limit size : ℕ) (es : List PlainChange) → h.setting ≡ on_device limit size → h.pending ≡ [] → room_for h es ≡ Ok tt → FindRoomEach size (durable_of h) es → HaveRoomEach h es
each-of h limit size [] setting none room each = tt
each-of h limit size (e ∷ es) setting none room each =
    let log : length (log_of h) ≡ length (flat h.acked) = ap (λ (gs : List (List PlainChange)). length (flat (h.acked ++ gs))) none ∙ ap (λ (gs : List (List PlainChange)). length (flat gs)) (append-nil h.acked) in
    rooms-each h limit size (e ∷ es) setting none (omega (arith, within h (e ∷ es) room (omega arith), log, ap (λ (s : Setting). s.limit) setting)) each

pub due-as-alone : {D : Type 0} (h : CurrentOpening) (b : PlainBook D) (commands : List Command) (result : Result (List Answered) Refusal) → IsAt h (world_book b)
    → {due : List Reply} {es : List PlainChange} {left : _} → IsPlanned (world_book b) commands due es left → FindRoomEach b.size b.whole.durable es → (new : WorldBook) (came : Upshot)
    → LeadsGroup h new commands (replies_of result) came → AreDueAsAlone h commands result
due-as-alone h b commands (Err e) at plan each new came leads = tt
due-as-alone h b commands (Ok answers) at {due} {es} {left} plan each new came leads =
    let w : WorldBook = world_book b in
    let k : IsAccepted h commands _ = accepted h commands _ came.failed leads.legal.reply in
    let wants : es ≡ changes_due h [] commands = changes-are plan h at in
    let there : FindRoomEach b.size (durable_of h) (changes_due h [] commands) =
    subst (FindRoomEach b.size (durable_of h)) wants (subst (λ (d : PlainDurable). FindRoomEach b.size d es) (durable-is h w at plan.folded) each) in
    roomy_groups_are_in_turn h commands k.taken.none k.taken.may (each-of h b.limit b.size (changes_due h [] commands) (sym at.setting) k.taken.none k.taken.room there)

-- A group's commands are due the replies that they would be due one by one.
use Rattle.std.proofs.{Common.{◌≡◌, ℕ, ◌+◌, Bool, true, false, cond, List, [], ◌∷◌, ◌++◌, length, refl, sym, ap, ◌∙◌, subst, append_assoc, append-nil, Result, Ok, Err}, lemmas.List.length-append}
use Rattle.std.specs.{Prelude.nat_lt, List.AllByRecursion}
use Rattle.pf_ticket.specs.{Mentions.{Mention, after as moved_by}, Tickets.PlainTickets}
use Rattle.pf_core.specs.{declared.{command.Command.Command, reply.Outcome.Outcome, reply.Refusal.Refusal, reply.Refusal.TheVariants.HistoryFull, reply.Refusal.TheVariants.Full, reply.Reply.Reply, reply.Reply.TheVariants.Applied, step.Step.Step, step.Step.TheVariants.Wants}, Calls.{call, mentions_of}, Commands.{may_be_grouped, step_by}, Durable.Changes.{PlainDurable, PlainChange, after}, Laws.Groups.{heard_due, dues_one_by_one, one_by_one, found_room, GroupsAreInTurn, HaveRoomEach, RoomyGroupsAreInTurn}, Worlds.{Setting, CurrentOpening, flat, log_of, durable_of, step_in, reply_to, changes_of, room_for, if_ok, or_refused, due_at, due, grouped, group_at, group_in, amid, changes_with, changes_due, replies_due, acked_by, is_fault, pending_by}}
use Rattle.pf_core.proofs.{Courses.{flat-with, log-amid, tickets-amid, IsOfGroup, reported, wanted, refused, step-amid, unhalted-in, IsOneMore, one-more, MayBeGrouped}, Prefixes.flat-append, LongerWorlds.none-of-none}

-- the opening in the middle of a group is like the one that its calls led to
record IsLike (h : CurrentOpening) (changes : List PlainChange) (b : CurrentOpening) : Type 0 where
  base : h.base ≡ b.base
  tickets : (amid h changes).tickets ≡ b.tickets
  acked : flat h.acked ++ changes ≡ flat b.acked
  none : h.pending ≡ []
  calm : b.pending ≡ []

same-step : (h : CurrentOpening) (changes : List PlainChange) (b : CurrentOpening) (c : Command) → IsLike h changes b → step_in (amid h changes) c ≡ step_in b c
same-step h changes b c like =
    let a : CurrentOpening = amid h changes in
    let kept : durable_of a ≡ durable_of b = ap (after h.base) (flat-with h.acked changes ∙ like.acked) ∙ ap (λ (k : PlainDurable). after k (flat b.acked)) like.base in
    unhalted-in a c like.none ∙ ap (λ (t : PlainTickets). step_by t (durable_of a) c) like.tickets ∙ ap (λ (k : PlainDurable). step_by b.tickets k c) kept ∙ sym (unhalted-in b c like.calm)

same-log : (h : CurrentOpening) (changes : List PlainChange) (b : CurrentOpening) → IsLike h changes b → length (log_of (amid h changes)) ≡ length (log_of b)
same-log h changes b like =
    log-amid h changes like.none ∙ sym (length-append (flat h.acked) changes) ∙ ap length like.acked
    ∙ sym (ap (λ (gs : List (List PlainChange)). length (flat (b.acked ++ gs))) like.calm ∙ ap (λ (gs : List (List PlainChange)). length (flat gs)) (append-nil b.acked))

-- a reply that is due by itself is the one in the middle of a group, and keeps the same change
record IsSame (a : CurrentOpening) (s : Result Step Refusal) (r : Reply) (g : List (List PlainChange)) : Type 0 where
  reply : reply_to a s ≡ r
  changes : flat (acked_by r g) ≡ changes_of s
  pending : pending_by r g ≡ []

wanted-same : (a b : CurrentOpening) (e : PlainChange) (o : Outcome) → length (log_of a) ≡ length (log_of b) → found_room (due_at b (Ok (Wants e o))) ≡ true → IsSame a (Ok (Wants e o)) (due_at b (Ok (Wants e o))) (group_at b (Ok (Wants e o)))
wanted-same a b e o log room = by (nat_lt b.setting.limit (length (log_of b) + 1)) (b.setting.is_full b.base b.acked (e ∷ [])) room where
  found : (long full : Bool) → Result (Unit {0}) Refusal
  found long full = cond long (Err HistoryFull) (cond full (Err Full) (Ok tt))

  r : Reply
  r = Applied (length (log_of b) + 1) o

  by : (long full : Bool) → found_room (or_refused (found long full) r) ≡ true → IsSame a (Ok (Wants e o)) (or_refused (found long full) r) (if_ok (found long full) ((e ∷ []) ∷ []) [])
  by true full room = absurd (cc (room))
  by false true room = absurd (cc (room))
  by false false room = record { reply = ap (λ (n : ℕ). Applied (n + 1) o) log; changes = refl; pending = refl }

same-reply : (a b : CurrentOpening) (c : Command) (s : Result Step Refusal) → IsOfGroup c s → length (log_of a) ≡ length (log_of b) → found_room (due_at b s) ≡ true → IsSame a s (due_at b s) (group_at b s)
same-reply a b _ _ (reported c x unmentioned silent) log room = record { reply = refl; changes = refl; pending = refl }
same-reply a b _ _ (wanted c e o mentions) log room = wanted-same a b e o log room
same-reply a b _ _ (refused c e) log room = record { reply = refl; changes = refl; pending = none-of-none (is_fault e) [] refl }

-- ---- one command after the other

record AreLike (h : CurrentOpening) (before : List PlainChange) (b : CurrentOpening) (commands : List Command) : Type 0 where
  replies : replies_due h before commands ≡ dues_one_by_one b commands
  changes : flat h.acked ++ changes_due h before commands ≡ flat (one_by_one b commands).acked
  tickets : (amid h (changes_due h before commands)).tickets ≡ (one_by_one b commands).tickets

-- a command more, which gets the same reply
module _ (h : CurrentOpening) (changes : List PlainChange) (b : CurrentOpening) (c : Command) (cs : List Command) (like : IsLike h changes b) (may : may_be_grouped c ≡ true)
    (one : IsSame (amid h changes) (step_in (amid h changes) c) (due b c) (group_in b c)) where
  next-like : IsLike h (changes_with h changes c) (heard_due b c)
  next-like =
      let a : CurrentOpening = amid h changes in
      let s : Result Step Refusal = step_in a c in
      let here : IsOneMore (length (log_of a)) c s (reply_to a s) = one-more a false c s (step-amid a c may) in
      record {
        base = like.base;
        tickets = sym (tickets-amid h changes (changes_of s)) ∙ ap (λ (ms : List Mention). moved_by a.tickets ms) (sym here.mentions)
            ∙ ap (λ (t : PlainTickets). moved_by t (mentions_of (call c (reply_to a s)))) like.tickets ∙ ap (λ (r : Reply). moved_by b.tickets (mentions_of (call c r))) one.reply;
        acked = sym (append_assoc (flat h.acked) changes (changes_of s)) ∙ ap (λ (l : List PlainChange). l ++ changes_of s) like.acked
            ∙ ap (λ (l : List PlainChange). flat b.acked ++ l) (sym one.changes) ∙ sym (flat-append b.acked (acked_by (due b c) (group_in b c)));
        none = like.none;
        calm = ap (λ (g : List (List PlainChange)). g ++ pending_by (due b c) (group_in b c)) like.calm ∙ one.pending;
      }

  one-like : AreLike h (changes_with h changes c) (heard_due b c) cs → AreLike h changes b (c ∷ cs)
  one-like rest = record {
    replies = ap (λ (r : Reply). r ∷ replies_due h (changes_with h changes c) cs) one.reply ∙ ap (λ (rs : List Reply). due b c ∷ rs) rest.replies;
    changes = rest.changes;
    tickets = rest.tickets;
  }

-- where each reply finds room
are-like : (h : CurrentOpening) (changes : List PlainChange) (b : CurrentOpening) (commands : List Command) → IsLike h changes b → MayBeGrouped commands → AllByRecursion (λ r. found_room r ≡ true) (dues_one_by_one b commands) → AreLike h changes b commands
are-like h changes b [] like may room = record { replies = refl; changes = like.acked; tickets = like.tickets }
are-like h changes b (c ∷ cs) like may room =
    let a : CurrentOpening = amid h changes in
    let s : Result Step Refusal = step_in a c in
    let same : s ≡ step_in b c = same-step h changes b c like in
    let one : IsSame a s (due b c) (group_in b c) = subst (λ (x : Result Step Refusal). IsSame a s (due_at b x) (group_at b x)) same
    (same-reply a b c s (step-amid a c may.0) (same-log h changes b like) (subst (λ (x : Result Step Refusal). found_room (due_at b x) ≡ true) (sym same) room.0)) in
    one-like h changes b c cs like may.0 one (are-like h (changes_with h changes c) (heard_due b c) cs (next-like h changes b c cs like may.0 one) may.1 room.1)

pub groups_are_in_turn : GroupsAreInTurn
groups_are_in_turn h commands none may room =
    let all : AreLike h [] h commands = are-like h [] h commands (record { base = refl; tickets = refl; acked = append-nil (flat h.acked); none = none; calm = none }) may room in
    record { replies = all.replies; changes = all.changes; tickets = all.tickets }

-- ---- where each change finds room

-- what room is looked for in
record LookAlike (a b : CurrentOpening) : Type 0 where
  setting : a.setting ≡ b.setting
  base : a.base ≡ b.base
  acked : a.acked ≡ b.acked
  pending : a.pending ≡ b.pending

abbrev room_in : Setting → PlainDurable → (acked pending : List (List PlainChange)) → PlainChange → Result (Unit {0}) Refusal
room_in setting base acked pending e = cond (nat_lt setting.limit (length (flat (acked ++ pending)) + 1)) (Err HistoryFull) (cond (setting.is_full base acked (e ∷ [])) (Err Full) (Ok tt))

same-room : (a b : CurrentOpening) (e : PlainChange) → LookAlike a b → room_for a (e ∷ []) ≡ room_for b (e ∷ [])
same-room a b e like =
    ap (λ (t : Setting). room_in t a.base a.acked a.pending e) like.setting ∙ ap (λ (d : PlainDurable). room_in b.setting d a.acked a.pending e) like.base
    ∙ ap (λ (gs : List (List PlainChange)). room_in b.setting b.base gs a.pending e) like.acked ∙ ap (λ (gs : List (List PlainChange)). room_in b.setting b.base b.acked gs e) like.pending

same-rooms : (a b : CurrentOpening) (es : List PlainChange) → LookAlike a b → HaveRoomEach a es → HaveRoomEach b es
same-rooms a b [] like rooms = tt
same-rooms a b (e ∷ es) like rooms = (
  sym (same-room a b e like) ∙ rooms.0,
  same-rooms (amid a (e ∷ [])) (amid b (e ∷ [])) es (record { setting = like.setting; base = like.base; acked = ap (λ (gs : List (List PlainChange)). gs ++ (e ∷ []) ∷ []) like.acked; pending = like.pending }) rooms.1,
)

-- what a command is due where this is said of the room for its change, and what that leaves to those behind it
record Finds (b : CurrentOpening) (s : Result Step Refusal) (u : Result (Unit {0}) Refusal) (rest : List PlainChange) : Type 0 where
  same : IsSame b s (or_refused u (reply_to b s)) (if_ok u (grouped (changes_of s)) [])
  rooms : HaveRoomEach (record b { acked = b.acked ++ acked_by (or_refused u (reply_to b s)) (if_ok u (grouped (changes_of s)) []) }) rest

finds : (b : CurrentOpening) (c : Command) (s : Result Step Refusal) (rest : List PlainChange) → IsOfGroup c s → HaveRoomEach b (changes_of s ++ rest) → Finds b s (room_for b (changes_of s)) rest
finds b _ _ rest (reported c x unmentioned silent) rooms = record {
  same = record { reply = refl; changes = refl; pending = refl };
  rooms = same-rooms b (record b { acked = b.acked ++ [] }) rest (record { setting = refl; base = refl; acked = sym (append-nil b.acked); pending = refl }) rooms;
}
finds b _ _ rest (refused c e) rooms = record {
  same = record { reply = refl; changes = refl; pending = none-of-none (is_fault e) [] refl };
  rooms = same-rooms b (record b { acked = b.acked ++ [] }) rest (record { setting = refl; base = refl; acked = sym (append-nil b.acked); pending = refl }) rooms;
}
finds b _ _ rest (wanted c e o mentions) rooms = subst (λ (u : Result (Unit {0}) Refusal). Finds b (Ok (Wants e o)) u rest) (sym rooms.0) (record {
  same = record { reply = refl; changes = refl; pending = refl };
  rooms = same-rooms (amid b (e ∷ [])) (record b { acked = b.acked ++ (e ∷ []) ∷ [] }) rest (record { setting = refl; base = refl; acked = refl; pending = refl }) rooms.1;
})

-- a reply says the same wherever the history is as long
alike : (a b : CurrentOpening) (c : Command) (s : Result Step Refusal) → IsOfGroup c s → length (log_of a) ≡ length (log_of b) → reply_to a s ≡ reply_to b s
alike a b _ _ (reported c x unmentioned silent) log = refl
alike a b _ _ (wanted c e o mentions) log = ap (λ (n : ℕ). Applied (n + 1) o) log
alike a b _ _ (refused c e) log = refl

-- the changes that commands want, after these
abbrev wanted_by : CurrentOpening → List PlainChange → List Command → List PlainChange
wanted_by h changes [] = []
wanted_by h changes (c ∷ cs) = changes_of (step_in (amid h changes) c) ++ wanted_by h (changes_with h changes c) cs

all-wanted : (h : CurrentOpening) (changes : List PlainChange) (commands : List Command) → changes_due h changes commands ≡ changes ++ wanted_by h changes commands
all-wanted h changes [] = sym (append-nil changes)
all-wanted h changes (c ∷ cs) =
    all-wanted h (changes_with h changes c) cs ∙ append_assoc changes (changes_of (step_in (amid h changes) c)) (wanted_by h (changes_with h changes c) cs)

roomy-like : (h : CurrentOpening) (changes : List PlainChange) (b : CurrentOpening) (commands : List Command) → IsLike h changes b → MayBeGrouped commands → HaveRoomEach b (wanted_by h changes commands) → AreLike h changes b commands
roomy-like h changes b [] like may rooms = record { replies = refl; changes = like.acked; tickets = like.tickets }
roomy-like h changes b (c ∷ cs) like may rooms =
    let a : CurrentOpening = amid h changes in
    let s : Result Step Refusal = step_in a c in
    let rest : List PlainChange = wanted_by h (changes_with h changes c) cs in
    let kind : IsOfGroup c s = step-amid a c may.0 in
    let same : s ≡ step_in b c = same-step h changes b c like in
    let found : Finds b s (room_for b (changes_of s)) rest = finds b c s rest kind rooms in
    let here : IsSame a s (due_at b s) (group_at b s) = record { reply = alike a b c s kind (same-log h changes b like) ∙ found.same.reply; changes = found.same.changes; pending = found.same.pending } in
    let one : IsSame a s (due b c) (group_in b c) = subst (λ (x : Result Step Refusal). IsSame a s (due_at b x) (group_at b x)) same here in
    let left : HaveRoomEach (record b { acked = b.acked ++ acked_by (due b c) (group_in b c) }) rest =
    subst (λ (x : Result Step Refusal). HaveRoomEach (record b { acked = b.acked ++ acked_by (due_at b x) (group_at b x) }) rest) same found.rooms in
    let next : IsLike h (changes_with h changes c) (heard_due b c) = next-like h changes b c cs like may.0 one in
    let there : HaveRoomEach (heard_due b c) rest = same-rooms (record b { acked = b.acked ++ acked_by (due b c) (group_in b c) }) (heard_due b c) rest
    (record { setting = refl; base = refl; acked = refl; pending = like.calm ∙ sym next.calm }) left in
    one-like h changes b c cs like may.0 one (roomy-like h (changes_with h changes c) (heard_due b c) cs next may.1 there)

pub roomy_groups_are_in_turn : RoomyGroupsAreInTurn
roomy_groups_are_in_turn h commands none may rooms =
    let all : AreLike h [] h commands = roomy-like h [] h commands (record { base = refl; tickets = refl; acked = append-nil (flat h.acked); none = none; calm = none }) may
    (subst (HaveRoomEach h) (all-wanted h [] commands) rooms) in
    record { replies = all.replies; changes = all.changes; tickets = all.tickets }

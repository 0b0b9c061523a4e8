-- Which groups are kept.
use Rattle.std.proofs.{Common.{◌≡◌, ℕ, ◌+◌, ◌<◌, ◌≤◌, Bool, true, false, cond, ◌⊎◌, inl, inr, List, [], ◌∷◌, ◌++◌, length, take, refl, sym, ap, ◌∙◌, subst, append_assoc, append-nil, Result, Ok, Err, nat_lt, arith}, lemmas.Bool.Decides.nat_tests}
use Rattle.pf_addr.specs.Refusing.{and_then, unless}
use Rattle.pf_core.specs.{declared.{command.Command.Command, command.Command.TheVariants.Ask, command.Command.TheVariants.History, reply.Refusal.Refusal, reply.Outcome.Outcome, reply.Refusal.TheVariants.Halted, reply.Refusal.TheVariants.HistoryFull, reply.Refusal.TheVariants.Full, reply.Reply.Reply, reply.Reply.TheVariants.Answer, reply.Reply.TheVariants.Applied, reply.Reply.TheVariants.Stored, reply.Reply.TheVariants.Refused, step.Step.Step, step.Step.TheVariants.Done, step.Step.TheVariants.Wants, step.Step.TheVariants.OfHistory}, Commands.{step_by, group_words}, Durable.Changes.PlainChange, History.{acked_of, pending_of, kept_by, earlier, acknowledged, history, offered_by, offered, AreAmong}, Laws.Openings.{IsFrontOf, KeepsWhole, KeepsAcknowledged}, Worlds.{CurrentOpening, State, up, down, Event, called, called_group, entered, learned, crashed, opened, refused_opening, log_of, durable_of, is_halted, room_for, if_ok, or_refused, due_at, group_at, group_in, grouped, changes_due, group_all, group_of, kept_groups, acked_by, is_fault, pending_by, acked_by_group, pending_by_group, next, state_after}}
use Rattle.pf_core.proofs.Prefixes.{front-more, front-trans, front-onto, among-refl, among-take, among-append, among-trans}

-- ---- the group of a step

-- a step's change is kept if there is room
pub record IsKept (h : CurrentOpening) (s : Result Step Refusal) : Type 0 where
  pub change : PlainChange
  pub outcome : Outcome
  pub wanted : s ≡ Ok (Wants change outcome)
  pub room : length (log_of h) + 1 ≤ h.setting.limit
  pub group : group_at h s ≡ (change ∷ []) ∷ []
  pub reply : due_at h s ≡ Applied (length (log_of h) + 1) outcome

-- else it wants none, or is refused
pub record IsNotKept (h : CurrentOpening) (s : Result Step Refusal) : Type 0 where
  pub group : group_at h s ≡ []
  pub reply : (n : ℕ) (o : Outcome) → Applied n o ≡ due_at h s → ⊥

with-room : (limit n : ℕ) (full : Bool) (rest : Result (Unit {0}) Refusal) (u : Unit {0}) → nat_lt limit n ≡ full → cond full (Err HistoryFull) rest ≡ Ok u → n ≤ limit
with-room limit n true rest u k is = absurd (cc (is))
with-room limit n false rest u k is = grind (arith, nat_tests, k)

-- changes that find room
pub room-of : (h : CurrentOpening) (es : List PlainChange) → length (log_of h) ≤ h.setting.limit → room_for h es ≡ Ok tt → length (log_of h) + length es ≤ h.setting.limit
room-of h [] low is = omega (arith, low)
room-of h (e ∷ es) low is =
    let long : ℕ = length (log_of h) + length (e ∷ es) in
    with-room h.setting.limit long (nat_lt h.setting.limit long) (cond (h.setting.is_full h.base h.acked (e ∷ es)) (Err Full) (Ok tt)) tt refl is

wanted-kept : (h : CurrentOpening) (e : PlainChange) (o : Outcome) (room : Result (Unit {0}) Refusal) → room_for h (e ∷ []) ≡ room → IsKept h (Ok (Wants e o)) ⊎ IsNotKept h (Ok (Wants e o))
wanted-kept h e o (Ok u) is = inl (record {
  change = e;
  outcome = o;
  wanted = refl;
  room = with-room h.setting.limit (length (log_of h) + 1) (nat_lt h.setting.limit (length (log_of h) + 1)) (cond (h.setting.is_full h.base h.acked (e ∷ [])) (Err Full) (Ok tt)) u refl is;
  group = ap (λ (r : Result (Unit {0}) Refusal). if_ok r ((e ∷ []) ∷ []) []) is;
  reply = ap (λ (r : Result (Unit {0}) Refusal). or_refused r (Applied (length (log_of h) + 1) o)) is;
})
wanted-kept h e o (Err x) is = inr (record {
  group = ap (λ (r : Result (Unit {0}) Refusal). if_ok r ((e ∷ []) ∷ []) []) is;
  reply = λ n p same. let full : due_at h (Ok (Wants e o)) ≡ Refused x = ap (λ (r : Result (Unit {0}) Refusal). or_refused r (Applied (length (log_of h) + 1) o)) is in cc (same, full);
})

pub kept-or-not : (h : CurrentOpening) (s : Result Step Refusal) → IsKept h s ⊎ IsNotKept h s
kept-or-not h (Ok (Done a)) = inr (record { group = refl; reply = λ n o is. cc (is) })
kept-or-not h (Ok (Wants e o)) = wanted-kept h e o (room_for h (e ∷ [])) refl
kept-or-not h (Ok (OfHistory c)) = inr (record { group = refl; reply = λ n o is. cc (is) })
kept-or-not h (Err x) = inr (record { group = refl; reply = λ n o is. cc (is) })

pub room-found : (h : CurrentOpening) (e : PlainChange) → length (log_of h) < h.setting.limit → h.setting.is_full h.base h.acked (e ∷ []) ≡ false → room_for h (e ∷ []) ≡ Ok tt
room-found h e few room =
    let low : nat_lt h.setting.limit (length (log_of h) + 1) ≡ false = grind (arith, nat_tests, few) in
    ap (λ (b : Bool). cond b (Err HistoryFull) (cond (h.setting.is_full h.base h.acked (e ∷ [])) (Err Full) (Ok tt))) low ∙ ap (λ (b : Bool). cond b (Err Full) (Ok tt)) room

-- the same for several changes
pub rooms-found : (h : CurrentOpening) (es : List PlainChange) → length (log_of h) + length es ≤ h.setting.limit → h.setting.is_full h.base h.acked es ≡ false → room_for h es ≡ Ok tt
rooms-found h [] few room = refl
rooms-found h (e ∷ es) few room =
    let low : nat_lt h.setting.limit (length (log_of h) + length (e ∷ es)) ≡ false = grind (arith, nat_tests, few) in
    ap (λ (b : Bool). cond b (Err HistoryFull) (cond (h.setting.is_full h.base h.acked (e ∷ es)) (Err Full) (Ok tt))) low ∙ ap (λ (b : Bool). cond b (Err Full) (Ok tt)) room

-- what is refused keeps nothing
pub refused-group : (h : CurrentOpening) (s : Result Step Refusal) (e : Refusal) → Refused e ≡ due_at h s → group_at h s ≡ []
refused-group h s e is = by (kept-or-not h s) where
  by : IsKept h s ⊎ IsNotKept h s → group_at h s ≡ []
  by (inl k) = absurd (cc (is, k.reply))
  by (inr none) = none.group

-- ---- what was acknowledged stays

-- what an event keeps comes before all that comes later
pub history-first : (st : State) (ev : Event) (evs : List Event) → history st (ev ∷ evs) ≡ kept_by st ev ++ history (next st ev) evs
history-first st ev evs =
    let mid : State = next st ev in
    let end : State = state_after mid evs in
    ap (λ (l : List (List PlainChange)). l ++ pending_of end) (append_assoc (kept_by st ev) (earlier mid evs) (acked_of end)) ∙ append_assoc (kept_by st ev) (acknowledged mid evs) (pending_of end)

-- in the current opening
acked-front : (st : State) (later : List Event) → IsFrontOf (acked_of st) (history st later)
acked-front st [] = front-more (acked_of st) (pending_of st)
acked-front (up h) (called c t ∷ evs) =
    let st : State = next (up h) (called c t) in
    front-trans h.acked (acked_of st) (history st evs) (acked_by c.reply (group_in h c.command), refl) (acked-front st evs)
acked-front (up h) (called_group cs result t ∷ evs) =
    let st : State = next (up h) (called_group cs result t) in
    front-trans h.acked (acked_of st) (history st evs) (acked_by_group result (group_all h cs), refl) (acked-front st evs)
acked-front (up h) (entered w n ∷ evs) = acked-front (next (up h) (entered w n)) evs
acked-front (up h) (learned w n ∷ evs) = acked-front (next (up h) (learned w n)) evs
acked-front (up h) (crashed doing n ∷ evs) =
    let more : List (List PlainChange) = take n (h.pending ++ group_of h doing) in
    let rest : List (List PlainChange) = history (next (up h) (crashed doing n)) evs in
    (more ++ rest, history-first (up h) (crashed doing n) evs ∙ append_assoc h.acked more rest)
acked-front (up h) (opened setting ∷ evs) = acked-front (up h) evs
acked-front (up h) (refused_opening rose ∷ evs) = acked-front (up h) evs
acked-front (down d) (ev ∷ evs) = (history (down d) (ev ∷ evs), refl)

pub acknowledged-front : (st : State) (world later : List Event) → IsFrontOf (acknowledged st world) (history st (world ++ later))
acknowledged-front st [] later = acked-front st later
acknowledged-front st (ev ∷ evs) later =
    let mid : State = next st ev in
    let kept : List (List PlainChange) = kept_by st ev in
    let rest : IsFrontOf (kept ++ acknowledged mid evs) (kept ++ history mid (evs ++ later)) = front-onto kept (acknowledged mid evs) (history mid (evs ++ later)) (acknowledged-front mid evs later) in
    subst (λ (l : List (List PlainChange)). IsFrontOf l (history st (ev ∷ (evs ++ later)))) (sym (append_assoc kept (earlier mid evs) (acked_of (state_after mid evs))))
    (subst (λ (l : List (List PlainChange)). IsFrontOf (kept ++ acknowledged mid evs) l) (sym (history-first st ev (evs ++ later))) rest)

pub keeps_acknowledged : KeepsAcknowledged
keeps_acknowledged first world later legal = acknowledged-front (down first) world later

-- ---- groups are kept whole

-- a halted opening keeps nothing more
quiet : (h : CurrentOpening) (c : Command) (g : List PlainChange) (gs : List (List PlainChange)) → h.pending ≡ g ∷ gs → group_in h c ≡ []
quiet h (Ask q) g gs is = refl
quiet h (History c) g gs is = refl
quiet h c g gs is = ap (λ (p : List (List PlainChange)). group_at h (cond (is_halted p) (Err Halted) (step_by h.tickets (durable_of h) c))) is

pub either : (h : CurrentOpening) (c : Command) → (h.pending ≡ []) ⊎ (group_in h c ≡ [])
either h c = by h.pending refl where
  by : (p : List (List PlainChange)) → h.pending ≡ p → (h.pending ≡ []) ⊎ (group_in h c ≡ [])
  by [] is = inl is
  by (g ∷ gs) is = inr (quiet h c g gs is)

-- if there is no group, nothing is offered
none-offered : (r : Reply) → acked_by r [] ++ pending_by r [] ≡ []
none-offered (Answer a) = refl
none-offered (Applied n o) = refl
none-offered (Stored n o) = refl
none-offered (Refused e) = by (is_fault e) where
  by : (fault : Bool) → cond {A = List (List PlainChange)} fault [] [] ≡ []
  by true = refl
  by false = refl

-- either there was no group before, or none is offered now
either-offered : (h : CurrentOpening) (c : Command) (r : Reply) → (h.pending ≡ []) ⊎ (acked_by r (group_in h c) ++ pending_by r (group_in h c) ≡ [])
either-offered h c r = by (either h c) where
  by : (h.pending ≡ []) ⊎ (group_in h c ≡ []) → (h.pending ≡ []) ⊎ (acked_by r (group_in h c) ++ pending_by r (group_in h c) ≡ [])
  by (inl none) = inl none
  by (inr none) = inr (ap (λ (g : List (List PlainChange)). acked_by r g ++ pending_by r g) none ∙ none-offered r)

-- the same for a group of commands
either-group : (h : CurrentOpening) (cs : List Command) → (h.pending ≡ []) ⊎ (group_all h cs ≡ [])
either-group h cs = by h.pending refl where
  by : (p : List (List PlainChange)) → h.pending ≡ p → (h.pending ≡ []) ⊎ (group_all h cs ≡ [])
  by [] is = inl is
  by (g ∷ gs) is = inr (ap (λ (p : List (List PlainChange)). if_ok (and_then (and_then (unless (is_halted p) Halted) (group_words cs)) (room_for h (changes_due h [] cs))) (grouped (changes_due h [] cs)) []) is)

none-offered-group : (result : Result (List Reply) Refusal) → acked_by_group result [] ++ pending_by_group result [] ≡ []
none-offered-group (Ok rs) = refl
none-offered-group (Err e) = none-offered (Refused e)

either-offered-group : (h : CurrentOpening) (cs : List Command) (result : Result (List Reply) Refusal) → (h.pending ≡ []) ⊎ (acked_by_group result (group_all h cs) ++ pending_by_group result (group_all h cs) ≡ [])
either-offered-group h cs result = by (either-group h cs) where
  by : (h.pending ≡ []) ⊎ (group_all h cs ≡ []) → (h.pending ≡ []) ⊎ (acked_by_group result (group_all h cs) ++ pending_by_group result (group_all h cs) ≡ [])
  by (inl none) = inl none
  by (inr none) = inr (ap (λ (g : List (List PlainChange)). acked_by_group result g ++ pending_by_group result g) none ∙ none-offered-group result)

no-parts : (a p : List (List PlainChange)) → a ++ p ≡ [] → (a ≡ []) × (p ≡ [])
no-parts [] p is = (refl, is)
no-parts (x ∷ xs) p is = absurd (cc (is))

-- the log after some of these groups were acknowledged, and some not
more-among : (acked pending a p : List (List PlainChange)) → (pending ≡ []) ⊎ (a ++ p ≡ []) → AreAmong ((acked ++ a) ++ (pending ++ p)) ((acked ++ pending) ++ (a ++ p))
more-among acked pending a p (inl none) =
    subst (λ (l : List (List PlainChange)). AreAmong ((acked ++ a) ++ (l ++ p)) ((acked ++ l) ++ (a ++ p))) (sym none)
    (subst (λ (l : List (List PlainChange)). AreAmong l ((acked ++ []) ++ (a ++ p))) (sym (append_assoc acked a p))
    (subst (λ (l : List (List PlainChange)). AreAmong (acked ++ (a ++ p)) (l ++ (a ++ p))) (sym (append-nil acked)) (among-refl (acked ++ (a ++ p)))))
more-among acked pending a p (inr none) =
    let parts : (a ≡ []) × (p ≡ []) = no-parts a p none in
    subst (λ (l : List (List PlainChange)). AreAmong ((acked ++ a) ++ (pending ++ p)) ((acked ++ pending) ++ l)) (sym none)
    (rw (parts.0, parts.1) (simp (append-nil {A = List PlainChange}) (among-refl (acked ++ pending))))

-- an event that offers nothing leaves the log as it is
log-stays : (h : CurrentOpening) → AreAmong (h.acked ++ h.pending) ((h.acked ++ h.pending) ++ [])
log-stays h = subst (λ (l : List (List PlainChange)). AreAmong (h.acked ++ h.pending) l) (sym (append-nil (h.acked ++ h.pending))) (among-refl (h.acked ++ h.pending))

step-among : (st : State) (ev : Event) → AreAmong (kept_by st ev ++ (acked_of (next st ev) ++ pending_of (next st ev))) ((acked_of st ++ pending_of st) ++ offered_by st ev)
step-among (up h) (called c t) =
    let g : List (List PlainChange) = group_in h c.command in
    more-among h.acked h.pending (acked_by c.reply g) (pending_by c.reply g) (either-offered h c.command c.reply)
step-among (up h) (called_group cs result t) =
    let g : List (List PlainChange) = group_all h cs in
    more-among h.acked h.pending (acked_by_group result g) (pending_by_group result g) (either-offered-group h cs result)
step-among (up h) (entered w n) = log-stays h
step-among (up h) (learned w n) = log-stays h
step-among (up h) (crashed doing n) =
    let offers : List (List PlainChange) = h.pending ++ group_of h doing in
    subst (λ (l : List (List PlainChange)). AreAmong (kept_groups h doing n ++ []) l) (sym (append_assoc h.acked h.pending (group_of h doing)))
    (subst (λ (l : List (List PlainChange)). AreAmong l (h.acked ++ offers)) (sym (append-nil (kept_groups h doing n)))
    (among-append h.acked h.acked (take n offers) offers (among-refl h.acked) (among-take n offers)))
step-among (up h) (opened setting) = log-stays h
step-among (up h) (refused_opening rose) = log-stays h
step-among (down d) (called c t) = refl
step-among (down d) (called_group cs result t) = refl
step-among (down d) (entered w n) = refl
step-among (down d) (learned w n) = refl
step-among (down d) (crashed doing n) = refl
step-among (down d) (opened setting) = refl
step-among (down d) (refused_opening rose) = refl

-- from any state on
pub among-from : (st : State) (world : List Event) → AreAmong (history st world) ((acked_of st ++ pending_of st) ++ offered st world)
among-from st [] = subst (λ (l : List (List PlainChange)). AreAmong (history st []) l) (sym (append-nil (acked_of st ++ pending_of st))) (among-refl (acked_of st ++ pending_of st))
among-from st (ev ∷ evs) =
    let mid : State = next st ev in
    let kept : List (List PlainChange) = kept_by st ev in
    let log : List (List PlainChange) = acked_of mid ++ pending_of mid in
    let rest : List (List PlainChange) = offered mid evs in
    let one : AreAmong (kept ++ history mid evs) (kept ++ (log ++ rest)) = among-append kept kept (history mid evs) (log ++ rest) (among-refl kept) (among-from mid evs) in
    let two : AreAmong ((kept ++ log) ++ rest) (((acked_of st ++ pending_of st) ++ offered_by st ev) ++ rest) = among-append (kept ++ log) ((acked_of st ++ pending_of st) ++ offered_by st ev) rest rest (step-among st ev) (among-refl rest) in
    subst (λ (l : List (List PlainChange)). AreAmong l ((acked_of st ++ pending_of st) ++ offered st (ev ∷ evs))) (sym (history-first st ev evs))
    (subst (λ (l : List (List PlainChange)). AreAmong (kept ++ history mid evs) l) (append_assoc (acked_of st ++ pending_of st) (offered_by st ev) rest)
    (among-trans (kept ++ history mid evs) ((kept ++ log) ++ rest) (((acked_of st ++ pending_of st) ++ offered_by st ev) ++ rest)
    (subst (λ (l : List (List PlainChange)). AreAmong (kept ++ history mid evs) l) (sym (append_assoc kept log rest)) one) two))

pub keeps_whole : KeepsWhole
keeps_whole first world legal = among-from (down first) world

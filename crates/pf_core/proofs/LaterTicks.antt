-- Whatever comes after a world, the tick doesn't go back.
use Rattle.std.proofs.{Common.{◌≡◌, ◌⊎◌, inl, inr, ℕ, ◌≤◌, ◌&&◌, Bool, true, false, cond, List, [], ◌∷◌, ◌++◌, take, drop, take-append-drop, refl, sym, ap, ◌∙◌, subst, append-nil, append_assoc, Result, Ok, Err, arith, le_refl}, lemmas.List.Sums.fold-append}
use Rattle.std.specs.Prelude.{⊤}
use Rattle.pf_core.specs.{declared.{command.Command.Command, reply.Refusal.Refusal, reply.Reply.Reply, reply.Reply.TheVariants.Answer as Answered, reply.Reply.TheVariants.Applied, reply.Reply.TheVariants.Stored, reply.Reply.TheVariants.Refused, step.Step.Step, step.Step.TheVariants.Wants}, Commands.{step_by, may_change}, Durable.Changes.{PlainDurable, PlainChange, applied, after, fits}, Laws.{Durable.FitInTurn, Wanted.wants_what_fits, Worlds.{tick_in, TickNeverGoesBack}}, Worlds.{CurrentOpening, State, up, down, flat, durable_of, is_halted, step_in, changes_of, grouped, amid, changes_with, changes_due, group_in, group_all, Doing, idle, calling, grouping, Event, called, called_group, entered, learned, crashed, opened, refused_opening, group_of, acked_by, is_fault, pending_by, acked_by_group, pending_by_group, next, state_after}}
use Rattle.pf_core.proofs.{Courses.{durable-amid, IsTaken, taken-or-not}, Groups.{IsKept, IsNotKept, kept-or-not, either}, Prefixes.flat-append, Stepping.unhalted, Ticked.never_sets_the_tick_back}

-- ---- changes that fit in turn, in two parts

both-fit : (d : PlainDurable) (xs ys : List PlainChange) → FitInTurn d xs → FitInTurn (after d xs) ys → FitInTurn d (xs ++ ys)
both-fit d [] ys first second = second
both-fit d (x ∷ xs) ys first second = (first.0, both-fit (applied d x) xs ys first.1 second)

first-fits : (d : PlainDurable) (xs ys : List PlainChange) → FitInTurn d (xs ++ ys) → FitInTurn d xs
first-fits d [] ys all = tt
first-fits d (x ∷ xs) ys all = (all.0, first-fits (applied d x) xs ys all.1)

second-fits : (d : PlainDurable) (xs ys : List PlainChange) → FitInTurn d (xs ++ ys) → FitInTurn (after d xs) ys
second-fits d [] ys all = all
second-fits d (x ∷ xs) ys all = second-fits (applied d x) xs ys all.1

-- ---- groups of them

abbrev Fit : PlainDurable → List (List PlainChange) → Type 0
Fit d groups = FitInTurn d (flat groups)

both-groups : (d : PlainDurable) (gs hs : List (List PlainChange)) → Fit d gs → Fit (after d (flat gs)) hs → Fit d (gs ++ hs)
both-groups d gs hs first second = subst (λ (xs : List PlainChange). FitInTurn d xs) (sym (flat-append gs hs)) (both-fit d (flat gs) (flat hs) first second)

first-groups : (d : PlainDurable) (gs hs : List (List PlainChange)) → Fit d (gs ++ hs) → Fit d gs
first-groups d gs hs all = first-fits d (flat gs) (flat hs) (subst (λ (xs : List PlainChange). FitInTurn d xs) (flat-append gs hs) all)

front-groups : (d : PlainDurable) (gs hs : List (List PlainChange)) (n : ℕ) → Fit d (gs ++ hs) → Fit d (gs ++ take n hs)
front-groups d gs hs n all = first-groups d (gs ++ take n hs) (drop n hs)
    (subst (λ (ks : List (List PlainChange)). Fit d ks) (sym (append_assoc gs (take n hs) (drop n hs) ∙ ap (λ (ks : List (List PlainChange)). gs ++ ks) (take-append-drop n hs))) all)

-- later ones don't set the tick back
later-groups : (d : PlainDurable) (gs hs : List (List PlainChange)) → Fit d (gs ++ hs) → (after d (flat gs)).tick ≤ (after d (flat (gs ++ hs))).tick
later-groups d gs hs all =
    let second : FitInTurn (after d (flat gs)) (flat hs) = second-fits d (flat gs) (flat hs) (subst (λ (xs : List PlainChange). FitInTurn d xs) (flat-append gs hs) all) in
    subst (λ (k : PlainDurable). (after d (flat gs)).tick ≤ k.tick) (sym (ap (after d) (flat-append gs hs) ∙ fold-append applied d (flat gs) (flat hs))) (never_sets_the_tick_back (after d (flat gs)) (flat hs) second)

-- ---- the group of a command, or of several

command-fits : (h : CurrentOpening) (c : Command) → Fit (durable_of h) (group_in h c)
command-fits h c = by (kept-or-not h (step_in h c)) where
  by : IsKept h (step_in h c) ⊎ IsNotKept h (step_in h c) → Fit (durable_of h) (group_in h c)
  by (inl k) =
      let own : step_by h.tickets (durable_of h) c ≡ Ok (Wants k.change k.outcome) = unhalted (may_change c && is_halted h.pending) (step_by h.tickets (durable_of h) c) (Wants k.change k.outcome) k.wanted in
      subst (λ (gs : List (List PlainChange)). Fit (durable_of h) gs) (sym k.group) (wants_what_fits h.tickets (durable_of h) c k.change k.outcome own, tt)
  by (inr none) = subst (λ (gs : List (List PlainChange)). Fit (durable_of h) gs) (sym none.group) tt

one-more-fits : (h : CurrentOpening) (changes : List PlainChange) (c : Command) → FitInTurn (durable_of h) changes → FitInTurn (durable_of h) (changes_with h changes c)
one-more-fits h changes c all = by (step_in (amid h changes) c) refl where
  a : CurrentOpening
  a = amid h changes

  by : (s : Result Step Refusal) → step_in a c ≡ s → FitInTurn (durable_of h) (changes ++ changes_of s)
  by (Ok (Wants e o)) is =
      let own : step_by a.tickets (durable_of a) c ≡ Ok (Wants e o) = unhalted (may_change c && is_halted a.pending) (step_by a.tickets (durable_of a) c) (Wants e o) is in
      both-fit (durable_of h) changes (e ∷ []) all (subst (λ (k : PlainDurable). fits k e ≡ Ok tt) (durable-amid h changes) (wants_what_fits a.tickets (durable_of a) c e o own), tt)
  by s is = subst (λ (es : List PlainChange). FitInTurn (durable_of h) es) (sym (append-nil changes)) all

course-fits : (h : CurrentOpening) (changes : List PlainChange) (commands : List Command) → FitInTurn (durable_of h) changes → FitInTurn (durable_of h) (changes_due h changes commands)
course-fits h changes [] all = all
course-fits h changes (c ∷ cs) all = course-fits h (changes_with h changes c) cs (one-more-fits h changes c all)

grouped-fits : (d : PlainDurable) (es : List PlainChange) → FitInTurn d es → Fit d (grouped es)
grouped-fits d [] all = tt
grouped-fits d (e ∷ es) all = subst (λ (xs : List PlainChange). FitInTurn d xs) (sym (append-nil (e ∷ es))) all

commands-fit : (h : CurrentOpening) (cs : List Command) → Fit (durable_of h) (group_all h cs)
commands-fit h cs = by (taken-or-not h cs) where
  by : IsTaken h cs ⊎ (group_all h cs ≡ []) → Fit (durable_of h) (group_all h cs)
  by (inl taken) = subst (λ (gs : List (List PlainChange)). Fit (durable_of h) gs) (sym taken.group) (grouped-fits (durable_of h) (changes_due h [] cs) (course-fits h [] cs tt))
  by (inr none) = subst (λ (gs : List (List PlainChange)). Fit (durable_of h) gs) (sym none) tt

-- where a group isn't acknowledged there is no other
either-all : (h : CurrentOpening) (cs : List Command) → (h.pending ≡ []) ⊎ (group_all h cs ≡ [])
either-all h cs = by (taken-or-not h cs) where
  by : IsTaken h cs ⊎ (group_all h cs ≡ []) → (h.pending ≡ []) ⊎ (group_all h cs ≡ [])
  by (inl taken) = inl taken.none
  by (inr none) = inr none

-- ---- one more event

-- what holds in each state: the groups of an opening fit in turn
abbrev FitIn : State → Type 0
FitIn (up h) = Fit h.base (h.acked ++ h.pending)
FitIn (down d) = ⊤

with-group : (h : CurrentOpening) (g : List (List PlainChange)) → (h.pending ≡ []) ⊎ (g ≡ []) → FitIn (up h) → Fit (durable_of h) g → Fit h.base (h.acked ++ (h.pending ++ g))
with-group h g (inl none) all more = subst (λ (gs : List (List PlainChange)). Fit h.base (h.acked ++ (gs ++ g))) (sym none) (both-groups h.base h.acked g (first-groups h.base h.acked h.pending all) more)
with-group h g (inr none) all more = subst (λ (gs : List (List PlainChange)). Fit h.base (h.acked ++ gs)) (sym (ap (λ (gs : List (List PlainChange)). h.pending ++ gs) none ∙ append-nil h.pending)) all

-- all of the group is acknowledged
regrouped : (acked pending g : List (List PlainChange)) → (pending ≡ []) ⊎ (g ≡ []) → (acked ++ g) ++ (pending ++ []) ≡ acked ++ (pending ++ g)
regrouped acked pending g (inl none) =
    ap (λ (gs : List (List PlainChange)). (acked ++ g) ++ (gs ++ [])) none ∙ append-nil (acked ++ g) ∙ sym (ap (λ (gs : List (List PlainChange)). acked ++ (gs ++ g)) none)
regrouped acked pending g (inr none) =
    ap (λ (gs : List (List PlainChange)). (acked ++ gs) ++ (pending ++ [])) none ∙ ap (λ (gs : List (List PlainChange)). gs ++ (pending ++ [])) (append-nil acked) ∙ sym (ap (λ (gs : List (List PlainChange)). acked ++ (pending ++ gs)) none)

taken : (h : CurrentOpening) (g : List (List PlainChange)) → (h.pending ≡ []) ⊎ (g ≡ []) → Fit h.base (h.acked ++ (h.pending ++ g)) → Fit h.base ((h.acked ++ g) ++ (h.pending ++ []))
taken h g room new = subst (λ (gs : List (List PlainChange)). Fit h.base gs) (sym (regrouped h.acked h.pending g room)) new

-- none of it is, and it is left or not
untaken : (h : CurrentOpening) (g : List (List PlainChange)) (left : Bool) → FitIn (up h) → Fit h.base (h.acked ++ (h.pending ++ g)) → Fit h.base ((h.acked ++ []) ++ (h.pending ++ cond left g []))
untaken h g true old new = subst (λ (gs : List (List PlainChange)). Fit h.base (gs ++ (h.pending ++ g))) (sym (append-nil h.acked)) new
untaken h g false old new = rw (append-nil h.acked, append-nil h.pending) old

reply-fits : (h : CurrentOpening) (r : Reply) (g : List (List PlainChange)) → (h.pending ≡ []) ⊎ (g ≡ []) → FitIn (up h) → Fit h.base (h.acked ++ (h.pending ++ g)) → Fit h.base ((h.acked ++ acked_by r g) ++ (h.pending ++ pending_by r g))
reply-fits h (Answered a) g room old new = untaken h g false old new
reply-fits h (Applied n o) g room old new = taken h g room new
reply-fits h (Stored n o) g room old new = taken h g room new
reply-fits h (Refused e) g room old new = untaken h g (is_fault e) old new

replies-fit : (h : CurrentOpening) (result : Result (List Reply) Refusal) (g : List (List PlainChange)) → (h.pending ≡ []) ⊎ (g ≡ []) → FitIn (up h) → Fit h.base (h.acked ++ (h.pending ++ g))
    → Fit h.base ((h.acked ++ acked_by_group result g) ++ (h.pending ++ pending_by_group result g))
replies-fit h (Ok rs) g room old new = taken h g room new
replies-fit h (Err e) g room old new = untaken h g (is_fault e) old new

with-command : (h : CurrentOpening) (c : Command) → FitIn (up h) → Fit h.base (h.acked ++ (h.pending ++ group_in h c))
with-command h c all = with-group h (group_in h c) (either h c) all (command-fits h c)

with-commands : (h : CurrentOpening) (cs : List Command) → FitIn (up h) → Fit h.base (h.acked ++ (h.pending ++ group_all h cs))
with-commands h cs all = with-group h (group_all h cs) (either-all h cs) all (commands-fit h cs)

-- whatever a crash may keep
with-any : (h : CurrentOpening) (doing : Doing) → FitIn (up h) → Fit h.base (h.acked ++ (h.pending ++ group_of h doing))
with-any h idle all = subst (λ (gs : List (List PlainChange)). Fit h.base (h.acked ++ gs)) (sym (append-nil h.pending)) all
with-any h (calling c) all = with-command h c all
with-any h (grouping cs) all = with-commands h cs all

fit-next : (st : State) (e : Event) → FitIn st → FitIn (next st e)
fit-next (up h) (called c t) all = reply-fits h c.reply (group_in h c.command) (either h c.command) all (with-command h c.command all)
fit-next (up h) (called_group cs result t) all = replies-fit h result (group_all h cs) (either-all h cs) all (with-commands h cs all)
fit-next (up h) (entered w n) all = all
fit-next (up h) (learned w n) all = all
fit-next (up h) (crashed doing n) all = tt
fit-next (up h) (opened setting) all = all
fit-next (up h) (refused_opening rose) all = all
fit-next (down d) (opened setting) all = tt
fit-next (down d) (called c t) all = tt
fit-next (down d) (called_group cs result t) all = tt
fit-next (down d) (entered w n) all = tt
fit-next (down d) (learned w n) all = tt
fit-next (down d) (crashed doing n) all = tt
fit-next (down d) (refused_opening rose) all = tt

tick-next : (st : State) (e : Event) → FitIn st → tick_in st ≤ tick_in (next st e)
tick-next (up h) (called c t) all =
    let g : List (List PlainChange) = group_in h c.command in
    later-groups h.base h.acked (acked_by c.reply g) (first-groups h.base (h.acked ++ acked_by c.reply g) (h.pending ++ pending_by c.reply g) (fit-next (up h) (called c t) all))
tick-next (up h) (called_group cs result t) all =
    let g : List (List PlainChange) = group_all h cs in
    later-groups h.base h.acked (acked_by_group result g) (first-groups h.base (h.acked ++ acked_by_group result g) (h.pending ++ pending_by_group result g) (fit-next (up h) (called_group cs result t) all))
tick-next (up h) (crashed doing n) all =
    later-groups h.base h.acked (take n (h.pending ++ group_of h doing)) (front-groups h.base h.acked (h.pending ++ group_of h doing) n (with-any h doing all))
tick-next (up h) (entered w n) all = le_refl _
tick-next (up h) (learned w n) all = le_refl _
tick-next (up h) (opened setting) all = le_refl _
tick-next (up h) (refused_opening rose) all = le_refl _
tick-next (down d) (opened setting) all = le_refl _
tick-next (down d) (refused_opening true) all = le_refl _
tick-next (down d) (refused_opening false) all = le_refl _
tick-next (down d) (called c t) all = le_refl _
tick-next (down d) (called_group cs result t) all = le_refl _
tick-next (down d) (entered w n) all = le_refl _
tick-next (down d) (learned w n) all = le_refl _
tick-next (down d) (crashed doing n) all = le_refl _

-- ---- a whole world

fit-after : (st : State) (world : List Event) → FitIn st → FitIn (state_after st world)
fit-after st [] all = all
fit-after st (e ∷ es) all = fit-after (next st e) es (fit-next st e all)

tick-after : (st : State) (world : List Event) → FitIn st → tick_in st ≤ tick_in (state_after st world)
tick-after st [] all = le_refl _
tick-after st (e ∷ es) all =
    let one : tick_in st ≤ tick_in (next st e) = tick-next st e all in
    let rest : tick_in (next st e) ≤ tick_in (state_after (next st e) es) = tick-after (next st e) es (fit-next st e all) in
    omega (arith, one, rest)

pub tick_never_goes_back : TickNeverGoesBack
tick_never_goes_back first world later legal =
    subst (λ (st : State). tick_in (state_after (down first) world) ≤ tick_in st) (sym (fold-append next (down first) world later))
    (tick-after (state_after (down first) world) later (fit-after (down first) world tt))

-- Epochs rise with each opening, and tickets have them.
use Rattle.std.proofs.{Common.{◌≡◌, ℕ, ◌<◌, ◌≤◌, ◌==◌, ◌&&◌, Bool, true, false, List, [], ◌∷◌, ◌++◌, length, Option, Some, None, zero, suc, ◌+◌, refl, sym, ap, ◌∙◌, subst, arith, le_refl}, lemmas.Bool.eqb-true, lemmas.List.Sums.fold-append}
use Rattle.std.specs.{List.AllByRecursion}
use Rattle.pf_ticket.specs.{declared.{name.RulesetName.RulesetName, ticket.Ticket.Ticket}, Laws.Tickets.IsGivenLast, Mentions.{Mention, opened as left_by}, Names.{is_ticket, tickets_from}, Tickets.{PlainTickets, fresh, valid_ticket}}
use Rattle.pf_ticket.proofs.{Latest.valid_is_given_last, Moves.epoch-stays}
use Rattle.pf_core.specs.{Durable.Changes.after, History.{base_of, tickets_in, tickets_by, tickets_given}, Laws.Openings.{AreVoid, VoidsTickets, RaisesTheEpoch}, Laws.Worlds.{mentions_by, mentions_since}, Worlds.{Setting, CurrentOpening, State, up, down, Event, called, called_group, entered, learned, crashed, opened, refused_opening, flat, kept_groups, next, IsLegal, state_after, IsLegalFrom}}
use Rattle.pf_core.proofs.{Courses.group-no_tickets, Folds.after-epoch, Limits.legal-reported, LongerWorlds.{AgreesIn, agrees-next, agrees-from, AreLegal, in-two}}

-- ---- epochs

epoch-next : (st : State) (ev : Event) → (base_of st).epoch ≤ (base_of (next st ev)).epoch
epoch-next (up h) (crashed doing n) = let same : (after h.base (flat (kept_groups h doing n))).epoch ≡ h.base.epoch = after-epoch h.base (flat (kept_groups h doing n)) in omega (arith, same)
epoch-next (up h) (called c t) = le_refl _
epoch-next (up h) (called_group cs result t) = le_refl _
epoch-next (up h) (entered w n) = le_refl _
epoch-next (up h) (learned w n) = le_refl _
epoch-next (up h) (opened setting) = le_refl _
epoch-next (up h) (refused_opening rose) = le_refl _
epoch-next (down d) (opened setting) = omega arith
epoch-next (down d) (refused_opening true) = omega arith
epoch-next (down d) (refused_opening false) = le_refl _
epoch-next (down d) (called c t) = le_refl _
epoch-next (down d) (called_group cs result t) = le_refl _
epoch-next (down d) (entered w n) = le_refl _
epoch-next (down d) (learned w n) = le_refl _
epoch-next (down d) (crashed doing n) = le_refl _

epoch-after : (st : State) (world : List Event) → (base_of st).epoch ≤ (base_of (state_after st world)).epoch
epoch-after st [] = le_refl _
epoch-after st (ev ∷ evs) =
    let one : (base_of st).epoch ≤ (base_of (next st ev)).epoch = epoch-next st ev in
    let rest : (base_of (next st ev)).epoch ≤ (base_of (state_after (next st ev) evs)).epoch = epoch-after (next st ev) evs in
    omega (arith, one, rest)

opened-higher : (st : State) (setting : Setting) → IsLegal st (opened setting) → (base_of st).epoch < (base_of (next st (opened setting))).epoch
opened-higher (up h) setting legal = absurd legal
opened-higher (down d) setting legal = omega arith

-- the transactions have the opening's epoch
own-epoch : (h : CurrentOpening) (ms : List Mention) → h.tickets ≡ left_by h.base.epoch ms → h.tickets.epoch ≡ h.base.epoch
own-epoch h ms is = ap (λ (t : PlainTickets). t.epoch) is ∙ epoch-stays (fresh h.base.epoch) ms

-- ---- tickets that were given

abbrev AreUpTo : ℕ → List Ticket → Type 0
AreUpTo e ts = AllByRecursion (λ t. t.epoch ≤ e) ts

up-append : (e : ℕ) (ts us : List Ticket) → AreUpTo e ts → AreUpTo e us → AreUpTo e (ts ++ us)
up-append e [] us h k = k
up-append e (t ∷ ts) us h k = (h.0, up-append e ts us h.1 k)

from-up : (epoch count n e : ℕ) → epoch ≤ e → AreUpTo e (tickets_from epoch count n)
from-up epoch count zero e low = tt
from-up epoch count (suc n) e low = (low, from-up epoch (count + 1) n e low)

step-up : (st : State) (ms : List Mention) (ev : Event) (e : ℕ) → IsLegal st ev → AgreesIn st ms → (base_of st).epoch ≤ e → AreUpTo e (tickets_by ev)
step-up (up h) ms (called c t) e legal agrees low =
    let own : h.tickets.epoch ≡ h.base.epoch = own-epoch h ms agrees in
    let ts : List Ticket = tickets_in c.reply in
    subst (AreUpTo e) (sym (legal-reported h c.command c.reply t.failed legal.reply).reported) (from-up h.tickets.epoch h.tickets.next (length ts) e (omega (arith, own, low)))
step-up (down d) ms (called c t) e legal agrees low = absurd legal
step-up (up h) ms (called_group cs result t) e legal agrees low = subst (AreUpTo e) (sym (group-no_tickets h cs result t.failed legal.reply)) tt
step-up (down d) ms (called_group cs result t) e legal agrees low = absurd legal
step-up st ms ev e legal agrees low = tt

given-up : (st : State) (ms : List Mention) (world : List Event) → IsLegalFrom st world → AgreesIn st ms → AreUpTo (base_of (state_after st world)).epoch (tickets_given world)
given-up st ms [] legal agrees = tt
given-up st ms (ev ∷ evs) legal agrees =
    let e : ℕ = (base_of (state_after (next st ev) evs)).epoch in
    up-append e (tickets_by ev) (tickets_given evs) (step-up st ms ev e legal.0 agrees (epoch-after st (ev ∷ evs))) (given-up (next st ev) (mentions_by ms ev) evs legal.1 (agrees-next st ms ev legal.0 agrees))

-- ---- are no longer valid

-- a valid ticket has the opening's epoch
valid-epoch : (h : CurrentOpening) (ms : List Mention) (name : RulesetName) (t : Ticket) → h.tickets ≡ left_by h.base.epoch ms → valid_ticket h.tickets name ≡ Some t → t.epoch ≡ h.base.epoch
valid-epoch h ms name t is found =
    let given : IsGivenLast (fresh h.base.epoch) ms name t = valid_is_given_last h.base.epoch ms name t (ap (λ (o : PlainTickets). valid_ticket o name) (sym is) ∙ found) in
    ap (λ (u : Ticket). u.epoch) given.ticket ∙ epoch-stays (fresh h.base.epoch) given.before

not-this : (v : Option Ticket) (e : ℕ) (u : Ticket) → ((t : Ticket) → v ≡ Some t → t.epoch ≡ e) → u.epoch < e → is_ticket v u ≡ false
not-this None e u of low = refl
not-this (Some t) e u of low = by (t.epoch == u.epoch) (t.count == u.count) (λ same. let is : t.epoch ≡ u.epoch = eqb-true t.epoch u.epoch same in omega (arith, is, of t refl, low)) where
  by : (a b : Bool) → (a ≡ true → ⊥) → (a && b) ≡ false
  by true b other = absurd (other refl)
  by false b other = refl

none-valid : (v : Option Ticket) (e : ℕ) (us : List Ticket) (old : ℕ) → ((t : Ticket) → v ≡ Some t → t.epoch ≡ e) → AreUpTo old us → old < e → AllByRecursion (λ u. is_ticket v u ≡ false) us
none-valid v e [] old of up_to low = tt
none-valid v e (u ∷ us) old of up_to low = (not-this v e u of (let one : u.epoch ≤ old = up_to.0 in omega (arith, one, low)), none-valid v e us old of up_to.1 low)

are-void : (st : State) (ms : List Mention) (ts : List Ticket) (old : ℕ) → AgreesIn st ms → AreUpTo old ts → old < (base_of st).epoch → AreVoid st ts
are-void (up h) ms ts old agrees up_to low = λ name. none-valid (valid_ticket h.tickets name) h.base.epoch ts old (λ t found. valid-epoch h ms name t agrees found) up_to low
are-void (down d) ms ts old agrees up_to low = tt

pub voids_tickets : VoidsTickets
voids_tickets first world later setting legal =
    let all : List Event = world ++ opened setting ∷ later in
    let parts : AreLegal (down first) world (opened setting) later = in-two (down first) world (opened setting) later legal in
    let mid : State = state_after (down first) world in
    let begun : State = next mid (opened setting) in
    let higher : (base_of mid).epoch < (base_of begun).epoch = opened-higher mid setting parts.here in
    let rest : (base_of begun).epoch ≤ (base_of (state_after begun later)).epoch = epoch-after begun later in
    let end : state_after (down first) all ≡ state_after begun later = fold-append next (down first) world (opened setting ∷ later) in
    are-void (state_after (down first) all) (mentions_since all) (tickets_given world) (base_of mid).epoch (agrees-from (down first) [] all legal tt) (given-up (down first) [] world parts.before tt)
    (subst (λ (st : State). (base_of mid).epoch < (base_of st).epoch) (sym end) (omega (arith, higher, rest)))

-- ---- and are of an earlier epoch

all-below : (e higher : ℕ) (ts : List Ticket) → AreUpTo e ts → e < higher → AllByRecursion (λ t. t.epoch < higher) ts
all-below e higher [] up_to low = tt
all-below e higher (t ∷ ts) up_to low = (let one : t.epoch ≤ e = up_to.0 in omega (arith, one, low), all-below e higher ts up_to.1 low)

pub raises_the_epoch : RaisesTheEpoch
raises_the_epoch first world setting legal =
    let parts : AreLegal (down first) world (opened setting) [] = in-two (down first) world (opened setting) [] legal in
    let mid : State = state_after (down first) world in
    let end : state_after (down first) (world ++ opened setting ∷ []) ≡ next mid (opened setting) = fold-append next (down first) world (opened setting ∷ []) in
    all-below (base_of mid).epoch (base_of (state_after (down first) (world ++ opened setting ∷ []))).epoch (tickets_given world) (given-up (down first) [] world parts.before tt)
    (subst (λ (st : State). (base_of mid).epoch < (base_of st).epoch) (sym end) (opened-higher mid setting parts.here))

-- Longer worlds, one event at a time.
use Rattle.std.proofs.{Common.{Result, ◌≡◌, ◌<◌, Bool, true, false, cond, inl, inr, List, [], ◌∷◌, ◌++◌, refl, sym, ap, ◌∙◌, subst, append-nil}, lemmas.List.Sums.{fold-append, fold_push}}
use Rattle.std.specs.Prelude.{fold, ⊤}
use Rattle.pf_core.specs.{declared.{command.Command.Command, reply.Refusal.Refusal, reply.Refusal.TheVariants.Fault, reply.Refusal.TheVariants.Memory, reply.Reply.Reply, reply.Reply.TheVariants.Applied, reply.Reply.TheVariants.Refused}, Calls.{Call, call, mentions_of, mentions_of_group}, Durable.Changes.{PlainDurable, PlainChange}, WorldBooks.{WorldBook, IsAt, IsFolded, StandsFor, Leads, LeadsGroup}, Cores.PlainCore, Laws.{Openings.CrashesAreEvents, Worlds.{mentions_by, mentions_since, TicketsAreOfTheCalls}}, Worlds.{Setting, CurrentOpening, State, up, down, begun, raised, flat, step_in, due, group_in, Upshot, upshot, Event, called, called_group, entered, learned, crashed, opened, refused_opening, acked_by, is_fault, pending_by, shown_by, heard, heard_group, next, StandsIn, LegalReply, last_epoch, IsLegal, state_after, IsLegalFrom, IsWorld}}
use Rattle.pf_ticket.specs.{Tickets.{PlainTickets, fresh}, Mentions.{Mention, moved, after, opened as left_by}}
use Rattle.pf_core.proofs.{Prefixes.flat-append, Groups.refused-group}

-- a group of one more change
pub flat-push : (gs : List (List PlainChange)) (e : PlainChange) → flat (gs ++ (e ∷ []) ∷ []) ≡ flat gs ++ e ∷ []
flat-push gs e = flat-append gs ((e ∷ []) ∷ [])

-- ---- one more event

legal-push : (st : State) (world : List Event) (e : Event) → IsLegalFrom st world → IsLegal (state_after st world) e → IsLegalFrom st (world ++ e ∷ [])
legal-push st [] e all now = (now, tt)
legal-push st (x ∷ xs) e all now = (all.0, legal-push (next st x) xs e all.1 now)

-- a legal event leads to a longer world
pub stands-by : (first : PlainDurable) (new : WorldBook) (world : List Event) (e : Event) (st : State) (h : CurrentOpening) →
    IsWorld first world → state_after (down first) world ≡ st → IsLegal st e → next st e ≡ up h → IsAt h new → IsFolded new → StandsFor first new (world ++ e ∷ [])
stands-by first new world e st h legal comes now is at folded = record {
  legal = legal-push (down first) world e legal (subst (λ (x : State). IsLegal x e) (sym comes) now);
  held = h;
  comes = fold_push next (down first) world e ∙ ap (λ (x : State). next x e) comes ∙ is;
  at = at;
  folded = folded;
}

pub stands-on : (first : PlainDurable) (old new : WorldBook) (world : List Event) (c : Call) (t : Upshot) → (stands : StandsFor first old world) → Leads stands.held new c t → IsFolded new → StandsFor first new (world ++ called c t ∷ [])
stands-on first old new world c t stands leads folded = stands-by first new world (called c t) (up stands.held) (heard stands.held c t) stands.legal stands.comes leads.legal refl leads.at folded

pub stands-on-group : (first : PlainDurable) (old new : WorldBook) (world : List Event) (commands : List Command) (result : Result (List Reply) Refusal) (t : Upshot) → (stands : StandsFor first old world) → LeadsGroup stands.held new commands result t → IsFolded new
    → StandsFor first new (world ++ called_group commands result t ∷ [])
stands-on-group first old new world commands result t stands leads folded =
    stands-by first new world (called_group commands result t) (up stands.held) (heard_group stands.held commands result t) stands.legal stands.comes leads.legal refl leads.at folded

-- an opening has begun
pub stands-opened : (first : PlainDurable) (new : WorldBook) (setting : Setting) → first.epoch < last_epoch → IsAt (begun setting (raised first)) new → IsFolded new → StandsFor first new (opened setting ∷ [])
stands-opened first new setting low at folded = stands-by first new [] (opened setting) (down first) (begun setting (raised first)) tt refl low refl at folded

-- a reply that keeps nothing leads at most to another core
pub nothing-leads : (h : CurrentOpening) (b : WorldBook) (w : PlainCore) (c : Command) (r : Reply) → LegalReply h c r false → acked_by r (group_in h c) ≡ [] → pending_by r (group_in h c) ≡ [] → shown_by r h.shown ≡ h.shown →
    w.tickets ≡ after b.whole.tickets (mentions_of (call c r)) → IsAt h b → Leads h (record b { whole = w }) (call c r) (upshot b.shown false)
nothing-leads h b w c r legal none unkept still moved at = record {
  legal = record { reply = legal; shown = at.shown ∙ sym still };
  at = record {
    base = at.base;
    tickets = moved ∙ ap (λ (t : PlainTickets). after t (mentions_of (call c r))) at.tickets;
    acked = at.acked ∙ sym (append-nil h.acked) ∙ ap (λ (gs : List (List PlainChange)). h.acked ++ gs) (sym none);
    pending = at.pending ∙ sym (append-nil h.pending) ∙ ap (λ (gs : List (List PlainChange)). h.pending ++ gs) (sym unkept);
    shown = refl;
    setting = at.setting;
  };
}

pub none-of-none : (b : Bool) (gs : List (List PlainChange)) → gs ≡ [] → cond b gs [] ≡ []
none-of-none true gs is = is
none-of-none false gs is = refl

none-stands : (h : CurrentOpening) (c : Command) (reported : Reply) (e : Refusal) (gs : List (List PlainChange)) → StandsIn h c false reported (Refused e) → cond (is_fault e) gs [] ≡ []
none-stands h c reported Memory gs stands = refl
none-stands h c (Applied n o) Fault gs stands = absurd (cc (stands))
none-stands h c reported e gs stands = absurd stands

-- if the device didn't fail, a refusal leaves nothing
pub refused-unkept : (h : CurrentOpening) (c : Command) (e : Refusal) → LegalReply h c (Refused e) false → pending_by (Refused e) (group_in h c) ≡ []
refused-unkept h c e (inl is) = none-of-none (is_fault e) (group_in h c) (refused-group h (step_in h c) e is)
refused-unkept h c e (inr stands) = none-stands h c (due h c) e (group_in h c) stands

-- such a refusal leads to nothing else
pub refused-leads : (h : CurrentOpening) (b new : WorldBook) (c : Command) (e : Refusal) → LegalReply h c (Refused e) false → new ≡ b → IsAt h b → Leads h new (call c (Refused e)) (upshot new.shown false)
refused-leads h b new c e legal same at =
    subst (λ (p : WorldBook). Leads h p (call c (Refused e)) (upshot p.shown false)) (sym same) (nothing-leads h b b.whole c (Refused e) legal refl (refused-unkept h c e legal) refl refl at)

-- a crash is an event of the world
pub crashes_are_events : CrashesAreEvents
crashes_are_events first world h doing d legal comes left = (
  left.0,
  legal-push (down first) world (crashed doing left.0) legal (subst (λ (x : State). IsLegal x (crashed doing left.0)) (sym comes) tt),
  fold_push next (down first) world (crashed doing left.0) ∙ ap (λ (x : State). next x (crashed doing left.0)) comes ∙ left.1,
)

-- ---- a world in two parts

pub record AreLegal (st : State) (world : List Event) (ev : Event) (later : List Event) : Type 0 where
  pub before : IsLegalFrom st world
  pub here : IsLegal (state_after st world) ev
  pub following : IsLegalFrom (next (state_after st world) ev) later

pub in-two : (st : State) (world : List Event) (ev : Event) (later : List Event) → IsLegalFrom st (world ++ ev ∷ later) → AreLegal st world ev later
in-two st [] ev later legal = record { before = tt; here = legal.0; following = legal.1 }
in-two st (x ∷ xs) ev later legal =
    let rest : AreLegal (next st x) xs ev later = in-two (next st x) xs ev later legal.1 in
    record { before = (legal.0, rest.before); here = rest.here; following = rest.following }

-- ---- what was mentioned since an opening

abbrev pub AgreesIn : State → List Mention → Type 0
AgreesIn (up h) ms = h.tickets ≡ left_by h.base.epoch ms
AgreesIn (down d) ms = ⊤

pub agrees-next : (st : State) (ms : List Mention) (e : Event) → IsLegal st e → AgreesIn st ms → AgreesIn (next st e) (mentions_by ms e)
agrees-next (up h) ms (called c t) legal is = ap (λ (o : PlainTickets). after o (mentions_of c)) is ∙ sym (fold-append moved (fresh h.base.epoch) ms (mentions_of c))
agrees-next (up h) ms (called_group cs result t) legal is =
    ap (λ (o : PlainTickets). after o (mentions_of_group cs result)) is ∙ sym (fold-append moved (fresh h.base.epoch) ms (mentions_of_group cs result))
agrees-next (up h) ms (entered w n) legal is = is
agrees-next (up h) ms (learned w n) legal is = is
agrees-next (up h) ms (crashed doing n) legal is = tt
agrees-next (down d) ms (opened setting) legal is = refl
agrees-next (down d) ms (refused_opening rose) legal is = tt
agrees-next st ms e legal is = absurd legal

pub agrees-from : (st : State) (ms : List Mention) (world : List Event) → IsLegalFrom st world → AgreesIn st ms → AgreesIn (state_after st world) (fold mentions_by ms world)
agrees-from st ms [] legal is = is
agrees-from st ms (e ∷ es) legal is = agrees-from (next st e) (mentions_by ms e) es legal.1 (agrees-next st ms e legal.0 is)

pub tickets_are_of_the_calls : TicketsAreOfTheCalls
tickets_are_of_the_calls first world h legal comes = subst (λ (st : State). AgreesIn st (mentions_since world)) comes (agrees-from (down first) [] world legal tt)

-- No step of the core is refused for a fault of the device.
use Rattle.std.proofs.Common.{◌≡◌, ℕ, Bool, true, false, cond, Option, Some, None, Result, Ok, Err, refl, sym, ap, ◌∙◌}
use Rattle.std.specs.Prelude.{is_some, if◌then◌else◌}
use Rattle.pf_rule.specs.Packets.{PlainPacket}
use Rattle.pf_anchor.specs.declared.verdict.RuleVerdict.{RuleVerdict}
use Rattle.pf_state.specs.{declared.{state.Bound.Bound, state.StateName.StateName}, States.held_at}
use Rattle.pf_ticket.specs.{declared.refusal.TicketRefusal.TicketRefusal, Replies.commit_check, Tickets.{PlainTickets, content}}
use Rattle.pf_core.specs.declared.reply.Outcome.TheVariants as outcome
use Rattle.pf_ticket.specs.declared.refusal.TicketRefusal.TheVariants as ticket
use Rattle.pf_core.specs.declared.durable.refusal.ChangeRefusal.TheVariants as by_change
use Rattle.pf_core.specs.declared.{command.Command.Command, command.Command.TheVariants.{Transact, Edit, States as OfStates, Ask, History}, command.StateCommand.StateCommand, command.StateCommand.TheVariants.{Track, Peer, Kill as KillState, Expire as ExpireStates}, command.TableEdit.TableEdit, command.TableEdit.TheVariants.{Add as AddTo, Delete, Set, Kill}, command.Transaction.Transaction, command.Transaction.TheVariants.{Begin, Add, Define, Extend, Commit, Rollback}, durable.refusal.ChangeRefusal.ChangeRefusal, durable.verdict.Verdict.Verdict, durable.verdict.Verdict.TheVariants.{State as Stateful, Rules as ByRules}, reply.Refusal.Refusal, reply.Refusal.TheVariants.{Absent, BadTick}, step.Step.Step}
use Rattle.pf_core.specs.{Commands.{unless_refused, unless_unfit, if_there, wanting, items, tracked, makes_state, judge_step, track_step, expiry_of, is_past, transact_step, edit_step, states_step, step_by}, Durable.Changes.{PlainDurable, commits, verdict}, Refusals.{refusal_of, change_refusal_of}, Worlds.is_fault}

abbrev NoFault : Result Step Refusal → Type 0
NoFault s = (e : Refusal) → s ≡ Err e → is_fault e ≡ false

abbrev refused : Refusal → Result Step Refusal
refused e = Err e

not_a_fault : (x e : Refusal) → is_fault x ≡ false → refused x ≡ refused e → is_fault e ≡ false
not_a_fault x e not is = let same : x ≡ e = cc (is) in ap is_fault (sym same) ∙ not

ok-not : (s : Step) → NoFault (Ok s)
ok-not s e is = absurd (cc (is))

ticket-not : (x : TicketRefusal) → is_fault (refusal_of x) ≡ false
ticket-not ticket.Memory = refl
ticket-not x = refl

change-not : (x : ChangeRefusal) → is_fault (change_refusal_of x) ≡ false
change-not by_change.Memory = refl
change-not x = refl

unless-not : {A : Type 0} (r : Result A TicketRefusal) (f : A → Result Step Refusal) → ((a : A) → NoFault (f a)) → NoFault (unless_refused r f)
unless-not (Ok a) f not = not a
unless-not (Err x) f not = λ e is. not_a_fault (refusal_of x) e (ticket-not x) is

unfit-not : (r : Result (Unit {0}) ChangeRefusal) (s : Result Step Refusal) → NoFault s → NoFault (unless_unfit r s)
unfit-not (Ok u) s not = not
unfit-not (Err x) s not = λ e is. not_a_fault (change_refusal_of x) e (change-not x) is

there-not : (b : Bool) (s : Result Step Refusal) → NoFault s → NoFault (if_there b s)
there-not true s not = not
there-not false s not = λ e is. not_a_fault Absent e refl is

transact-not : (t : PlainTickets) (d : PlainDurable) (x : Transaction) → NoFault (transact_step t d x)
transact-not t d (Begin names) = unless-not _ _ (λ range. ok-not _)
transact-not t d (Add p u rule) = unless-not _ _ (λ _. ok-not _)
transact-not t d (Define p u name xs) = unless-not _ _ (λ _. ok-not _)
transact-not t d (Extend p u name xs) = unless-not _ _ (λ _. ok-not _)
transact-not t d (Commit entries) = unless-not (commit_check t entries) (λ _. wanting d (commits (items (content t) entries)) outcome.Committed) (λ _. unfit-not _ _ (ok-not _))
transact-not t d (Rollback entries) = unless-not _ _ (λ _. ok-not _)

edit-not : (d : PlainDurable) (x : TableEdit) → NoFault (edit_step d x)
edit-not d (AddTo p name xs) = unfit-not _ _ (ok-not _)
edit-not d (Delete p name xs) = unfit-not _ _ (there-not _ _ (ok-not _))
edit-not d (Set p name xs) = unfit-not _ _ (ok-not _)
edit-not d (Kill p name) = there-not _ _ (ok-not _)

make-not : (known : Bool) (s t : Result Step Refusal) → NoFault s → NoFault t → NoFault (cond known s t)
make-not true s t one other = one
make-not false s t one other = other

tracked-not : (d : PlainDurable) (name : StateName) (packet : PlainPacket) (expiry : ℕ) (by : RuleVerdict) (b : Option Bound) → NoFault (tracked d name packet expiry by b)
tracked-not d name packet expiry by None = ok-not _
tracked-not d name packet expiry by (Some b) = make-not (is_some (held_at name d.states)) _ _ (ok-not _) (unfit-not _ _ (ok-not _))

judge-not : (d : PlainDurable) (name : StateName) (packet : PlainPacket) (expiry : ℕ) (v : Verdict) → NoFault (judge_step d name packet expiry v)
judge-not d name packet expiry (Stateful s) = ok-not _
judge-not d name packet expiry (ByRules by) = tracked-not d name packet expiry by (makes_state d by)

past-not : (past : Bool) (s : Result Step Refusal) → NoFault s → NoFault (if past then Err BadTick else s)
past-not true s not = λ e is. not_a_fault BadTick e refl is
past-not false s not = not

track-not : (d : PlainDurable) (name : StateName) (packet : PlainPacket) (until : Option ℕ) → NoFault (track_step d name packet until)
track-not d name packet until = past-not (is_past d until) _ (judge-not d name packet (expiry_of until) (verdict d packet))

states-not : (d : PlainDurable) (x : StateCommand) → NoFault (states_step d x)
states-not d (Track name packet until) = track-not d name packet until
states-not d (Peer m) = unfit-not _ _ (ok-not _)
states-not d (KillState name) = there-not _ _ (ok-not _)
states-not d (ExpireStates tick) = unfit-not _ _ (ok-not _)

pub never-fault : (t : PlainTickets) (d : PlainDurable) (c : Command) (e : Refusal) → step_by t d c ≡ Err e → is_fault e ≡ false
never-fault t d (Transact y) e is = transact-not t d y e is
never-fault t d (Edit y) e is = edit-not d y e is
never-fault t d (OfStates y) e is = states-not d y e is
never-fault t d (Ask q) e is = absurd (cc (is))
never-fault t d (History y) e is = absurd (cc (is))

-- One more command of a group.
use Rattle.std.proofs.{Common.{◌≡◌, ◌≢◌, cond, ℕ, ◌+◌, ◌<◌, ◌≤◌, ◌&&◌, Bool, true, false, List, [], ◌∷◌, ◌++◌, length, Option, None, Some, Result, Ok, Err, refl, sym, ap, ◌∙◌, subst, arith, append_assoc, append-nil, length-append}, lemmas.{Bool.Decides.nat_tests, Iterator.Adapters.position_from-zero, List.map-append}}
use Rattle.std.specs.{Prelude.{flat_map, not, position, ◌↔◌, ⊤, IsTrue}, List.{AllByRecursion, list_all, position_from}}
use Rattle.pf_core.specs.Refusing.{unless, refused_at, AreBothPassed, both_passed, not_refused}
use Rattle.pf_ticket.specs.{Laws.Tickets.IsWithin as AreTicketsWithin, Mentions.{after as moved_by, switches}, Tickets.PlainTickets}
use Rattle.pf_core.specs.declared.{command.Command.Command, reply.Refusal.Refusal, reply.Refusal.TheVariants.{BadCount, NotGrouped, Memory}, group.TheConstants.GROUP_LIMIT, reply.Reply.Reply, step.ReadyStep.ReadyStep, step.Step.Step, step.Step.TheVariants.{Wants}}
use Rattle.pf_core.specs.declared.step.ReadyStep.TheVariants as made
use Rattle.pf_core.specs.{Commands.{step_by, may_be_grouped, bad_number, group_words}, Durable.Changes.{PlainDurable, PlainChange, after, applied, voided_by, fits}, Laws.Wanted.wants_what_fits, Nexts.PlainNext, Cores.{PlainCore, left_from, plain, IsMadeFrom}, Worlds.{CurrentOpening, log_of, durable_of, step_in, reply_to, changes_of, amid, changes_due, replies_due}}
use Rattle.pf_core.proofs.Courses.{step-there, left-there, log-amid}
use Rattle.pf_store.specs.{Groups.{can_be_wanted, made_all}, Stores.{FindsRoom, FollowInTurn}}
use Rattle.pf_store.specs.declared.encoding.recorded.Recorded.TheVariants as recorded
use Rattle.pf_store.proofs.Leading.{follow_push, left_by_made}
use Rattle.pf_book.specs.{Books.left_together, Courses.{IsCalm, ready_of, found_by, left_to, StepFindsRoom, FindRoomEach}}
use Rattle.pf_book.proofs.Wanting.{wanted-can}
use Rattle.std.proofs.lemmas.Bool.{and_parts}

-- ---- what is left so far

pub so-far : (d : PlainDurable) (changes : List PlainChange) → found_by d (ready_of d changes) ≡ left_together d changes
so-far d [] = refl
so-far d (e ∷ es) = refl

some-ready : (d : PlainDurable) (es : List PlainChange) (e : PlainChange) → ready_of d (es ++ e ∷ []) ≡ Some (left_together d (es ++ e ∷ []))
some-ready d [] e = refl
some-ready d (x ∷ es) e = refl

-- a command that wants no change leaves nothing more
still-ready : (d : PlainDurable) (changes : List PlainChange) (before : Option PlainNext) → before ≡ ready_of d changes → before ≡ ready_of d (changes ++ [])
still-ready d changes before is = is ∙ ap (ready_of d) (sym (append-nil changes))

pub left-on : (d : PlainDurable) (changes : List PlainChange) (before : Option PlainNext) (step : Result ReadyStep Refusal) → before ≡ ready_of d changes → IsMadeFrom (found_by d before) step → left_to step before ≡ ready_of d (changes ++ changes_of (plain step))
left-on d changes before (Ok (made.Wants e n o)) is from =
    let following : found_by d before ≡ left_together d changes = ap (found_by d) is ∙ so-far d changes in
    let left : n ≡ left_together d (changes ++ e ∷ []) = from ∙ ap (λ (r : PlainNext). left_from r e) following ∙ left-there d changes e in
    ap Some left ∙ sym (some-ready d changes e)
left-on d changes before step is from = still-ready d changes before is

-- if nothing is left there are no changes
pub none-ready : (d : PlainDurable) (changes : List PlainChange) → None ≡ ready_of d changes → changes ≡ []
none-ready d [] is = refl
none-ready d (e ∷ es) is = absurd (cc (is))

pub ready-some : (d : PlainDurable) (changes : List PlainChange) (n : PlainNext) → Some n ≡ ready_of d changes → 0 < length changes
ready-some d [] n is = absurd (cc (is))
ready-some d (e ∷ es) n is = omega arith

-- ---- its step

-- the step that is due to a command by the core, if `before` is what is left so far
abbrev pub Steps : PlainCore → Option PlainNext → Command → Result Step Refusal → Type 0
Steps w before c s = s ≢ Err Memory → s ≡ step_by (moved_by w.tickets (switches (found_by w.durable before).voided)) (found_by w.durable before).durable c

abbrev pub tickets_there : PlainCore → List PlainChange → PlainTickets
tickets_there w changes = moved_by w.tickets (switches (flat_map voided_by changes))

pub step-after : (w : PlainCore) (changes : List PlainChange) (c : Command) (before : Option PlainNext) (s : Result Step Refusal) → before ≡ ready_of w.durable changes → Steps w before c s → s ≢ Err Memory → s ≡ step_by (tickets_there w changes) (after w.durable changes) c
step-after w changes c before s is steps known =
    steps known ∙ ap (λ (r : PlainNext). step_by (moved_by w.tickets (switches r.voided)) r.durable c) (ap (found_by w.durable) is ∙ so-far w.durable changes)

-- it is the step that the group's course has there
pub step-amidst : (h : CurrentOpening) (w : PlainCore) (acked : ℕ) (changes : List PlainChange) (c : Command) (s : Result Step Refusal) → IsCalm h w acked → s ≡ step_by (tickets_there w changes) (after w.durable changes) c → step_in (amid h changes) c ≡ s
step-amidst h w acked changes c s calm is =
    step-there h changes c calm.none ∙ ap (λ (t : PlainTickets). step_by (moved_by t (switches (flat_map voided_by changes))) (after (durable_of h) changes) c) calm.tickets
    ∙ ap (λ (k : PlainDurable). step_by (tickets_there w changes) (after k changes) c) calm.durable ∙ sym is

pub number-amidst : (h : CurrentOpening) (w : PlainCore) (acked : ℕ) (changes : List PlainChange) → IsCalm h w acked → length (log_of (amid h changes)) ≡ acked + length changes
number-amidst h w acked changes calm = log-amid h changes calm.none ∙ ap (λ (n : ℕ). n + length changes) calm.number

-- so the replies and the changes so far, with those of the commands still to come, stay the same in total
pub replies-on : (h : CurrentOpening) (replies replies' total : List Reply) (changes changes' : List PlainChange) (c : Command) (rest more : List Command) (s : Result Step Refusal) → step_in (amid h changes) c ≡ s → rest ≡ c ∷ more
    → replies' ≡ replies ++ reply_to (amid h changes) s ∷ [] → changes' ≡ changes ++ changes_of s → replies ++ replies_due h changes rest ≡ total → replies' ++ replies_due h changes' more ≡ total
replies-on h replies replies' total changes changes' c rest more s step left says wants so =
    let a : CurrentOpening = amid h changes in
    ap (λ (rs : List Reply). rs ++ replies_due h changes' more) says ∙ ap (λ (es : List PlainChange). (replies ++ reply_to a s ∷ []) ++ replies_due h es more) wants
    ∙ append_assoc replies (reply_to a s ∷ []) (replies_due h (changes ++ changes_of s) more)
    ∙ ap (λ (x : Result Step Refusal). replies ++ (reply_to a x ∷ replies_due h (changes ++ changes_of x) more)) (sym step)
    ∙ ap (λ (cs : List Command). replies ++ replies_due h changes cs) (sym left) ∙ so

pub changes-on : (h : CurrentOpening) (total changes changes' : List PlainChange) (c : Command) (rest more : List Command) (s : Result Step Refusal) → step_in (amid h changes) c ≡ s → rest ≡ c ∷ more
    → changes' ≡ changes ++ changes_of s → changes_due h changes rest ≡ total → changes_due h changes' more ≡ total
changes-on h total changes changes' c rest more s step left wants so =
    ap (λ (es : List PlainChange). changes_due h es more) wants ∙ ap (λ (x : Result Step Refusal). changes_due h (changes ++ changes_of x) more) (sym step) ∙ ap (changes_due h changes) (sym left) ∙ so

-- ---- its change

-- it fits after those before it
pub fit-on : (d : PlainDurable) (t : PlainTickets) (changes changes' : List PlainChange) (c : Command) (s : Result Step Refusal) → s ≡ step_by t (after d changes) c → changes' ≡ changes ++ changes_of s → FollowInTurn d (made_all changes) → FollowInTurn d (made_all changes')
fit-on d t changes changes' c (Ok (Wants e o)) is wants so =
    let fit : fits (after d changes) e ≡ Ok tt = wants_what_fits t (after d changes) c e o (sym is) in
    subst (λ (es : List PlainChange). FollowInTurn d (made_all es)) (sym wants)
    (subst (FollowInTurn d) (sym (map-append recorded.Made changes (e ∷ [])))
    (follow_push d (made_all changes) (recorded.Made e) so (subst (λ (k : PlainDurable). fits k e ≡ Ok tt) (sym (left_by_made d changes)) fit)))
fit-on d t changes changes' c s is wants so = subst (λ (es : List PlainChange). FollowInTurn d (made_all es)) (sym (wants ∙ append-nil changes)) so

all-push : (es : List PlainChange) (e : PlainChange) → list_all can_be_wanted es ≡ true → can_be_wanted e ≡ true → list_all can_be_wanted (es ++ e ∷ []) ≡ true
all-push [] e all here = ap (λ (b : Bool). b && true) here
all-push (x ∷ es) e all here = by (can_be_wanted x) all (all-push es e) where
  by : (b : Bool) → (b && list_all can_be_wanted es) ≡ true → (list_all can_be_wanted es ≡ true → can_be_wanted e ≡ true → list_all can_be_wanted (es ++ e ∷ []) ≡ true) → (b && list_all can_be_wanted (es ++ e ∷ [])) ≡ true
  by true rest more = more rest here
  by false rest more = absurd (cc (rest))

-- and it can be wanted
pub wanted-on : (t : PlainTickets) (d : PlainDurable) (changes changes' : List PlainChange) (c : Command) (s : Result Step Refusal) → AreTicketsWithin t → s ≡ step_by t d c → changes' ≡ changes ++ changes_of s → list_all can_be_wanted changes ≡ true → list_all can_be_wanted changes' ≡ true
wanted-on t d changes changes' c (Ok (Wants e o)) within is wants so = ap (list_all can_be_wanted) wants ∙ all-push changes e so (wanted-can t d c e o within (sym is))
wanted-on t d changes changes' c s within is wants so = ap (list_all can_be_wanted) (wants ∙ append-nil changes) ∙ so

-- there is at most one
pub few-on : (changes changes' : List PlainChange) (s : Result Step Refusal) → changes' ≡ changes ++ changes_of s → length changes' ≤ length changes + 1
few-on changes changes' s wants = omega (arith, ap length wants, length-append changes (changes_of s), one s) where
  one : (s : Result Step Refusal) → length (changes_of s) ≤ 1
  one (Ok (Wants e o)) = omega arith
  one s = omega arith

-- ---- its room

-- one more change finds room by itself as well
each-push : (size : ℕ) (d : PlainDurable) (es : List PlainChange) (e : PlainChange) → FindRoomEach size d (es ++ e ∷ []) ↔ (FindRoomEach size d es × FindsRoom size (after d es) (applied (after d es) e) (e ∷ []))
each-push size d [] e = (λ p. (tt, p.0), λ p. (p.1, tt))
each-push size d (x ∷ es) e = let rest = each-push size (applied d x) es e in (λ p. ((p.0, (rest.0 p.1).0), (rest.0 p.1).1), λ p. (p.0.0, rest.1 (p.0.1, p.1)))

both-true : (a b both : Bool) → both ≡ (a && b) → IsTrue both ↔ (IsTrue a × IsTrue b)
both-true a b both is = (λ p. and_parts a b (sym is ∙ p), λ p. is ∙ ap (λ (x : Bool). x && b) p.0 ∙ p.1)

-- a step that wants no change leaves it at that
each-still : (size : ℕ) (d : PlainDurable) (changes changes' : List PlainChange) (was has both : Bool) → changes' ≡ changes ++ [] → both ≡ (was && has) → IsTrue was ↔ FindRoomEach size d changes → IsTrue has ↔ ⊤
    → IsTrue both ↔ FindRoomEach size d changes'
each-still size d changes changes' was has both same is each here =
    let and : IsTrue both ↔ (IsTrue was × IsTrue has) = both-true was has both is in
    let still : changes' ≡ changes = same ∙ append-nil changes in
    (λ p. subst (FindRoomEach size d) (sym still) (each.0 (and.0 p).0), λ p. and.1 (each.1 (subst (FindRoomEach size d) still p), here.1 tt))

pub each-on : (size : ℕ) (d : PlainDurable) (changes changes' : List PlainChange) (before : Option PlainNext) (step : Result ReadyStep Refusal) (was has both : Bool) → before ≡ ready_of d changes → IsMadeFrom (found_by d before) step
    → changes' ≡ changes ++ changes_of (plain step) → both ≡ (was && has) → IsTrue was ↔ FindRoomEach size d changes → IsTrue has ↔ StepFindsRoom size (found_by d before).durable step → IsTrue both ↔ FindRoomEach size d changes'
each-on size d changes changes' before (Ok (made.Wants e n o)) was has both ready from same is each here =
    let and : IsTrue both ↔ (IsTrue was × IsTrue has) = both-true was has both is in
    let push = each-push size d changes e in
    let following : (found_by d before).durable ≡ after d changes = ap (λ (r : PlainNext). r.durable) (ap (found_by d) ready ∙ so-far d changes) in
    let left : n.durable ≡ applied (after d changes) e = ap (λ (r : PlainNext). r.durable) from ∙ ap (λ (k : PlainDurable). applied k e) following in
    let there : StepFindsRoom size (found_by d before).durable (Ok (made.Wants e n o)) → FindsRoom size (after d changes) (applied (after d changes) e) (e ∷ []) =
    λ p. subst (λ (k : PlainDurable). FindsRoom size k (applied (after d changes) e) (e ∷ [])) following (subst (λ (k : PlainDurable). FindsRoom size (found_by d before).durable k (e ∷ [])) left p) in
    let back : FindsRoom size (after d changes) (applied (after d changes) e) (e ∷ []) → StepFindsRoom size (found_by d before).durable (Ok (made.Wants e n o)) =
    λ p. subst (λ (k : PlainDurable). FindsRoom size (found_by d before).durable k (e ∷ [])) (sym left) (subst (λ (k : PlainDurable). FindsRoom size k (applied (after d changes) e) (e ∷ [])) (sym following) p) in (
      λ p. subst (FindRoomEach size d) (sym same) (push.1 (each.0 (and.0 p).0, there (here.0 (and.0 p).1))),
      λ p. let q = push.0 (subst (FindRoomEach size d) same p) in and.1 (each.1 q.0, here.1 (back q.1)),
    )
each-on size d changes changes' before step was has both ready from same is each here = each-still size d changes changes' was has both same is each here

-- ---- a group's own words

none-unfit : (i : ℕ) (commands : List Command) → position_from (λ (c : Command). not (may_be_grouped c)) i commands ≡ None → AllByRecursion (λ c. may_be_grouped c ≡ true) commands
none-unfit i [] is = tt
none-unfit i (c ∷ cs) is = by (may_be_grouped c) refl is (none-unfit (i + 1) cs) where
  following : Option ℕ
  following = position_from (λ (x : Command). not (may_be_grouped x)) (i + 1) cs

  by : (b : Bool) → may_be_grouped c ≡ b → cond (not b) (Some i) following ≡ None → (following ≡ None → AllByRecursion (λ c. may_be_grouped c ≡ true) cs) → AllByRecursion (λ c. may_be_grouped c ≡ true) (c ∷ cs)
  by true may rest more = (may, more rest)
  by false never rest more = absurd (cc (rest))

none-refused : (place : Option ℕ) → refused_at (λ i. NotGrouped i) place ≡ Ok tt → place ≡ None
none-refused None is = refl
none-refused (Some i) is = absurd (cc (is))

few : (n : ℕ) → bad_number n ≡ false → n ≤ GROUP_LIMIT
few n is = grind (arith, nat_tests, is)

-- a group that `group_words` doesn't refuse has only commands that may be grouped, and not too many
pub record AreWell (commands : List Command) : Type 0 where
  pub may : AllByRecursion (λ c. may_be_grouped c ≡ true) commands
  pub few : length commands ≤ GROUP_LIMIT

pub well : (commands : List Command) → group_words commands ≡ Ok tt → AreWell commands
well commands is =
    let kinds : Option ℕ = position (λ (c : Command). not (may_be_grouped c)) commands in
    let both : AreBothPassed (unless (bad_number (length commands)) BadCount) (refused_at (λ i. NotGrouped i) kinds) tt = both_passed (unless (bad_number (length commands)) BadCount) (refused_at (λ i. NotGrouped i) kinds) tt is in
    record {
      may = none-unfit 0 commands (sym (position_from-zero (λ (c : Command). not (may_be_grouped c)) commands) ∙ none-refused kinds both.second);
      few = few (length commands) (not_refused (bad_number (length commands)) BadCount both.first);
    }

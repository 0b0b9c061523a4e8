-- A packet that is tracked makes a new state.
use Rattle.std.proofs.{Common.{◌≡◌, ℕ, Bool, true, false, ◌&&◌, cond, List, [], ◌∷◌, Option, Some, None, Ok, refl, sym, subst}, lemmas.Bool.and_parts}
use Rattle.std.specs.{Prelude.{not, is_some, if◌then◌else◌}, List.{find as first_where, list_all, list_any}, Option.option_map_or, Ordering.eq_by_cmp}
use Rattle.pf_rule.specs.Packets.{PlainPacket}
use Rattle.pf_anchor.specs.declared.verdict.RuleVerdict.{RuleVerdict}
use Rattle.pf_anchor.specs.Evaluation.{judged}
use Rattle.pf_state.specs.{declared.{state.Bound.Bound, state.Held.Held, state.StateName.StateName, step.Insertion.TheVariants.New, step.StateStep.TheVariants.Insert}, Flows.{flow_of, same_flow}, States.{PlainState, name_order, held_at, state_of, stands, all_stand}, Steps.{is_clash, insertion}}
use Rattle.pf_core.specs.{declared.{durable.verdict.Verdict.TheVariants.State, durable.verdict.Verdict.TheVariants.Rules, reply.Outcome.Outcome, step.Step.TheVariants.Done, step.Step.TheVariants.Wants}, Durable.Changes.{PlainDurable, PlainChange, acts, verdict_by}, Commands.{wanting, makes_state, tracked, judge_step, expiry_of}, Laws.Commands.{MakesOne, TrackMakesOne}, Laws.Wanted.{IsThis, wanted, tracks}}
use Rattle.pf_core.specs.declared.reply.Answer.TheVariants as answer
use Rattle.pf_core.specs.declared.reply.Outcome.TheVariants as outcome

-- where none passes a test, none passes it and another
none-of-both : {X : Type 0} (p q : X → Bool) (xs : List X) → first_where p xs ≡ None → list_any (λ x. q x && p x) xs ≡ false
none-of-both p q [] h = refl
none-of-both p q (x ∷ xs) h = by (p x) (q x) refl refl (none-of-both p q xs) where
  by : (a b : Bool) → p x ≡ a → q x ≡ b → (first_where p xs ≡ None → list_any (λ y. q y && p y) xs ≡ false) → list_any (λ y. q y && p y) (x ∷ xs) ≡ false
  by true b is also rest = absurd (cc (is, h))
  by false true is also rest = rw (is, also) (rest (cc (is, h)))
  by false false is also rest = rw (is, also) (rest (cc (is, h)))

-- a state whose flow is no state's, under a free name, is new
new-state : (es : List PlainState) (s : PlainState) → state_of s.1.flow es ≡ None → held_at s.0 es ≡ None → insertion es s ≡ New
new-state es s flow name =
    let apart : is_clash es s ≡ false = none-of-both (λ (t : PlainState). same_flow t.1.flow s.1.flow) (λ (t : PlainState). not (eq_by_cmp name_order t.0 s.0)) es flow in
    rw (name, apart) refl

not-held : (h : Option Held) → is_some h ≡ false → h ≡ None
not-held None is = refl
not-held (Some x) is = absurd (cc (is))

made : (d : PlainDurable) (v : RuleVerdict) (s : PlainState) (taken : Bool) (e : PlainChange) (o : Outcome) → is_some (held_at s.0 d.states) ≡ taken → state_of s.1.flow d.states ≡ None → (if taken then Ok (Done (answer.Stale v)) else wanting d (acts (Insert s ∷ [])) (outcome.Tracked v)) ≡ Ok (Wants e o) → MakesOne d e
made d v s true e o is flow h = absurd (cc (h))
made d v s false e o is flow h =
    let this : IsThis d (acts (Insert s ∷ [])) e = wanted d (acts (Insert s ∷ [])) e (outcome.Tracked v) o h in
    record { state = s; change = sym this.is; new = new-state d.states s flow (not-held (held_at s.0 d.states) is) }

by-rules : (d : PlainDurable) (name : StateName) (packet : PlainPacket) (expiry : ℕ) (v : RuleVerdict) (b : Option Bound) (e : PlainChange) (o : Outcome) → state_of (flow_of packet) d.states ≡ None → tracked d name packet expiry v b ≡ Ok (Wants e o) → MakesOne d e
by-rules d name packet expiry v None e o flow h = absurd (cc (h))
by-rules d name packet expiry v (Some b) e o flow h =
    let s : PlainState = (name, record { generation = 0; flow = flow_of packet; bound = b; expiry = expiry }) in
    made d v s (is_some (held_at name d.states)) e o refl flow h

-- what is found among those that all pass a test passes it
found-passes : {X : Type 0} (p q : X → Bool) (xs : List X) (x : X) → list_all q xs ≡ true → first_where p xs ≡ Some x → q x ≡ true
found-passes {X = X} p q [] x all h = absurd (cc (h))
found-passes {X = X} p q (y ∷ ys) x all h =
    let parts = and_parts (q y) (list_all q ys) all in
    by (p y) parts.0 (found-passes p q ys x parts.1) h where
      by : (b : Bool) → q y ≡ true → (first_where p ys ≡ Some x → q x ≡ true) → cond b (Some y) (first_where p ys) ≡ Some x → q x ≡ true
      by true one rest found = let is : y ≡ x = cc (found) in subst (λ (z : X). q z ≡ true) is one
      by false one rest found = rest found

by-state : (d : PlainDurable) (name : StateName) (packet : PlainPacket) (expiry : ℕ) (found : Option PlainState) (e : PlainChange) (o : Outcome) → all_stand d.tick d.states ≡ true → state_of (flow_of packet) d.states ≡ found
    → judge_step d name packet expiry (option_map_or (verdict_by d packet) found (Rules (judged d.config packet))) ≡ Ok (Wants e o) → MakesOne d e
by-state d name packet expiry (Some s) e o all is h = by (stands d.tick s.1) (found-passes (λ (t : PlainState). same_flow t.1.flow (flow_of packet)) (λ (t : PlainState). stands d.tick t.1) d.states s all is) h where
  by : (b : Bool) → b ≡ true → judge_step d name packet expiry (if b then State s.0 else Rules (judged d.config packet)) ≡ Ok (Wants e o) → MakesOne d e
  by true one h = absurd (cc (h))
  by false one h = absurd (cc (one))
by-state d name packet expiry None e o all is h = by-rules d name packet expiry (judged d.config packet) (makes_state d (judged d.config packet)) e o is h

pub track_makes_one : TrackMakesOne
track_makes_one d name packet until e o all h = by-state d name packet (expiry_of until) (state_of (flow_of packet) d.states) e o all refl (tracks d name packet until h).step

-- Which flows are one.
use Rattle.std.proofs.{Common.{◌≡◌, ◌⊎◌, inl, inr, Bool, true, false, not, ◌||◌, T, refl, sym, ap, ◌∙◌, subst}, lemmas.Bool.{and_parts, eqb-true, eq-eqb, or_right}}
use Rattle.pf_addr.specs.declared.{addr.Addr.Addr, addr.Addr.TheVariants.V4, addr.Addr.TheVariants.V6}
use Rattle.pf_rule.specs.{declared.{value.direction.Direction.Direction, value.direction.Direction.TheVariants.In, value.direction.Direction.TheVariants.Out}, Value.Tests.same_direction}
use Rattle.pf_state.specs.{Flows.{PlainFlow, other_way, turned, same_addr, is_equal, same_flow}, Laws.States.OneFlowOrAnother}

pub either_true : (a b : Bool) → (a || b) ≡ true → (a ≡ true) ⊎ (b ≡ true)
either_true true b e = inl refl
either_true false b e = inr e

direction_of : (d e : Direction) → same_direction d e ≡ true → d ≡ e
direction_of In In e = refl
direction_of In Out e = absurd (subst (λ c. T (not c)) e tt)
direction_of Out In e = absurd (subst (λ c. T (not c)) e tt)
direction_of Out Out e = refl

direction_itself : (d : Direction) → same_direction d d ≡ true
direction_itself In = refl
direction_itself Out = refl

addr_of : (a b : Addr) → same_addr a b ≡ true → a ≡ b
addr_of (V4 a) (V4 b) e = ap (λ n. V4 n) (eqb-true a b e)
addr_of (V4 a) (V6 b) e = absurd (subst (λ c. T (not c)) e tt)
addr_of (V6 a) (V4 b) e = absurd (subst (λ c. T (not c)) e tt)
addr_of (V6 a) (V6 b) e = ap (λ n. V6 n) (eqb-true a b e)

addr_itself : (a : Addr) → same_addr a a ≡ true
addr_itself (V4 a) = eq-eqb a a refl
addr_itself (V6 a) = eq-eqb a a refl

-- all fields are equal exactly if the flows are
pub equal_of : (f g : PlainFlow) → is_equal f g ≡ true → f ≡ g
equal_of f g e =
    let e5 = (and_parts _ _ e).0 in
    let e4 = (and_parts _ _ e5).0 in
    let e3 = (and_parts _ _ e4).0 in
    let e2 = (and_parts _ _ e3).0 in
    let direction = direction_of f.direction g.direction (and_parts _ _ e2).0 in
    let protocol = eqb-true f.protocol g.protocol (and_parts _ _ e2).1 in
    let source = addr_of f.source g.source (and_parts _ _ e3).1 in
    let source_port = eqb-true f.source_port g.source_port (and_parts _ _ e4).1 in
    let destination = addr_of f.destination g.destination (and_parts _ _ e5).1 in
    let destination_port = eqb-true f.destination_port g.destination_port (and_parts _ _ e).1 in
    λ i. record { direction = direction i; protocol = protocol i; source = source i; source_port = source_port i; destination = destination i; destination_port = destination_port i }

pub equal_itself : (f : PlainFlow) → is_equal f f ≡ true
equal_itself f = rw (direction_itself f.direction, eq-eqb f.protocol f.protocol refl, addr_itself f.source, eq-eqb f.source_port f.source_port refl, addr_itself f.destination, eq-eqb f.destination_port f.destination_port refl) refl

pub equal_by : (f g : PlainFlow) → f ≡ g → is_equal f g ≡ true
equal_by f g e = subst (λ h. is_equal f h ≡ true) e (equal_itself f)

back_way : (d : Direction) → other_way (other_way d) ≡ d
back_way In = refl
back_way Out = refl

pub turned_back : (f : PlainFlow) → turned (turned f) ≡ f
turned_back f = λ i. record { direction = back_way f.direction i; protocol = f.protocol; source = f.source; source_port = f.source_port; destination = f.destination; destination_port = f.destination_port }

pub alike_of : (f g : PlainFlow) → same_flow f g ≡ true → (f ≡ g) ⊎ (f ≡ turned g)
unfolding same_flow
alike_of f g e = by (either_true (is_equal f g) (is_equal f (turned g)) e) where
  by : (is_equal f g ≡ true) ⊎ (is_equal f (turned g) ≡ true) → (f ≡ g) ⊎ (f ≡ turned g)
  by (inl a) = inl (equal_of f g a)
  by (inr a) = inr (equal_of f (turned g) a)

pub same_by_equal : (f g : PlainFlow) → f ≡ g → same_flow f g ≡ true
unfolding same_flow
same_by_equal f g e = ap (λ b. b || is_equal f (turned g)) (equal_by f g e)

pub same_by_turned : (f g : PlainFlow) → f ≡ turned g → same_flow f g ≡ true
unfolding same_flow
same_by_turned f g e = or_right (is_equal f g) (is_equal f (turned g)) (equal_by f (turned g) e)

pub same_back : (f g : PlainFlow) → same_flow f g ≡ true → same_flow g f ≡ true
same_back f g e = by (alike_of f g e) where
  by : (f ≡ g) ⊎ (f ≡ turned g) → same_flow g f ≡ true
  by (inl a) = same_by_equal g f (sym a)
  by (inr a) = same_by_turned g f (sym (turned_back g) ∙ ap turned (sym a))

pub same_third : (f g h : PlainFlow) → same_flow f g ≡ true → same_flow g h ≡ true → same_flow f h ≡ true
same_third f g h d e = by (alike_of f g d) (alike_of g h e) where
  by : (f ≡ g) ⊎ (f ≡ turned g) → (g ≡ h) ⊎ (g ≡ turned h) → same_flow f h ≡ true
  by (inl a) (inl b) = same_by_equal f h (a ∙ b)
  by (inl a) (inr b) = same_by_turned f h (a ∙ b)
  by (inr a) (inl b) = same_by_turned f h (a ∙ ap turned b)
  by (inr a) (inr b) = same_by_equal f h (a ∙ ap turned b ∙ turned_back h)

pub flows_alike : OneFlowOrAnother
flows_alike f g h = record {
  equal = (equal_of f g, equal_by f g);
  back = turned_back f;
  itself = same_by_equal f f refl;
  answer = same_by_turned f (turned f) (sym (turned_back f));
  other = same_back f g;
  third = same_third f g h;
}

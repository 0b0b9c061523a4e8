-- Two flows are one exactly if their keys tie.
use Rattle.std.proofs.{Common.{◌≡◌, ◌⊎◌, inl, inr, Bool, true, false, refl, sym, ap, ◌∙◌, subst}, lemmas.Cmp.tied_itself}
use Rattle.std.specs.{Ordering.{eq_by_cmp, is_eq}}
use Rattle.pf_rule.specs.{declared.{value.direction.Direction.Direction, value.direction.Direction.TheVariants.In, value.direction.Direction.TheVariants.Out}}
use Rattle.pf_state.specs.{declared.flow_key.FlowEnds.FlowEnds, Flows.{PlainFlow, turned, same_flow}, FlowKeys.{key_of, flow_by, key_order}, Orders.{key_total, key_alike}}
use Rattle.pf_state.proofs.Flows.{alike_of, same_by_equal, same_by_turned}
use Rattle.pf_map.proofs.Tests.{equal_of}

-- both directions of a flow have one key
key_turned : (d : Direction) (k : FlowEnds) → key_of (turned (flow_by d k)) ≡ k
key_turned In k = refl
key_turned Out k = refl

flow_back : (f : PlainFlow) → flow_by f.direction (key_of f) ≡ f
flow_back f = by f.direction where
  by : (d : Direction) → flow_by d (key_of (record { direction = d; protocol = f.protocol; source = f.source; source_port = f.source_port; destination = f.destination; destination_port = f.destination_port })) ≡ record { direction = d; protocol = f.protocol; source = f.source; source_port = f.source_port; destination = f.destination; destination_port = f.destination_port }
  by In = refl
  by Out = refl

same_key : (f g : PlainFlow) → same_flow f g ≡ true → key_of f ≡ key_of g
same_key f g e = by (alike_of f g e) where
  by : (f ≡ g) ⊎ (f ≡ turned g) → key_of f ≡ key_of g
  by (inl a) = ap key_of a
  by (inr a) = ap key_of (a ∙ ap turned (sym (flow_back g))) ∙ key_turned g.direction (key_of g)

-- the flows of one key
same_by_key : (d e : Direction) (k : FlowEnds) → same_flow (flow_by d k) (flow_by e k) ≡ true
same_by_key In In k = same_by_equal (flow_by In k) (flow_by In k) refl
same_by_key In Out k = same_by_turned (flow_by In k) (flow_by Out k) refl
same_by_key Out In k = same_by_turned (flow_by Out k) (flow_by In k) refl
same_by_key Out Out k = same_by_equal (flow_by Out k) (flow_by Out k) refl

one_key : (f g : PlainFlow) → key_of f ≡ key_of g → same_flow f g ≡ true
one_key f g e =
    subst (λ (x : PlainFlow). same_flow x g ≡ true) (flow_back f)
    (subst (λ (y : PlainFlow). same_flow (flow_by f.direction (key_of f)) y ≡ true) (ap (flow_by g.direction) e ∙ flow_back g)
    (same_by_key f.direction g.direction (key_of f)))

pub same_flow_is : (f g : PlainFlow) → same_flow f g ≡ eq_by_cmp key_order (key_of f) (key_of g)
same_flow_is f g = by (same_flow f g) (eq_by_cmp key_order (key_of f) (key_of g)) refl refl where
  by : (a b : Bool) → same_flow f g ≡ a → eq_by_cmp key_order (key_of f) (key_of g) ≡ b → a ≡ b
  by true b one tie = sym (ap is_eq (tied_itself key_total (key_of g))) ∙ ap (λ (k : FlowEnds). eq_by_cmp key_order k (key_of g)) (sym (same_key f g one)) ∙ tie
  by false true one tie = sym one ∙ one_key f g (key_alike (key_of f) (key_of g) (equal_of (key_order (key_of f) (key_of g)) tie))
  by false false one tie = refl

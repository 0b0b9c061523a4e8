-- Commits that name nothing twice.
use Rattle.std.proofs.{Common.{◌≡◌, ℕ, not, Bool, true, false, List, [], ◌∷◌, Option, Some, None, Ok, refl, ap, ◌∙◌, cond, length, arith}, lemmas.Bool.Decides.nat_tests}
use Rattle.std.specs.{Prelude.{map, nat_lt}, List.{list_all, position, prefix_len}, Option.option_or}
use Rattle.pf_addr.specs.Refusing.{refused_at}
use Rattle.pf_ticket.specs.Replies.{twice_after}
use Rattle.pf_core.specs.{declared.{durable.change.Item.Item, durable.refusal.ChangeRefusal.TheVariants.Twice}, Durable.Changes.{name_of, is_in_order, named_again}}

-- if all pass, none fails
all-pass : (is : List Item) → list_all is_in_order is ≡ true → prefix_len (λ (i : Item). not (not (is_in_order i))) is ≡ length is
all-pass [] h = refl
all-pass (i ∷ is) h = by (is_in_order i) refl h (all-pass is) where
  by : (b : Bool) → is_in_order i ≡ b → list_all is_in_order (i ∷ is) ≡ true → (list_all is_in_order is ≡ true → prefix_len (λ (x : Item). not (not (is_in_order x))) is ≡ length is) → prefix_len (λ (x : Item). not (not (is_in_order x))) (i ∷ is) ≡ length (i ∷ is)
  by true here all rest = let later : list_all is_in_order is ≡ true = rw here at all in rw (here, rest later) (omega arith)
  by false here all rest = absurd (cc (here, all))

none-fails : (is : List Item) → list_all is_in_order is ≡ true → position (λ (i : Item). not (is_in_order i)) is ≡ None
none-fails is h =
    let past : nat_lt (length is) (length is) ≡ false = grind (arith, nat_tests) in
    ap (λ (n : ℕ). cond (nat_lt n (length is)) (Some n) None) (all-pass is h) ∙ ap (λ (b : Bool). cond b (Some (length is)) None) past

-- no ruleset is named twice, and each item is in order
pub named_none : (is : List Item) → twice_after [] (map name_of is) ≡ None → list_all is_in_order is ≡ true → named_again is ≡ None
named_none is once all = ap (λ (o : Option ℕ). option_or o (position (λ (i : Item). not (is_in_order i)) is)) once ∙ none-fails is all

pub unrefused : (u : Unit {0}) (o : Option ℕ) → Ok u ≡ refused_at (λ i. Twice i) o → o ≡ None
unrefused u None h = refl
unrefused u (Some i) h = absurd (cc (h))

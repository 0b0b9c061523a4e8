-- A table of rulesets in which it becomes known what they give, from the last to the first.
use Rattle.std.proofs.{Common.{◌≡◌, ℕ, ◌<◌, ◌≤◌, ◌+◌, ◌-◌, T, true, List, [], ◌∷◌, length, take, drop, get_or, set, sym, ap, subst, ◌∙◌, arith}, lemmas.List.{drop_more, drop-map, map-set, get_or-map, set-get_or, drop-set, take_rest, length-set}}
use Rattle.std.specs.{Prelude.filter, FinMap.is_sorted}
use Rattle.pf_addr.specs.{Path.Paths.same_path, Path.Nested.{depth, is_child}}
use Rattle.pf_addr.proofs.PathsRead.{same_path_is}
use Rattle.pf_anchor.specs.{declared.{evaluated.Evaluated.Evaluated}, Matches.PlainMatch, Rulesets.PlainPlaced, Evaluation.{Tests, and_then, in_turn, evaluation}, Known.{PlainKnown, depth_order, placed_of, given, AreGiven, AreOnward, IsEnough, IsListing}}
use Rattle.pf_anchor.proofs.GivenAt.{enough_after, given_is, given_yes, sorted_from}

-- the ruleset before those of which it is known
module _ (t : List PlainKnown) (left : ℕ) (k : PlainKnown) (some : 0 < left) (few : left ≤ length t) (at : k ≡ get_or t (left - 1) k) where
  within : left - 1 < length t
  within = omega (arith, some, few)

  next : left - 1 + 1 ≡ left
  next = omega (arith, some)

  next_ruleset : drop (left - 1) (placed_of t) ≡ k.0 ∷ placed_of (drop left t)
  next_ruleset =
      drop-map (λ (x : PlainKnown). x.0) (left - 1) t
      ∙ ap placed_of (drop_more t (left - 1) k within ∙ ap (λ (x : PlainKnown). x ∷ drop (left - 1 + 1) t) (sym at) ∙ ap (λ (m : ℕ). k ∷ drop m t) next)

  -- it stands before those behind it
  pub sorted_here : (c : List PlainPlaced) → IsListing c (placed_of t) → T (is_sorted depth_order (k.0 ∷ placed_of (take (length t - left) (drop left t))))
  sorted_here c listing =
      subst (λ (ks : List PlainKnown). T (is_sorted depth_order (k.0 ∷ placed_of ks))) (sym (take_rest t left))
      (subst (λ (es : List PlainPlaced). T (is_sorted depth_order es)) next_ruleset (sorted_from (placed_of t) (left - 1) listing.sorted))

  -- what is known is enough for its rules
  pub enough_here : (c : List PlainPlaced) (tests : Tests) (e : PlainPlaced) → IsListing c (placed_of t) → AreGiven (evaluation c tests) (drop left t) → AreOnward (drop left t) → e ≡ k.0 →
      IsEnough (evaluation c tests) c e.0 (take (length t - left) (drop left t))
  enough_here c tests e listing all onward is =
      subst (λ (x : PlainPlaced). IsEnough (evaluation c tests) c x.0 (take (length t - left) (drop left t))) (sym is)
      (subst (λ (ks : List PlainKnown). IsEnough (evaluation c tests) c k.0.0 ks) (sym (take_rest t left))
      (enough_after c (placed_of t) tests (left - 1) k.0 (drop left t) listing next_ruleset all onward))

  module _ (v : PlainKnown) (is : v.0 ≡ k.0) where
    pub still_few : left - 1 ≤ length (set t (left - 1) v)
    still_few = omega (arith, few, length-set t (left - 1) v)

    pub still_listed : placed_of (set t (left - 1) v) ≡ placed_of t
    still_listed =
        let own : k.0 ≡ get_or (placed_of t) (left - 1) k.0 = ap (λ (x : PlainKnown). x.0) at ∙ sym (get_or-map (λ (x : PlainKnown). x.0) t (left - 1) k k.0 within) in
        map-set (λ (x : PlainKnown). x.0) t (left - 1) v ∙ ap (set (placed_of t) (left - 1)) (is ∙ own) ∙ set-get_or (placed_of t) (left - 1) k.0

    one_more : drop (left - 1) (set t (left - 1) v) ≡ v ∷ drop left t
    one_more = drop-set t (left - 1) v within ∙ ap (λ (m : ℕ). v ∷ drop m t) next

    pub one_more_given : (f : PlainPlaced → Evaluated PlainMatch) → v.1 ≡ f k.0 → AreGiven f (drop left t) → AreGiven f (drop (left - 1) (set t (left - 1) v))
    one_more_given f gives all = subst (AreGiven f) (sym one_more) (gives ∙ ap f (sym is), all)

    pub one_more_onward : (g : Evaluated PlainMatch) → v.1 ≡ g → ((p : List ℕ) → is_child p k.0.0 ≡ true → v.2 ≡ and_then g (given (is_child p) (take (length t - left) (drop left t)))) → AreOnward (drop left t) →
        AreOnward (drop (left - 1) (set t (left - 1) v))
    one_more_onward g gives onward all =
        subst AreOnward (sym one_more) (
          (λ p child. onward p (ap (λ (x : PlainPlaced). is_child p x.0) (sym is) ∙ child)
              ∙ ap (λ (ks : List PlainKnown). and_then g (given (is_child p) ks)) (take_rest t left) ∙ ap (λ (x : Evaluated PlainMatch). and_then x (given (is_child p) (drop left t))) (sym gives)
              ∙ sym (given_yes (is_child p) v (drop left t) child)),
          all,
        )

-- what the main ruleset gives
pub main_given : (f : PlainPlaced → Evaluated PlainMatch) (c es : List PlainPlaced) (ks : List PlainKnown) → IsListing c es → placed_of ks ≡ es → AreGiven f ks → given (same_path []) ks ≡ in_turn f (filter (λ e. same_path [] e.0) c)
main_given f c es ks listing is all =
    given_is f (same_path []) ks all ∙ ap (λ (xs : List PlainPlaced). in_turn f (filter (λ e. same_path [] e.0) xs)) is
    ∙ ap (in_turn f) (listing.each (same_path []) 0 (omega arith) (λ q at. sym (ap depth (same_path_is [] q at))))

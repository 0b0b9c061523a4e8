-- Indexes: what is read by flow is what the list of values has, and both maps stay of one mind.
use Rattle.std.proofs.Common.{◌≡◌, T, true, false, not, Bool, cond, List, [], ◌∷◌, Option, Some, None, option_map, refl, sym, ap, subst, ◌∙◌}
use Rattle.std.specs.declared.cmp.Ordering.{Ordering}
use Rattle.std.specs.declared.cmp.Ordering.TheVariants.{Equal, Greater}
use Rattle.std.specs.Cmp.{IsTotalOrder}
use Rattle.std.specs.FinMap.{IsAntisymmetric, find, is_sorted}
use Rattle.std.specs.FinMap.Entries.{below_all, find_tied}
use Rattle.std.specs.List.{AllByRecursion}
use Rattle.std.specs.Option.{option_map_or}
use Rattle.std.specs.Ordering.{ordering_reverse, eq_by_cmp, is_eq}
use Rattle.std.proofs.lemmas.{Bool.not-false, Cmp.tied_itself}
use Rattle.pf_map.specs.Maps.{with_value, without}
use Rattle.pf_map.proofs.{Maps.{once, replaces_the_key, stays_sorted}, Tests.{less_of, parts_of, equal_of, same_entry}}
use Rattle.pf_map.specs.Indexes.{of_flow, is_clash, unflowed, IsIndex}

-- the value of what is read at a key
pub held : {A K X : Type 0} (now : A → K × X) (k : K) (r : Option A) (x : Option X) → option_map now r ≡ option_map (λ v. (k, v)) x → option_map (λ a. (now a).1) r ≡ x
held now k None None is = refl
held now k None (Some v) is = absurd (cc (is))
held now k (Some a) None is = absurd (cc (is))
held {A} {K} {X} now k (Some a) (Some v) is = ap (option_map (λ (p : K × X). p.1)) is

module _ {N V : Type 0} {R : N → N → Ordering} (o : IsTotalOrder R) where
  -- ---- each value is found under its name

  abbrev AllFound : List (N × V) → List (N × V) → Type 0
  AllFound es back = AllByRecursion (λ e. find R e.0 es ≡ Some e.1) back

  found_after : (x : N × V) (xs ys : List (N × V)) → T (below_all R x.0 ys) → AllFound xs ys → AllFound (x ∷ xs) ys
  found_after x xs [] below all = tt
  found_after x xs (y ∷ ys) below all =
      let parts = parts_of _ _ below in
      let apart : R y.0 x.0 ≡ Greater = o.antisymm y.0 x.0 ∙ ap ordering_reverse (less_of _ parts.0) in
      (ap (λ (r : Ordering). cond (is_eq r) (Some x.1) (find R y.0 xs)) apart ∙ all.0, found_after x xs ys parts.1 all.1)

  all_found : (es : List (N × V)) → T (is_sorted R es) → AllFound es es
  all_found [] is = tt
  all_found (x ∷ xs) is =
      let parts = parts_of _ _ is in
      (ap (λ (r : Ordering). cond (is_eq r) (Some x.1) (find R x.0 xs)) (tied_itself o x.0), found_after x xs xs parts.0 (all_found xs parts.1))

  without_is : (es : List (N × V)) (n q : N) → find R q (without R es n) ≡ cond (eq_by_cmp R q n) None (find R q es)
  without_is es n q = replaces_the_key _ o es n None q

module _ {N F V : Type 0} {R : N → N → Ordering} {S : F → F → Ordering} {flow : V → F} (o : IsTotalOrder R) (same : IsAntisymmetric R) (p : IsTotalOrder S) where
  -- ---- what is read by flow

  found_by_flow : (es : List (N × V)) (fs : List (F × (N × V))) (f : F) → IsIndex R S flow es fs → (back : List (N × V)) → AllFound o es back → ((e : N × V) → find S f fs ≡ Some e → find R e.0 back ≡ Some e.1) → of_flow S flow f back ≡ find S f fs
  found_by_flow es fs f index [] all there = none (find S f fs) there where
    none : (r : Option (N × V)) → ((e : N × V) → r ≡ Some e → find R e.0 [] ≡ Some e.1) → None ≡ r
    none None none_there = refl
    none (Some e) none_there = absurd (cc (none_there e refl))
  found_by_flow es fs f index (x ∷ xs) all there = by (found_by_flow es fs f index xs all.1) (eq_by_cmp S f (flow x.1)) refl where
    following : eq_by_cmp S f (flow x.1) ≡ false → (e : N × V) → find S f fs ≡ Some e → (b : Bool) → eq_by_cmp R e.0 x.0 ≡ b → cond b (Some x.1) (find R e.0 xs) ≡ Some e.1 → find R e.0 xs ≡ Some e.1
    following is e found true tied here =
        let value : x.1 ≡ e.1 = same_entry x.1 e.1 here in
        let has : eq_by_cmp S f (flow x.1) ≡ true = ap (λ (v : V). eq_by_cmp S f (flow v)) value ∙ ap is_eq (index.known f e found).1 in
        absurd (cc (has, is))
    following is e found false tied here = here

    by : (((e : N × V) → find S f fs ≡ Some e → find R e.0 xs ≡ Some e.1) → of_flow S flow f xs ≡ find S f fs) → (b : Bool) → eq_by_cmp S f (flow x.1) ≡ b → cond b (Some x) (of_flow S flow f xs) ≡ find S f fs
    by rest true is = sym (index.listed x.0 x.1 all.0 f (equal_of _ is))
    by rest false is = rest (λ e found. following is e found (eq_by_cmp R e.0 x.0) refl (there e found))

  pub flow_is_found : (es : List (N × V)) (fs : List (F × (N × V))) (f : F) → IsIndex R S flow es fs → of_flow S flow f es ≡ find S f fs
  flow_is_found es fs f index = found_by_flow es fs f index es (all_found o es index.names) (λ e found. (index.known f e found).0)

  -- ---- a value is taken out

  module _ (es : List (N × V)) (fs : List (F × (N × V))) (index : IsIndex R S flow es fs) (n : N) where
    left : (q : N) (u : V) → find R q (without R es n) ≡ Some u → (find R q es ≡ Some u) × (eq_by_cmp R q n ≡ false)
    left q u found = by (eq_by_cmp R q n) refl (sym (without_is o es n q) ∙ found) where
      by : (b : Bool) → eq_by_cmp R q n ≡ b → cond b None (find R q es) ≡ Some u → (find R q es ≡ Some u) × (eq_by_cmp R q n ≡ false)
      by true is there = absurd (cc (there))
      by false is there = (there, is)

    stays : (q : N) (u : V) → find R q es ≡ Some u → eq_by_cmp R q n ≡ false → find R q (without R es n) ≡ Some u
    stays q u found apart = without_is o es n q ∙ ap (λ (b : Bool). cond b None (find R q es)) apart ∙ found

    -- a key that ties with the name reads what the name does
    tied_reads : (q : N) → eq_by_cmp R q n ≡ true → q ≡ n
    tied_reads q is = same q n (equal_of _ is)

    none_taken : find R n es ≡ None → IsIndex R S flow (without R es n) fs
    none_taken none = record {
      names = stays_sorted _ o es n None index.names;
      flows = index.flows;
      listed = λ q u found f is. index.listed q u (left q u found).0 f is;
      known = λ f e found. let was = index.known f e found in (stays e.0 e.1 was.0 (apart e was.0 (eq_by_cmp R e.0 n) refl), was.1);
    } where
      apart : (e : N × V) → find R e.0 es ≡ Some e.1 → (b : Bool) → eq_by_cmp R e.0 n ≡ b → eq_by_cmp R e.0 n ≡ false
      apart e found true is = absurd (cc (sym found ∙ ap (λ (q : N). find R q es) (tied_reads e.0 is) ∙ none))
      apart e found false is = is

    one_taken : (w : V) → find R n es ≡ Some w → IsIndex R S flow (without R es n) (without S fs (flow w))
    one_taken w held_there = record {
      names = stays_sorted _ o es n None index.names;
      flows = stays_sorted _ p fs (flow w) None index.flows;
      listed = λ q u found f is. listed q u (left q u found) f is;
      known = λ f e found. known f e (eq_by_cmp S f (flow w)) refl (sym (replaces_the_key _ p fs (flow w) None f) ∙ found);
    } where
      other : (q : N) (u : V) (f : F) → eq_by_cmp R q n ≡ false → find S f fs ≡ Some (q, u) → (b : Bool) → eq_by_cmp S f (flow w) ≡ b → eq_by_cmp S f (flow w) ≡ false
      other q u f apart found true is =
          let here : find S f fs ≡ Some (n, w) = index.listed n w held_there f (equal_of _ is) in
          let name : q ≡ n = ap (λ (e : N × V). e.0) (same_entry (q, u) (n, w) (sym found ∙ here)) in
          let tied : eq_by_cmp R q n ≡ true = ap (λ (m : N). eq_by_cmp R m n) name ∙ ap is_eq (tied_itself o n) in
          absurd (cc (tied, apart))
      other q u f apart found false is = is

      listed : (q : N) (u : V) → (find R q es ≡ Some u) × (eq_by_cmp R q n ≡ false) → (f : F) → S f (flow u) ≡ Equal → find S f (without S fs (flow w)) ≡ Some (q, u)
      listed q u was f is =
          let there = index.listed q u was.0 f is in
          replaces_the_key _ p fs (flow w) None f ∙ ap (λ (b : Bool). cond b None (find S f fs)) (other q u f was.1 there (eq_by_cmp S f (flow w)) refl) ∙ there

      apart : (f : F) (e : N × V) → eq_by_cmp S f (flow w) ≡ false → (find R e.0 es ≡ Some e.1) × (S f (flow e.1) ≡ Equal) → (b : Bool) → eq_by_cmp R e.0 n ≡ b → eq_by_cmp R e.0 n ≡ false
      apart f e not_his was true is =
          let there : find R e.0 es ≡ find R n es = ap (λ (q : N). find R q es) (tied_reads e.0 is) in
          let value : e.1 ≡ w = same_entry e.1 w (sym was.0 ∙ there ∙ held_there) in
          let his : eq_by_cmp S f (flow w) ≡ true = ap (λ (v : V). eq_by_cmp S f (flow v)) (sym value) ∙ ap is_eq was.1 in
          absurd (cc (his, not_his))
      apart f e not_his was false is = is

      known : (f : F) (e : N × V) (b : Bool) → eq_by_cmp S f (flow w) ≡ b → cond b None (find S f fs) ≡ Some e → (find R e.0 (without R es n) ≡ Some e.1) × (S f (flow e.1) ≡ Equal)
      known f e true is found = absurd (cc (found))
      known f e false is found = let was = index.known f e found in (stays e.0 e.1 was.0 (apart f e is was (eq_by_cmp R e.0 n) refl), was.1)

    taken_by : (old : Option V) → find R n es ≡ old → IsIndex R S flow (without R es n) (unflowed S flow old fs)
    taken_by None is = none_taken is
    taken_by (Some w) is = one_taken w is

    pub taken : IsIndex R S flow (without R es n) (unflowed S flow (find R n es) fs)
    taken = taken_by (find R n es) refl

    -- ---- a value is put in

    -- the flow of a value that doesn't clash is free once the value of its name was taken out
    none_left : (f : F) (old : Option V) → find S f fs ≡ None → find S f (unflowed S flow old fs) ≡ None
    none_left f None none = none
    none_left f (Some w) none = replaces_the_key _ p fs (flow w) None f ∙ either (eq_by_cmp S f (flow w)) where
      either : (b : Bool) → cond b None (find S f fs) ≡ None
      either true = refl
      either false = none

    own_left : (f : F) (w : V) → S f (flow w) ≡ Equal → find S f (without S fs (flow w)) ≡ None
    own_left f w is = replaces_the_key _ p fs (flow w) None f ∙ ap (λ (r : Ordering). cond (is_eq r) None (find S f fs)) is

    freed_by : (v : V) (r : Option (N × V)) → find S (flow v) fs ≡ r → option_map_or (λ e. not (eq_by_cmp R e.0 n)) r false ≡ false → find S (flow v) (unflowed S flow (find R n es) fs) ≡ None
    freed_by v None is free = none_left (flow v) (find R n es) is
    freed_by v (Some e) is free =
        let was = index.known (flow v) e is in
        let name : e.0 ≡ n = tied_reads e.0 (not-false (eq_by_cmp R e.0 n) free) in
        let there : find R n es ≡ Some e.1 = ap (λ (q : N). find R q es) (sym name) ∙ was.0 in
        ap (λ (old : Option V). find S (flow v) (unflowed S flow old fs)) there ∙ own_left (flow v) e.1 was.1

    pub freed : (v : V) → is_clash R S flow es (n, v) ≡ false → find S (flow v) (unflowed S flow (find R n es) fs) ≡ None
    freed v free = freed_by v (find S (flow v) fs) refl (ap (λ (r : Option (N × V)). option_map_or (λ e. not (eq_by_cmp R e.0 n)) r false) (sym (flow_is_found es fs (flow v) index)) ∙ free)

  -- a value under a name that there wasn't, of a flow that was free
  module _ (es : List (N × V)) (fs : List (F × (N × V))) (index : IsIndex R S flow es fs) (n : N) (v : V) (new : List (N × V)) (reads : (q : N) → find R q new ≡ cond (eq_by_cmp R q n) (Some v) (find R q es)) (no_name : find R n es ≡ None) (no_flow : find S (flow v) fs ≡ None) where
    flow_free : (f : F) (e : N × V) → find S f fs ≡ Some e → (b : Bool) → eq_by_cmp S f (flow v) ≡ b → eq_by_cmp S f (flow v) ≡ false
    flow_free f e found true is = let tied : find S (flow v) fs ≡ find S f fs = find_tied S p f (flow v) (equal_of _ is) fs in absurd (cc (sym no_flow ∙ tied ∙ found))
    flow_free f e found false is = is

    name_free : (e : N × V) → find R e.0 es ≡ Some e.1 → (b : Bool) → eq_by_cmp R e.0 n ≡ b → eq_by_cmp R e.0 n ≡ false
    name_free e found true is = let there : find R e.0 es ≡ find R n es = ap (λ (q : N). find R q es) (same e.0 n (equal_of _ is)) in absurd (cc (sym found ∙ there ∙ no_name))
    name_free e found false is = is

    listed_too : (q : N) (u : V) (f : F) → S f (flow u) ≡ Equal → (b : Bool) → eq_by_cmp R q n ≡ b → cond b (Some v) (find R q es) ≡ Some u → cond (eq_by_cmp S f (flow v)) (Some (n, v)) (find S f fs) ≡ Some (q, u)
    listed_too q u f is true tied found =
        let name : q ≡ n = same q n (equal_of _ tied) in
        let value : v ≡ u = same_entry v u found in
        let has : eq_by_cmp S f (flow v) ≡ true = ap (λ (w : V). eq_by_cmp S f (flow w)) value ∙ ap is_eq is in
        ap (λ (b : Bool). cond b (Some (n, v)) (find S f fs)) has ∙ (λ i. Some (sym name i, value i))
    listed_too q u f is false tied found =
        let there = index.listed q u found f is in
        ap (λ (b : Bool). cond b (Some (n, v)) (find S f fs)) (flow_free f (q, u) there (eq_by_cmp S f (flow v)) refl) ∙ there

    known_too : (f : F) (e : N × V) (b : Bool) → eq_by_cmp S f (flow v) ≡ b → cond b (Some (n, v)) (find S f fs) ≡ Some e → (find R e.0 new ≡ Some e.1) × (S f (flow e.1) ≡ Equal)
    known_too f e true is found =
        let here : find R n new ≡ Some v = reads n ∙ ap (λ (r : Ordering). cond (is_eq r) (Some v) (find R n es)) (tied_itself o n) in
        let entry : (n, v) ≡ e = same_entry (n, v) e found in
        subst (λ (x : N × V). (find R x.0 new ≡ Some x.1) × (S f (flow x.1) ≡ Equal)) entry (here, equal_of _ is)
    known_too f e false is found =
        let was = index.known f e found in
        (reads e.0 ∙ ap (λ (b : Bool). cond b (Some v) (find R e.0 es)) (name_free e was.0 (eq_by_cmp R e.0 n) refl) ∙ was.0, was.1)

    placed : T (is_sorted R new) → IsIndex R S flow new (with_value S fs (flow v) (Some (n, v)))
    placed sorted = record {
      names = sorted;
      flows = stays_sorted _ p fs (flow v) (Some (n, v)) index.flows;
      listed = λ q u found f is. replaces_the_key _ p fs (flow v) (Some (n, v)) f ∙ listed_too q u f is (eq_by_cmp R q n) refl (sym (reads q) ∙ found);
      known = λ f e found. known_too f e (eq_by_cmp S f (flow v)) refl (sym (replaces_the_key _ p fs (flow v) (Some (n, v)) f) ∙ found);
    }

  pub put_in : (es : List (N × V)) (fs : List (F × (N × V))) → IsIndex R S flow es fs → (n : N) (v : V) → is_clash R S flow es (n, v) ≡ false →
      IsIndex R S flow (with_value R es n (Some v)) (with_value S (unflowed S flow (find R n es) fs) (flow v) (Some (n, v)))
  put_in es fs index n v free =
      placed (without R es n) (unflowed S flow (find R n es) fs) (taken es fs index n) n v (with_value R es n (Some v))
      (λ q. replaces_the_key _ o es n (Some v) q ∙ sym (ap (λ (x : Option V). cond (eq_by_cmp R q n) (Some v) x) (without_is o es n q) ∙ once (eq_by_cmp R q n) (Some v) (find R q es)))
      (without_is o es n n ∙ ap (λ (r : Ordering). cond (is_eq r) None (find R n es)) (tied_itself o n))
      (freed es fs index n v free)
      (stays_sorted _ o es n (Some v) index.names)

-- A word has no fault exactly where the grammar takes it, and reading and writing a path undo each other.
use Rattle.std.proofs.{Common.{◌≡◌, inl, inr, ℕ, ◌<◌, ◌≤◌, Bool, true, false, List, [], ◌∷◌, length, Some, None, Option, Ok, Err, refl, sym, ap, subst, ◌∙◌, arith}, lemmas.Bool.Decides.nat_tests, lemmas.List.Splits.{length-slice_split, slice_split_at, slice_split_none, join_with_byte-slice_split}, lemmas.List.Sums.AllPass-from_list_all, lemmas.Map.Text.is_eq-slice_cmp, lemmas.Slice.Eq.bytes_eq-Decides}
use Rattle.std.specs.{Prelude.{codes, if◌then◌else◌}, List.{AllByRecursion, join_with_byte, All}, Option.{is_none, option_map_or, option_or}, Str.bytes_eq}
use Rattle.pf_addr.specs.declared.path.limits.TheConstants.{PATH_LIMIT}
use Rattle.pf_form.specs.declared.form.fault.Kind.{Kind}
use Rattle.pf_addr.specs.{Path.{Names.is_name_byte, Paths.{is_slash, components, component_fault, first_fault, depth_fault, fault_within, path_fault, path_of, path_text, is_path, main}, PathGrammar.{IsComponent, IsNames, IsPathText, SpellsPath}}, Laws.Path.Paths.SamePathIsEqual}
use Rattle.pf_form.specs.Form.Words.{Word}

-- ---- components

pub component_is : (c : List ℕ) → component_fault c ≡ None → IsComponent c
component_is c e = record {
  some = grind (arith, nat_tests);
  short = grind (arith, nat_tests);
  bytes = grind (arith, nat_tests);
  no_dots = λ same. let is = (bytes_eq-Decides c (codes "..")).1 same in grind (arith, nat_tests);
  no_dash = λ same. let is = (bytes_eq-Decides c (codes "-")).1 same in grind (arith, nat_tests);
}

pub component_faultless : (c : List ℕ) → IsComponent c → component_fault c ≡ None
component_faultless c is =
    let dots = (bytes_eq-Decides c (codes "..")).0 in
    let dash = (bytes_eq-Decides c (codes "-")).0 in
    grind (arith, nat_tests)

pub none_parts : (o p : Option Kind) → option_or o p ≡ None → (o ≡ None) × (p ≡ None)
none_parts (Some k) p e = absurd (cc)
none_parts None p e = (refl, e)

pub each_is : (cs : List (List ℕ)) → first_fault cs ≡ None → AllByRecursion IsComponent cs
each_is [] e = tt
each_is (c ∷ cs) e = let parts = none_parts (component_fault c) (first_fault cs) e in (component_is c parts.0, each_is cs parts.1)

pub each_faultless : (cs : List (List ℕ)) → AllByRecursion IsComponent cs → first_fault cs ≡ None
each_faultless [] is = refl
each_faultless (c ∷ cs) is = rw (component_faultless c is.0) (each_faultless cs is.1)

no_slash : (c : List ℕ) → IsComponent c → All (λ b. is_slash b ≡ false) c
no_slash c is k d lt = let name = AllPass-from_list_all is_name_byte c is.bytes k d lt in grind (arith, nat_tests)

split_joined : (cs : List (List ℕ)) → AllByRecursion IsComponent cs → 0 < length cs → components (join_with_byte 47 cs) ≡ cs
split_joined [] is some = absurd (omega arith)
split_joined (c ∷ []) is some = slice_split_none is_slash c (no_slash c is.0)
split_joined (c ∷ d ∷ cs) is some =
    slice_split_at is_slash c 47 (join_with_byte 47 (d ∷ cs)) (no_slash c is.0) refl ∙ ap (λ (parts : List (List ℕ)). c ∷ parts) (split_joined (d ∷ cs) is.1 (omega arith))

-- ---- a word

pub names_only : (limit : ℕ) (text w : Word) → fault_within limit text w ≡ None → IsNames w × (length text ≤ limit)
names_only limit text w e =
    let tests : option_or (first_fault (components w)) (depth_fault (length (components w))) ≡ None = grind (arith, nat_tests) in
    let faults = none_parts (first_fault (components w)) (depth_fault (length (components w))) tests in
    let names : IsNames w = record {
      parts = components w;
      each = each_is (components w) faults.0;
      some = omega (arith, length-slice_split is_slash w);
      few = let few = faults.1 in grind (arith, nat_tests);
      joined = sym (join_with_byte-slice_split 47 w);
    } in
    (names, grind (arith, nat_tests))

pub names_found : (limit : ℕ) (text w : Word) → IsNames w → length text ≤ limit → fault_within limit text w ≡ None
names_found limit text w is short =
    let cut : components w ≡ is.parts = ap components is.joined ∙ split_joined is.parts is.each is.some in
    let none : first_fault (components w) ≡ None = ap first_fault cut ∙ each_faultless is.parts is.each in
    let few = ap (λ (cs : List (List ℕ)). length cs) cut in
    let more = is.few in
    rw none (grind (arith, nat_tests))

faultless_only : (w : Word) → path_fault w ≡ None → IsPathText w
faultless_only w e = let is = names_only PATH_LIMIT w w e in record { names = is.0; short = is.1 }

faultless_found : (w : Word) → IsPathText w → path_fault w ≡ None
faultless_found w is = names_found PATH_LIMIT w w is.names is.short

-- ---- reading and writing

read_faultless : (w : Word) → path_fault w ≡ None → path_of w ≡ Ok w
read_faultless w e = by (bytes_eq w (codes "-")) refl where
  by : (dash : Bool) → bytes_eq w (codes "-") ≡ dash → path_of w ≡ Ok w
  by true is = let none = subst (λ (v : Word). path_fault v ≡ None) ((bytes_eq-Decides w (codes "-")).0 is) e in absurd (cc (none))
  by false is = rw (is, e) refl

pub read_is_spelled : (w : Word) (p : List ℕ) → path_of w ≡ Ok p → SpellsPath w p
read_is_spelled w p e = by (bytes_eq w (codes "-")) (path_fault w) refl refl e where
  by : (dash : Bool) (fault : Option Kind) → bytes_eq w (codes "-") ≡ dash → path_fault w ≡ fault → (if dash then Ok main else option_map_or (λ k. Err k) fault (Ok w)) ≡ Ok p → SpellsPath w p
  by true fault is none e = let same : p ≡ main = cc in inl ((bytes_eq-Decides w (codes "-")).0 is, same)
  by false None is none e = let same : p ≡ w = cc in inr (faultless_only w none, same)
  by false (Some k) is none e = absurd (cc)

pub spelled_is_read : (w : Word) (p : List ℕ) → SpellsPath w p → path_of w ≡ Ok p
spelled_is_read w p (inl is) = rw (is.0, is.1) refl
spelled_is_read w p (inr is) = rw is.1 (read_faultless w (faultless_found w is.0))

faultless_path : (w : Word) → path_fault w ≡ None → (is_path w ≡ true) × (w ≡ path_text w)
faultless_path [] e = absurd (cc)
faultless_path (b ∷ bs) e = (ap is_none e, refl)

pub written_is_read : (w : Word) (p : List ℕ) → path_of w ≡ Ok p → (is_path p ≡ true) × (w ≡ path_text p)
written_is_read w p e = elim (read_is_spelled w p e) [
  | inl is ↦ rw is.1 (refl, is.0)
  | inr is ↦ rw is.1 (faultless_path w (faultless_found w is.0))
]

pub none_of : (o : Option Kind) → is_none o ≡ true → o ≡ None
none_of None e = refl
none_of (Some k) e = absurd (cc)

pub read_again : (p : List ℕ) → is_path p ≡ true → path_of (path_text p) ≡ Ok p
read_again [] is = refl
read_again (b ∷ bs) is = read_faultless (b ∷ bs) (none_of (path_fault (b ∷ bs)) is)

-- ---- the same path

pub same_path_is : SamePathIsEqual
same_path_is p q h = (bytes_eq-Decides p q).0 (sym (is_eq-slice_cmp p q) ∙ h)

-- A word that isn't a name, a path or a reference is refused with its fault by cases, and with no other.
use Rattle.std.proofs.{Common.{not, ◌≡◌, ◌≢◌, inl, inr, ℕ, ◌<◌, ◌≤◌, ◌&&◌, Bool, true, false, List, [], ◌∷◌, ◌++◌, length, Some, None, Option, Ok, Err, refl, sym, ap, subst, ◌∙◌, arith}, lemmas.Bool.Decides.{leb_tells, nat_tests}, lemmas.Bool.{lt-ltb, ltb-true}, lemmas.List.length-append, lemmas.Slice.Eq.bytes_eq-Decides}
use Rattle.std.specs.{Prelude.{codes, nat_lt, if◌then◌else◌}, List.{AllByRecursion, list_all}, Option.{option_map_or, option_or}, Str.bytes_eq}
use Rattle.pf_addr.specs.declared.path.limits.TheConstants.{PATH_LIMIT, COMPONENT_LIMIT, DEPTH_LIMIT, REFERENCE_LIMIT}
use Rattle.pf_form.specs.declared.form.fault.Kind.{Kind, TheVariants.{BadWord, NameTooLong, BadProto}}
use Rattle.pf_addr.specs.Path.{FaultCases.{IsNameFault, IsComponentFault, IsFaultWithin, too_long, bad_component, too_deep, IsPathFault, IsUnquoted, IsUnended, IsReferenceFault}, Names.{is_name_byte, name_of}, PathGrammar.IsComponent, Paths.{components, is_component, component_fault, first_fault, depth_fault, fault_within, path_fault, path_of, main}, References.{refers, ending, before, unquoted, quoted, split_wildcard, reference_fault, reference_of}}
use Rattle.pf_form.specs.Form.{FaultsFound.TellsFaults, Words.Word}
use Rattle.pf_addr.proofs.{FaultsReported.{length_none, tells}, PathsRead.{component_is, component_faultless, each_is, each_faultless}, ReferencesRead.{before_is, before_end, in_quotes, unquoted_is}}

-- ---- a name

name_reported : (limit : ℕ) (w : Word) (k : Kind) → name_of limit w ≡ Err k → IsNameFault limit w k
name_reported limit w k e = by (nat_lt limit (length w)) (nat_lt 0 (length w)) (list_all is_name_byte w) refl refl refl e where
  by : (long some good : Bool) → nat_lt limit (length w) ≡ long → nat_lt 0 (length w) ≡ some → list_all is_name_byte w ≡ good → (if long then Err NameTooLong else (if some && good then Ok w else Err BadWord)) ≡ Err k → IsNameFault limit w k
  by true some good l s g e = let is : NameTooLong ≡ k = cc in subst (IsNameFault limit w) is (let lt : limit < length w = grind (arith, nat_tests) in lt)
  by false false good l s g e = let is : BadWord ≡ k = cc in subst (IsNameFault limit w) is (let le : length w ≤ limit = grind (arith, nat_tests) in (le, inl (length_none w (grind (arith, nat_tests)))))
  by false true false l s g e = let is : BadWord ≡ k = cc in subst (IsNameFault limit w) is (let le : length w ≤ limit = grind (arith, nat_tests) in (le, inr g))
  by false true true l s g e = absurd cc

name_only : (limit : ℕ) (w : Word) (k : Kind) → IsNameFault limit w k → name_of limit w ≡ Err k
name_only limit w NameTooLong long = rw (lt-ltb limit (length w) long) refl
name_only limit w BadWord (short, inl none) = let test : nat_lt limit (length w) ≡ false = grind (arith, nat_tests) in rw (test, none) refl
name_only limit w BadWord (short, inr bad) = grind (arith, nat_tests)
name_only limit w BadProto none = absurd none

pub names_reported : (limit : ℕ) → TellsFaults (name_of limit) (IsNameFault limit)
names_reported limit = tells (name_of limit) (IsNameFault limit) (name_reported limit) (name_only limit)

-- ---- components

component_reported : (c : List ℕ) (k : Kind) → component_fault c ≡ Some k → IsComponentFault c k
component_reported c k e = by (is_component c) (nat_lt COMPONENT_LIMIT (length c)) refl refl e where
  by : (good long : Bool) → is_component c ≡ good → nat_lt COMPONENT_LIMIT (length c) ≡ long → (if not good then Some BadWord else (if long then Some NameTooLong else None)) ≡ Some k → IsComponentFault c k
  by false long g l e = let is : BadWord ≡ k = cc in subst (IsComponentFault c) is g
  by true true g l e = let is : NameTooLong ≡ k = cc in subst (IsComponentFault c) is (g, ltb-true COMPONENT_LIMIT (length c) l)
  by true false g l e = absurd cc

component_only : (c : List ℕ) (k : Kind) → IsComponentFault c k → component_fault c ≡ Some k
component_only c BadWord bad = rw bad refl
component_only c NameTooLong (good, long) = rw (good, lt-ltb COMPONENT_LIMIT (length c) long) refl
component_only c BadProto none = absurd none

-- the first faulty component
record First (cs : List (List ℕ)) (k : Kind) : Type 0 where
  front : List (List ℕ)
  following : List (List ℕ)
  c : List ℕ
  cut : cs ≡ front ++ c ∷ following
  good : AllByRecursion IsComponent front
  fault : IsComponentFault c k

first_reported : (cs : List (List ℕ)) (k : Kind) → first_fault cs ≡ Some k → First cs k
first_reported [] k e = absurd cc
first_reported (c ∷ cs) k e = by (first_reported cs k) (component_fault c) refl e where
  by : (first_fault cs ≡ Some k → First cs k) → (o : Option Kind) → component_fault c ≡ o → option_or o (first_fault cs) ≡ Some k → First (c ∷ cs) k
  by others (Some j) h e = record { front = []; following = cs; c = c; cut = refl; good = tt; fault = component_reported c k (h ∙ e) }
  by others None h e = let more = others e in record { front = c ∷ more.front; following = more.following; c = more.c; cut = ap (λ (l : List (List ℕ)). c ∷ l) more.cut; good = (component_is c h, more.good); fault = more.fault }

first_only : (front following : List (List ℕ)) (c : List ℕ) (k : Kind) → AllByRecursion IsComponent front → IsComponentFault c k → first_fault (front ++ c ∷ following) ≡ Some k
first_only [] following c k good fault = rw (component_only c k fault) refl
first_only (d ∷ front) following c k good fault = rw (component_faultless d good.0) (first_only front following c k good.1 fault)

-- ---- names in a text

within_reported : (limit : ℕ) (text names : Word) (k : Kind) → fault_within limit text names ≡ Some k → IsFaultWithin limit text names k
within_reported limit text names k e = elim (leb_tells (length text) limit) [
  | inr long ↦ too_long long.1 (let made = rw (lt-ltb limit (length text) long.1) at e in cc)
  | inl short ↦
      let test : nat_lt limit (length text) ≡ false = let le = short.1 in grind (arith, nat_tests) in
      by short.1 (first_fault (components names)) refl (rw test at e)
] where
  by : length text ≤ limit → (o : Option Kind) → first_fault (components names) ≡ o → option_or o (depth_fault (length (components names))) ≡ Some k → IsFaultWithin limit text names k
  by short (Some j) h e = let first = first_reported (components names) k (h ∙ e) in bad_component short first.front first.following first.c first.cut first.good first.fault
  by short None h e = too_deep short (each_is (components names) h) (grind (arith, nat_tests)) (grind (arith, nat_tests))

within_only : (limit : ℕ) (text names : Word) (k : Kind) → IsFaultWithin limit text names k → fault_within limit text names ≡ Some k
within_only limit text names k (too_long long is) = rw (lt-ltb limit (length text) long, is) refl
within_only limit text names k (bad_component short front following c cut good fault) =
    let test : nat_lt limit (length text) ≡ false = grind (arith, nat_tests) in
    let first : first_fault (components names) ≡ Some k = ap first_fault cut ∙ first_only front following c k good fault in
    rw (test, first) refl
within_only limit text names k (too_deep short each deep is) =
    let test : nat_lt limit (length text) ≡ false = grind (arith, nat_tests) in
    rw (test, each_faultless (components names) each, lt-ltb DEPTH_LIMIT (length (components names)) deep, is) refl

-- an existing fault, as an error
as_error : {A : Type 0} (o : Option Kind) (x : A) (k : Kind) → option_map_or (λ k. Err k) o (Ok x) ≡ Err k → o ≡ Some k
as_error (Some j) x k e = cc
as_error None x k e = absurd cc

-- ---- a path

path_reported : (w : Word) (k : Kind) → path_of w ≡ Err k → IsPathFault w k
path_reported w k e = by (bytes_eq w (codes "-")) refl e where
  by : (dash : Bool) → bytes_eq w (codes "-") ≡ dash → (if dash then Ok main else option_map_or (λ k. Err k) (path_fault w) (Ok w)) ≡ Err k → IsPathFault w k
  by true h e = absurd cc
  by false h e = (λ is. let same = (bytes_eq-Decides w (codes "-")).1 is in absurd cc, within_reported PATH_LIMIT w w k (as_error (path_fault w) w k e))

path_only : (w : Word) (k : Kind) → IsPathFault w k → path_of w ≡ Err k
path_only w k (other, fault) = by (bytes_eq w (codes "-")) refl where
  by : (dash : Bool) → bytes_eq w (codes "-") ≡ dash → path_of w ≡ Err k
  by true h = absurd (other ((bytes_eq-Decides w (codes "-")).0 h))
  by false h = rw (h, within_only PATH_LIMIT w w k fault) refl

pub paths_reported : TellsFaults path_of IsPathFault
paths_reported = tells path_of IsPathFault path_reported path_only

-- ---- a reference

not_longer : (t : Word) → t ≢ quoted t
not_longer t e = omega (arith, ap length e, length-append t (codes "\""))

unquoted_reported : (w : Word) → IsUnquoted w (unquoted w)
unquoted_reported w = elim (unquoted_is w) [
  | inr is ↦ inl is
  | inl is ↦ inr (is, λ t q. let same : w ≡ t = is ∙ ap unquoted q ∙ in_quotes t in not_longer t (sym same ∙ q))
]

unquoted_only : (w text : Word) → IsUnquoted w text → unquoted w ≡ text
unquoted_only w text (inl is) = ap unquoted is ∙ in_quotes text
unquoted_only w text (inr (is, never)) = elim (unquoted_is w) [ inl same ↦ sym same ∙ is | inr q ↦ absurd (never (unquoted w) q) ]

names_in : (text : Word) → IsUnended text (split_wildcard text).names
names_in text = by (before ending text) refl where
  by : (o : Option Word) → before ending text ≡ o → IsUnended text (option_map_or (λ names. refers names true) o (refers text false)).names
  by (Some names) h = inl (before_is ending text names h)
  by None h = inr (refl, λ n is. let found : before ending text ≡ Some n = ap (before ending) is ∙ before_end n ending in absurd cc)

names_only_so : (text names : Word) → IsUnended text names → (split_wildcard text).names ≡ names
names_only_so text names (inl is) = rw (is, before_end names ending) refl
names_only_so text names (inr (is, never)) = by (before ending text) refl where
  by : (o : Option Word) → before ending text ≡ o → (option_map_or (λ names. refers names true) o (refers text false)).names ≡ names
  by (Some n) h = absurd (never n (before_is ending text n h))
  by None h = is

reference_reported : (w : Word) (k : Kind) → reference_of w ≡ Err k → IsReferenceFault w k
reference_reported w k e =
    let text : Word = unquoted w in
    (text, (split_wildcard text).names, unquoted_reported w, names_in text, within_reported REFERENCE_LIMIT text (split_wildcard text).names k (as_error (reference_fault text) (split_wildcard text) k e))

reference_only : (w : Word) (k : Kind) → IsReferenceFault w k → reference_of w ≡ Err k
reference_only w k (text, names, quotes, end, fault) =
    let none : reference_fault text ≡ Some k = rw (names_only_so text names end) (within_only REFERENCE_LIMIT text names k fault) in
    rw (unquoted_only w text quotes, none) refl

pub references_reported : TellsFaults reference_of IsReferenceFault
references_reported = tells reference_of IsReferenceFault reference_reported reference_only

pub ruleset all_reported = (names_reported, paths_reported, references_reported)

-- The tables of a file up to the first that is defined again.
use Rattle.std.proofs.Common.{◌≡◌, ℕ, suc, ◌+◌, ◌<◌, ◌≤◌, ◌||◌, not, cond, Bool, true, false, List, [], ◌∷◌, ◌++◌, length, get_or, take, drop, Option, Some, None, Result, Ok, Err, refl, sym, ap, ◌∙◌, arith, if◌then◌else◌}
use Rattle.std.specs.{List.{slice_get}, Str.bytes_eq, BTreeSet.{BTreeSet, contains}, Ordering.{is_eq, nat_cmp}, Cmp.Lexicographic.slice_cmp}
use denote.Ref.{Bor}
use Rattle.std.proofs.lemmas.{List.drop_all, Map.Text.is_eq-slice_cmp}
use Rattle.pf_form.specs.Form.Forms.{◌>>=◌}
use Rattle.pf_tokens.specs.declared.files.File.{File}
use Rattle.pf_parse.specs.declared.{fault.Stop.Stop, fault.Stop.TheVariants.{Faulty, Needs, Memory}, tree.Table.Table}
use Rattle.pf_parse.specs.declared.fault.Mistake.TheVariants as mistakes
use Rattle.pf_parse.specs.{Stops.fault_at, Reading.Word}
use Rattle.pf_conf.specs.declared.found.Found.{Found}
use Rattle.pf_sources.specs.Steps.{each, Leaves}
use Rattle.pf_conf.specs.Filling.{with_sources, is_defined, with_definition, once_after, with_tables}
use Rattle.pf_conf.proofs.Steps.{drop_item, take_item}

-- ---- how many come before that

-- the set has the names of these
abbrev pub Named : BTreeSet (Bor Word) → List Table → Type 0
Named names ts = (name : Bor Word) → contains (λ x y. slice_cmp nat_cmp x.now y.now) names name ≡ is_defined name.now ts

-- one more table is defined
pub defined_more : (name : Word) (ts : List Table) (t : Table) → is_defined name (ts ++ t ∷ []) ≡ cond (bytes_eq t.name name) true (is_defined name ts)
defined_more name [] t = elim (bytes_eq t.name name) as (λ b. (b || false) ≡ cond b true false) [ true ↦ refl | false ↦ refl ]
defined_more name (u ∷ ts) t =
    ap (λ (b : Bool). bytes_eq u.name name || b) (defined_more name ts t)
    ∙ elim (bytes_eq t.name name) as (λ b. (bytes_eq u.name name || cond b true (is_defined name ts)) ≡ cond b true (bytes_eq u.name name || is_defined name ts)) [
      | true ↦ elim (bytes_eq u.name name) as (λ b. (b || true) ≡ true) [ true ↦ refl | false ↦ refl ]
      | false ↦ refl
    ]

pub named_more : (old new : BTreeSet (Bor Word)) (ts : List Table) (i : ℕ) (t : Table) (key : Bor Word) → i < length ts → t ≡ get_or ts i t → key.now ≡ t.name
    → ((name : Bor Word) → contains (λ x y. slice_cmp nat_cmp x.now y.now) new name ≡ cond (is_eq (slice_cmp nat_cmp key.now name.now)) true (contains (λ x y. slice_cmp nat_cmp x.now y.now) old name))
    → Named old (take i ts) → Named new (take (i + 1) ts)
named_more old new ts i t key within item is updates known = λ name.
    updates name
    ∙ ap (λ (b : Bool). cond (is_eq (slice_cmp nat_cmp key.now name.now)) true b) (known name)
    ∙ ap (λ (b : Bool). cond b true (is_defined name.now (take i ts))) (is_eq-slice_cmp key.now name.now ∙ ap (λ (w : Word). bytes_eq w name.now) is)
    ∙ sym (defined_more name.now (take i ts) t)
    ∙ ap (λ (us : List Table). is_defined name.now us) (sym (take_item ts i t within item))

pub was_there : (there added : Bool) → added ≡ not there → added ≡ false → there ≡ true
was_there true added is old = refl
was_there false added is old = absurd (cc)

pub was_new : (there added : Bool) → added ≡ not there → added ≡ true → there ≡ false
was_new true added is new = absurd (cc)
was_new false added is new = refl

-- the tables from this one on, given those before it
abbrev pub From : List Table → ℕ → Type 0
From ts i = once_after [] ts ≡ i + once_after (take i ts) (drop i ts)

here_first : (ts : List Table) (i : ℕ) (t : Table) (b : Bool) → i < length ts → t ≡ get_or ts i t → is_defined t.name (take i ts) ≡ b → From ts i → once_after [] ts ≡ i + (if b then 0 else suc (once_after (take i ts ++ t ∷ []) (drop (i + 1) ts)))
unfolding once_after
here_first ts i t b within item is known =
    known ∙ ap (λ (us : List Table). i + once_after (take i ts) us) (drop_item ts i t within item)
    ∙ ap (λ (c : Bool). i + (if c then 0 else suc (once_after (take i ts ++ t ∷ []) (drop (i + 1) ts)))) is

pub from_next : (ts : List Table) (i : ℕ) (t : Table) → i < length ts → t ≡ get_or ts i t → is_defined t.name (take i ts) ≡ false → From ts i → From ts (i + 1)
from_next ts i t within item is known =
    let here : once_after [] ts ≡ i + suc (once_after (take i ts ++ t ∷ []) (drop (i + 1) ts)) = here_first ts i t false within item is known in
    let more : once_after (take i ts ++ t ∷ []) (drop (i + 1) ts) ≡ once_after (take (i + 1) ts) (drop (i + 1) ts) = ap (λ (us : List Table). once_after us (drop (i + 1) ts)) (sym (take_item ts i t within item)) in
    omega (arith, here, more)

pub from_here : (ts : List Table) (i : ℕ) (t : Table) → i < length ts → t ≡ get_or ts i t → is_defined t.name (take i ts) ≡ true → From ts i → i ≡ once_after [] ts
from_here ts i t within item is known =
    let here : once_after [] ts ≡ i + 0 = here_first ts i t true within item is known in
    omega (arith, here)

pub from_end : (ts : List Table) (i : ℕ) → length ts ≤ i → From ts i → i ≡ once_after [] ts
unfolding once_after
from_end ts i past known =
    let none : once_after [] ts ≡ i + 0 = known ∙ ap (λ (us : List Table). i + once_after (take i ts) us) (drop_all i ts past) in
    omega (arith, none)

-- ---- what they come to

-- the fault of the table that is defined again, if there is one
abbrev again : Option Table → Found → Result Found Stop
again None s = Ok s
again (Some t) s = Err (fault_at t.place (mistakes.TableTwice t.name))

-- those up to this one, and then its fault
abbrev up_to : List File → Word → List Table → ℕ → Found → Result Found Stop
up_to files path ts n s = each (with_sources files path) (take n ts) s >>= again (slice_get ts n)

abbrev in_turn : List File → Word → List Table → List Table → Found → Result Found Stop
in_turn files path before ts s = each (with_definition files path) ts (before, s) >>= λ x. Ok x.1

first_table : (files : List File) (path : Word) (before ts : List Table) (t : Table) (s : Found) (b : Bool) → is_defined t.name before ≡ b
    → ((u : Found) → in_turn files path (before ++ t ∷ []) ts u ≡ up_to files path ts (once_after (before ++ t ∷ []) ts) u)
    → in_turn files path before (t ∷ ts) s ≡ up_to files path (t ∷ ts) (once_after before (t ∷ ts)) s
unfolding each with_definition once_after
first_table files path before ts t s true is more = rw is refl
first_table files path before ts t s false is more =
    let n : ℕ = once_after (before ++ t ∷ []) ts in
    rw is (elim (with_sources files path t s) as (λ r. (((r >>= λ u. Ok (before ++ t ∷ [], u)) >>= each (with_definition files path) ts) >>= λ x. Ok x.1) ≡ ((r >>= each (with_sources files path) (take n ts)) >>= again (slice_get ts n))) [
      | Ok u ↦ more u
      | Err e ↦ refl
    ])

tables_in_turn : (files : List File) (path : Word) (before ts : List Table) (s : Found) → in_turn files path before ts s ≡ up_to files path ts (once_after before ts) s
unfolding each once_after
tables_in_turn files path before [] s = refl
tables_in_turn files path before (t ∷ ts) s =
    first_table files path before ts t s (is_defined t.name before) refl (λ u. tables_in_turn files path (before ++ t ∷ []) ts u)

tables_are : (files : List File) (path : Word) (ts : List Table) (s : Found) (n : ℕ) → n ≡ once_after [] ts → with_tables files path ts s ≡ up_to files path ts n s
unfolding with_tables
tables_are files path ts s n is = tables_in_turn files path [] ts s ∙ ap (λ (m : ℕ). up_to files path ts m s) (sym is)

one_fails : (files : List File) (path : Word) (ts : List Table) (s : Found) (n : ℕ) (e : Stop) → n ≡ once_after [] ts → each (with_sources files path) (take n ts) s ≡ Err e → with_tables files path ts s ≡ Err e
one_fails files path ts s n e is fails = tables_are files path ts s n is ∙ ap (λ (r : Result Found Stop). r >>= again (slice_get ts n)) fails

pub one_stops : (files : List File) (path : Word) (ts : List Table) (s u v : Found) (n : ℕ) (e : Stop) → n ≡ once_after [] ts → Leaves {A = Found} (Err e) u (each (with_sources files path) (take n ts) s) → Leaves {A = Found} (Err e) v (with_tables files path ts s)
one_stops files path ts s u v n (Faulty f) is stops = one_fails files path ts s n (Faulty f) is stops
one_stops files path ts s u v n (Needs name) is stops = one_fails files path ts s n (Needs name) is stops
one_stops files path ts s u v n Memory is stops = tt

pub then_again : (files : List File) (path : Word) (ts : List Table) (s u : Found) (n : ℕ) (t : Option Table) → n ≡ once_after [] ts → each (with_sources files path) (take n ts) s ≡ Ok u → slice_get ts n ≡ t → with_tables files path ts s ≡ again t u
then_again files path ts s u n t is done there =
    tables_are files path ts s n is ∙ ap (λ (r : Result Found Stop). r >>= again (slice_get ts n)) done ∙ ap (λ (o : Option Table). again o u) there

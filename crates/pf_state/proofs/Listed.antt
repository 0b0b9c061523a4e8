-- The ids that a batch lists of some creators are those of all their states, after each step too; and who takes these out clears.
use Rattle.std.proofs.{Common.{◌≡◌, ℕ, ◌+◌, ◌<◌, ◌≤◌, ◌⊎◌, inr, Bool, true, false, ◌&&◌, ◌||◌, cond, T, List, [], ◌∷◌, ◌++◌, Option, Some, None, option_map, take, get_or, length, refl, sym, ap, ◌∙◌, subst}, lemmas.{Bool.{eqb-true, eq-eqb}, List.take_all, List.Folds.{list_any-append, list_any_more}}}
use Rattle.std.specs.{Prelude.◌==◌, FinMap.is_sorted, FinMap.Entries.{is_sorted-where_key, same_entries}, Option.unwrap_or, Ordering.eq_by_cmp}
use Rattle.pf_map.proofs.Maps.{stays_sorted}
use Rattle.pf_state.specs.{declared.{ids.Ids.Ids, state.Held.Held, state.StateName.StateName, step.StateStep.TheVariants.Insert, step.StateStep.TheVariants.Delete}, Ids.{ids_of, with_name, emptied, is_id, HasAll, ListsAll}, Orders.{name_total, name_alike}, States.{PlainState, name_order, held_at}, Steps.{has_effect, insertion, without_creator, without_state, stepped}}
use Rattle.pf_state.proofs.{Leaves.{reads_step, reads_clear, reads_delete}, Names.{one_name, same_name}, Tables.{no, nothing_is}}

-- ---- names and ids

-- two names are one exactly if the ids and the creators are
name_ties : (q n : StateName) → eq_by_cmp name_order q n ≡ ((q.id == n.id) && (q.creator == n.creator))
name_ties q n = by (eq_by_cmp name_order q n) refl (q.id == n.id) refl (q.creator == n.creator) refl where
  by : (t : Bool) → eq_by_cmp name_order q n ≡ t → (a : Bool) → (q.id == n.id) ≡ a → (b : Bool) → (q.creator == n.creator) ≡ b → t ≡ (a && b)
  by true one a id b creator =
      let same : q ≡ n = one_name q n one in
      let ids : a ≡ true = sym id ∙ eq-eqb q.id n.id (ap (λ (m : StateName). m.id) same) in
      let creators : b ≡ true = sym creator ∙ eq-eqb q.creator n.creator (ap (λ (m : StateName). m.creator) same) in
      rw (ids, creators) refl
  by false other true id true creator =
      let ids = eqb-true q.id n.id id in
      let creators = eqb-true q.creator n.creator creator in
      no (sym (same_name q n (λ i. record { id = ids i; creator = creators i })) ∙ other)
  by false other true id false creator = refl
  by false other false id b creator = refl

or_true : (b : Bool) → (b || true) ≡ true
or_true true = refl
or_true false = refl

id_is_last : (n : StateName) (listed : List ℕ) → is_id n (listed ++ n.id ∷ []) ≡ true
id_is_last n listed = list_any-append (λ id. n.id == id) listed (n.id ∷ []) ∙ rw (eq-eqb n.id n.id refl) (or_true (is_id n listed))

id_stays : (n : StateName) (listed : List ℕ) (id : ℕ) → is_id n listed ≡ true → is_id n (listed ++ id ∷ []) ≡ true
id_stays n listed id is = list_any-append (λ id. n.id == id) listed (id ∷ []) ∙ ap (λ (b : Bool). b || is_id n (id ∷ [])) is

-- ---- one more state is listed

-- what was listed before, where this is listed after
record Before (before : Option (List ℕ)) (same : Bool) (id : ℕ) (listed : List ℕ) : Type 0 where
  pub old : List ℕ
  pub was : before ≡ Some old
  pub now : listed ≡ cond same (old ++ id ∷ []) old

before_it : (before : Option (List ℕ)) (same : Bool) (id : ℕ) (listed : List ℕ) → cond same (option_map (λ l. l ++ id ∷ []) before) before ≡ Some listed → Before before same id listed
before_it None true id listed is = nothing_is listed is
before_it None false id listed is = nothing_is listed is
before_it (Some old) true id listed is = record { old = old; was = refl; now = sym (ap (λ (o : Option (List ℕ)). unwrap_or o []) is) }
before_it (Some old) false id listed is = record { old = old; was = refl; now = sym (ap (λ (o : Option (List ℕ)). unwrap_or o []) is) }

before : (old new : Ids) (n : StateName) → ((creator : ℕ) → ids_of new creator ≡ with_name old n creator) → (creator : ℕ) (listed : List ℕ) → ids_of new creator ≡ Some listed → Before (ids_of old creator) (creator == n.creator) n.id listed
before old new n added creator listed is = before_it (ids_of old creator) (creator == n.creator) n.id listed (sym (added creator) ∙ is)

still : (q : StateName) (same : Bool) (old : List ℕ) (id : ℕ) → is_id q old ≡ true → is_id q (cond same (old ++ id ∷ []) old) ≡ true
still q true old id is = id_stays q old id is
still q false old id is = is

-- ---- all states are listed one after the other

pub lists_none : (es : List PlainState) (ids : Ids) → ((creator : ℕ) → ids_of ids creator ≡ None) → ListsAll es ids
lists_none es ids none = record { lists = λ creator listed is. nothing_is listed (sym (none creator) ∙ is) }

-- each state of these creators is listed, or still to come
pub record Listing (es rest : List PlainState) (ids : Ids) : Type 0 where
  pub lists : (q : StateName) (held : Held) (listed : List ℕ) → held_at q es ≡ Some held → ids_of ids q.creator ≡ Some listed
      → (is_id q listed ≡ true) ⊎ (held_at q rest ≡ Some held)

pub listing_begun : (es : List PlainState) (ids : Ids) → Listing es es ids
listing_begun es ids = record { lists = λ q held listed there is. inr there }

-- ---- after a step

-- what held before, where nothing but one state is new
pub lists_inserted : (es : List PlainState) (s : PlainState) (old new : Ids) → ListsAll es old → ((creator : ℕ) → ids_of new creator ≡ with_name old s.0 creator) → ListsAll (stepped es (Insert s)) new
lists_inserted es s old new is added = record { lists = λ creator listed has. record { all = λ q held there his. by creator listed (before old new s.0 added creator listed has) q held (sym (reads_step es (Insert s) q) ∙ there) his } } where
  by : (creator : ℕ) (listed : List ℕ) → Before (ids_of old creator) (creator == s.0.creator) s.0.id listed → (q : StateName) (held : Held)
      → cond (has_effect (insertion es s) && eq_by_cmp name_order q s.0) (Some s.1) (held_at q es) ≡ Some held → (q.creator == creator) ≡ true → is_id q listed ≡ true
  by creator listed b q held there his = either (has_effect (insertion es s)) (eq_by_cmp name_order q s.0) refl there where
    earlier : held_at q es ≡ Some held → is_id q listed ≡ true
    earlier held_before = ap (is_id q) b.now ∙ still q (creator == s.0.creator) b.old s.0.id ((is.lists creator b.old b.was).all q held held_before his)

    either : (effect same : Bool) → eq_by_cmp name_order q s.0 ≡ same → cond (effect && same) (Some s.1) (held_at q es) ≡ Some held → is_id q listed ≡ true
    either true true one is_new =
        let same : q ≡ s.0 = one_name q s.0 one in
        let of_him : (creator == s.0.creator) ≡ true = eq-eqb creator s.0.creator (sym (eqb-true q.creator creator his) ∙ ap (λ (m : StateName). m.creator) same) in
        let listed_is : listed ≡ b.old ++ s.0.id ∷ [] = b.now ∙ ap (λ (t : Bool). cond t (b.old ++ s.0.id ∷ []) b.old) of_him in
        let last : is_id q (b.old ++ s.0.id ∷ []) ≡ true = subst (λ (m : StateName). is_id m (b.old ++ s.0.id ∷ []) ≡ true) (sym same) (id_is_last s.0 b.old) in
        ap (is_id q) listed_is ∙ last
    either true false other held_before = earlier held_before
    either false same whatever held_before = earlier held_before

taken_from : (b : Bool) (o : Option Held) (held : Held) → cond b None o ≡ Some held → o ≡ Some held
taken_from true o held is = nothing_is held is
taken_from false o held is = is

pub lists_deleted : (es : List PlainState) (n : StateName) (ids : Ids) → ListsAll es ids → ListsAll (stepped es (Delete n)) ids
lists_deleted es n ids is = record { lists = λ creator listed has. record { all = λ q held there his. (is.lists creator listed has).all q held (taken_from (eq_by_cmp name_order q n) (held_at q es) held (sym (reads_step es (Delete n) q) ∙ there)) his } }

pub lists_cleared : (es : List PlainState) (cleared : ℕ) (old new : Ids) → ListsAll es old → ((creator : ℕ) → ids_of new creator ≡ emptied old cleared creator) → ListsAll (without_creator es cleared) new
lists_cleared es cleared old new is taken = record { lists = λ creator listed has. record { all = λ q held there his. by creator listed (sym (taken creator) ∙ has) q held (sym (reads_clear es cleared q) ∙ there) his } } where
  by : (creator : ℕ) (listed : List ℕ) → emptied old cleared creator ≡ Some listed → (q : StateName) (held : Held) → cond (q.creator == cleared) None (held_at q es) ≡ Some held → (q.creator == creator) ≡ true → is_id q listed ≡ true
  by creator listed has q held there his = either (creator == cleared) refl has where
    either : (same : Bool) → (creator == cleared) ≡ same → cond same (option_map (λ l. []) (ids_of old creator)) (ids_of old creator) ≡ Some listed → is_id q listed ≡ true
    either true one emptied_now =
        let gone : (q.creator == cleared) ≡ true = eq-eqb q.creator cleared (eqb-true q.creator creator his ∙ eqb-true creator cleared one) in
        nothing_is held (sym (ap (λ (b : Bool). cond b None (held_at q es)) gone) ∙ there)
    either false other as_before = (is.lists creator listed as_before).all q held (taken_from (q.creator == cleared) (held_at q es) held there) his

-- ---- the states of these ids are taken out one after the other

-- of this many ids the creator's states were taken out
pub record Taking (es : List PlainState) (creator : ℕ) (listed : List ℕ) (index : ℕ) (left : List PlainState) : Type 0 where
  pub sorted : T (is_sorted name_order left)
  pub reads : (q : StateName) → held_at q left ≡ cond (is_id q (take index listed) && (q.creator == creator)) None (held_at q es)

pub taking_begun : (es : List PlainState) (creator : ℕ) (listed : List ℕ) → T (is_sorted name_order es) → Taking es creator listed 0 es
taking_begun es creator listed sorted = record { sorted = sorted; reads = λ q. refl }

pub taking_one : (es : List PlainState) (creator : ℕ) (listed : List ℕ) (index : ℕ) (left : List PlainState) (id : ℕ) → Taking es creator listed index left → index < length listed → id ≡ get_or listed index 0
    → Taking es creator listed (index + 1) (without_state left (record { id = id; creator = creator }))
taking_one es creator listed index left id is within here = record {
  sorted = stays_sorted Held name_total left name None is.sorted;
  reads = λ q.
      reads_delete left name q ∙ ap (λ (b : Bool). cond b None (held_at q left)) (name_ties q name) ∙ ap (λ (o : Option Held). cond ((q.id == id) && (q.creator == creator)) None o) (is.reads q)
      ∙ together (q.id == id) (is_id q (take index listed)) (q.creator == creator) (held_at q es)
      ∙ ap (λ (b : Bool). cond (b && (q.creator == creator)) None (held_at q es)) (sym (list_any_more (λ i. q.id == i) listed index 0 within ∙ ap (λ (i : ℕ). is_id q (take index listed) || (q.id == i)) (sym here)));
} where
  name : StateName
  name = record { id = id; creator = creator }

  together : (a l c : Bool) (o : Option Held) → cond (a && c) None (cond (l && c) None o) ≡ cond ((l || a) && c) None o
  together true true true o = refl
  together true true false o = refl
  together true false true o = refl
  together true false false o = refl
  together false true true o = refl
  together false true false o = refl
  together false false true o = refl
  together false false false o = refl

pub taking_all : (es : List PlainState) (creator : ℕ) (listed : List ℕ) (index : ℕ) (left : List PlainState) → T (is_sorted name_order es) → HasAll es creator listed → Taking es creator listed index left → length listed ≤ index
    → left ≡ without_creator es creator
taking_all es creator listed index left sorted has is end =
    same_entries _ name_total name_alike left (without_creator es creator) is.sorted (is_sorted-where_key name_order _ es sorted)
    (λ q. is.reads q ∙ ap (λ (l : List ℕ). cond (is_id q l && (q.creator == creator)) None (held_at q es)) (take_all index listed end) ∙ by q (is_id q listed) refl (q.creator == creator) refl (held_at q es) refl ∙ sym (reads_clear es creator q)) where
      by : (q : StateName) (l : Bool) → is_id q listed ≡ l → (c : Bool) → (q.creator == creator) ≡ c → (o : Option Held) → held_at q es ≡ o → cond (l && c) None o ≡ cond c None o
      by q true is_listed c his o there = refl
      by q false not_listed true his None there = refl
      by q false not_listed true his (Some held) there = no (sym (has.all q held there his) ∙ not_listed)
      by q false not_listed false other o there = refl

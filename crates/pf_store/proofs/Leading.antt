-- What payloads lead to.
use Rattle.std.proofs.{Common.{◌≡◌, ◌+◌, ◌<◌, ◌≤◌, ℕ, List, [], ◌∷◌, ◌++◌, length, get_or, take, drop, Ok, Err, refl, sym, ◌∙◌, ap, subst, arith, length-append, take-append-drop}, lemmas.List.{take_more, drop_more, map-append}, lemmas.List.Concat.flat_map-append, lemmas.List.Sums.fold_push}
use Rattle.std.specs.Prelude.{Vec, Result, IfErr}
use Rattle.std.specs.declared.alloc.Global.{Global}
use Rattle.pf_journal.specs.Records.{contents, counted, records}
use Rattle.pf_journal.proofs.Gates.{length-counted, length-records-push}
use Rattle.pf_store.specs.declared.encoding.fault.GroupFault.{GroupFault}
use Rattle.pf_store.specs.declared.encoding.fault.GroupFault.TheVariants.{NoForm}
use Rattle.pf_snap.specs.Banks.{Content}
use Rattle.pf_core.specs.Durable.Changes.{PlainDurable, PlainChange, after, applied}
use Rattle.pf_store.specs.declared.encoding.recorded.Recorded.{Recorded}
use Rattle.pf_store.specs.{Groups.{IsRecorded, made_all}, Stores.{FollowInTurn, Follows, left_by, left_by_all, Leads, Makes}}
use Rattle.pf_store.proofs.{Durables.one_durable, RecordedForms.one_group}

-- ---- groups

-- those that follow in turn still do with one more that may come next
pub follow_push : (d : PlainDurable) (rs : List Recorded) (r : Recorded) → FollowInTurn d rs → Follows (left_by_all d rs) r → FollowInTurn d (rs ++ r ∷ [])
follow_push d [] r all follows = (follows, tt)
follow_push d (q ∷ rs) r all follows = (all.0, follow_push (left_by d q) rs r all.1 follows)

pub follow_at : (d : PlainDurable) (rs : List Recorded) (r : Recorded) (rest : List Recorded) → FollowInTurn d (rs ++ r ∷ rest) → Follows (left_by_all d rs) r
follow_at d [] r rest all = all.0
follow_at d (q ∷ rs) r rest all = follow_at (left_by d q) rs r rest all.1

-- ---- one more record of a group

taken : {A : Type 0} (xs : List A) (i : ℕ) (x : A) → i < length xs → x ≡ get_or xs i x → take (i + 1) xs ≡ take i xs ++ x ∷ []
taken xs i x lt is = take_more xs i x lt ∙ ap (λ y. take i xs ++ y ∷ []) (sym is)

split_at : {A : Type 0} (xs : List A) (i : ℕ) (x : A) → i < length xs → x ≡ get_or xs i x → xs ≡ take i xs ++ x ∷ drop (i + 1) xs
split_at xs i x lt is = sym (take-append-drop i xs) ∙ ap (λ l. take i xs ++ l) (drop_more xs i x lt ∙ ap (λ y. y ∷ drop (i + 1) xs) (sym is))

module _ (d left : PlainDurable) (rs : List Recorded) (i : ℕ) (r : Recorded) (lt : i < length rs) (is : r ≡ get_or rs i r) (so_far : FollowInTurn d (take i rs)) (left_is : left ≡ left_by_all d (take i rs)) where
  pub follow_on : Follows left r → FollowInTurn d (take (i + 1) rs)
  follow_on follows =
      subst (FollowInTurn d) (sym (taken rs i r lt is)) (follow_push d (take i rs) r so_far (subst (λ (k : PlainDurable). Follows k r) left_is follows))

  pub left_on : left_by left r ≡ left_by_all d (take (i + 1) rs)
  left_on = ap (λ (k : PlainDurable). left_by k r) left_is ∙ sym (fold_push left_by d (take i rs) r) ∙ ap (left_by_all d) (sym (taken rs i r lt is))

  pub stuck : ¬ Follows left r → ¬ FollowInTurn d rs
  stuck none all =
      none (subst (λ (k : PlainDurable). Follows k r) (sym left_is) (follow_at d (take i rs) r (drop (i + 1) rs) (subst (FollowInTurn d) (split_at rs i r lt is) all)))

-- what changes leave
pub left_by_made : (d : PlainDurable) (es : List PlainChange) → left_by_all d (made_all es) ≡ after d es
left_by_made d [] = refl
left_by_made d (e ∷ es) = left_by_made (applied d e) es

-- ---- payloads

pub leads-push : (version : ℕ) (d : PlainDurable) (ps : List (List ℕ)) (e : PlainDurable) (p : List ℕ) (xs : List Recorded) → Leads version d ps e → IsRecorded version xs p → FollowInTurn e xs → Leads version d (ps ++ p ∷ []) (left_by_all e xs)
leads-push version d [] e p xs led is follows = subst (λ (f : PlainDurable). Leads version f (p ∷ []) (left_by_all e xs)) (sym led) (xs, is, follows, refl)
leads-push version d (q ∷ ps) e p xs led is follows = (led.0, led.1, led.2, leads-push version (left_by_all d led.0) ps e p xs led.3 is follows)

-- payloads lead to only one thing
pub one_end : (version : ℕ) (d : PlainDurable) (ps : List (List ℕ)) (e f : PlainDurable) → Leads version d ps e → Leads version d ps f → e ≡ f
one_end version d [] e f a b = sym a ∙ b
one_end version d (p ∷ ps) e f a b =
    one_end version (left_by_all d b.0) ps e f (subst (λ (xs : List Recorded). Leads version (left_by_all d xs) ps e) (one_group version a.0 b.0 p a.1 b.1) a.3) b.3

pub one_made : (content : Content) (d e : PlainDurable) → Makes content d → Makes content e → d ≡ e
one_made content d e a b =
    one_end content.version b.first content.payloads d e (subst (λ (f : PlainDurable). Leads content.version f content.payloads d) (one_durable content.version a.first b.first content.snapshot a.kept b.kept) a.leads) b.leads

-- if one payload leads nowhere, all together lead nowhere
pub stopped : (version : ℕ) (first : PlainDurable) (done : List (List ℕ)) (p : List ℕ) (rest : List (List ℕ)) (d e : PlainDurable) → Leads version first done d → ((xs : List Recorded) → IsRecorded version xs p → FollowInTurn d xs → ⊥) → Leads version first (done ++ p ∷ rest) e → ⊥
stopped version first [] p rest d e led none all = none all.0 all.1 (subst (λ (f : PlainDurable). FollowInTurn f all.0) led all.2)
stopped version first (q ∷ done) p rest d e led none all =
    stopped version (left_by_all first all.0) done p rest d e (subst (λ (xs : List Recorded). Leads version (left_by_all first xs) done d) (one_group version led.0 all.0 q led.1 all.1) led.3) none all.3

-- ---- the loop over payloads

contents-more : (payloads : List (Vec ℕ Global)) (i : ℕ) (p : Vec ℕ Global) → i < length payloads → p ≡ get_or payloads i p → contents (take (i + 1) payloads) ≡ contents (take i payloads) ++ p.items ∷ []
contents-more payloads i p lt is = ap contents (take_more payloads i p lt) ∙ map-append (λ v. v.items) (take i payloads) (get_or payloads i p ∷ []) ∙ ap (λ (v : Vec ℕ Global). contents (take i payloads) ++ v.items ∷ []) (sym is)

pub contents-split : (payloads : List (Vec ℕ Global)) (i : ℕ) (p : Vec ℕ Global) → i < length payloads → p ≡ get_or payloads i p → contents payloads ≡ contents (take i payloads) ++ p.items ∷ contents (drop (i + 1) payloads)
contents-split payloads i p lt is =
    ap contents (sym (take-append-drop i payloads) ∙ ap (λ (l : List (Vec ℕ Global)). take i payloads ++ l) (drop_more payloads i p lt))
    ∙ map-append (λ v. v.items) (take i payloads) (get_or payloads i p ∷ drop (i + 1) payloads)
    ∙ ap (λ (v : Vec ℕ Global). contents (take i payloads) ++ v.items ∷ contents (drop (i + 1) payloads)) (sym is)

module _ (payloads : List (Vec ℕ Global)) (i : ℕ) (p : Vec ℕ Global) (lt : i < length payloads) (is : p ≡ get_or payloads i p) where
  pub leads_on : (version : ℕ) (first d e : PlainDurable) → Leads version first (contents (take i payloads)) d → (xs : List Recorded) × IsRecorded version xs p.items × FollowInTurn d xs × (e ≡ left_by_all d xs) → Leads version first (contents (take (i + 1) payloads)) e
  leads_on version first d e led more = subst (λ (ps : List (List ℕ)). Leads version first ps e) (sym (contents-more payloads i p lt is))
      (subst (Leads version first (contents (take i payloads) ++ p.items ∷ [])) (sym more.3) (leads-push version first (contents (take i payloads)) d p.items more.0 led more.1 more.2))

  pub gate_on : (start gate : ℕ) → gate ≡ start + length (records (contents (take i payloads))) → gate + (5 + length p.items) ≡ start + length (records (contents (take (i + 1) payloads)))
  gate_on start gate at = omega (arith, at, ap (λ (l : List (List ℕ)). length (records l)) (contents-more payloads i p lt is), length-records-push (contents (take i payloads)) p.items)

  pub gate_within : (start gate : ℕ) → gate ≡ start + length (records (contents (take i payloads))) → gate + (5 + length p.items) ≤ start + length (records (contents payloads))
  gate_within start gate at =
      let ps = contents (take i payloads) in
      let rest = contents (drop (i + 1) payloads) in
      omega (
        arith,
        at,
        ap (λ (l : List (List ℕ)). length (records l)) (contents-split payloads i p lt is),
        ap length (flat_map-append (λ payload. 165 ∷ counted payload) ps (p.items ∷ rest)),
        length-append (records ps) (records (p.items ∷ rest)),
        length-append (counted p.items) (records rest),
        length-counted p.items,
      )

-- the only group that has a payload doesn't follow
pub none_follows : {A : Type 0} (version : ℕ) (r : Result A GroupFault) (ys : List Recorded) (d : PlainDurable) (p : List ℕ) → IsRecorded version ys p → IfErr r (λ e. e ≡ NoForm → ¬ FollowInTurn d ys)
    → IfErr r (λ e. e ≡ NoForm → (xs : List Recorded) → IsRecorded version xs p → ¬ FollowInTurn d xs)
none_follows version (Ok a) ys d p is none = tt
none_follows version (Err e) ys d p is none = λ no_form xs here follows. none no_form (subst (FollowInTurn d) (one_group version xs ys p here is) follows)

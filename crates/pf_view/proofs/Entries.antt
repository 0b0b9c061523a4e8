-- Each step keeps the rule of the history.
use Rattle.std.proofs.Common.{◌≡◌, ℕ, zero, suc, ◌+◌, ◌<◌, ◌==◌, true, false, true≢false, List, [], ◌∷◌, ◌++◌, length, refl, ap, sym, ◌∙◌, subst, arith, inl, None}
use Rattle.std.specs.Prelude.{slice_set}
use Rattle.std.proofs.lemmas.List.{append-nil}
use Rattle.std.proofs.lemmas.Bool.Decides.{nat_tests}
use mathlib.Core.List.{IsPrefix}
use prog.Atomic.{either}
use Rattle.logbook.specs.Pages.{Cell, cell, Nib, keeps, gives, adds, no_nib, step, may_write, Moves}
use Rattle.pf_view.specs.declared.past.rule.HistoryEntry.{HistoryEntry}
use Rattle.std.specs.Prelude.{flat_map, if◌then◌else◌, option_to_list, ◌≤◌}
use Rattle.std.specs.List.{sum_by}
use Rattle.std.proofs.lemmas.{Grind.flat_map-append, List.Sums.{sum_by-append, sum_by_push}}
use Rattle.pf_core.specs.Durable.Changes.{PlainChange}
use Rattle.pf_view.specs.Past.Pasts.{Begins}
use Rattle.pf_view.specs.Past.Rules.{lead, lead_of, IsSpent, IsChain, IsKept, Comes, Starts, Adds, Stays, after_first, past_of, shown_of, tip_of, with_entry}
use Rattle.pf_view.proofs.Prefixes.{prefix_trans, prefix_shorter, prefix_whole, prefix_length}

abbrev pub shown : List HistoryEntry → List HistoryEntry
shown log = []

abbrev pub moved : List HistoryEntry → List HistoryEntry → ℕ → Type 0
moved xs ys n = Unit {0}

off : false ≡ true → ⊥
off e = true≢false (sym e)

pub home_set : (cs : List Cell) (i n j : ℕ) → (cell cs j).1 ≡ true → (cell (slice_set cs i (n, true)) j).1 ≡ true
home_set [] i n j h = h
home_set (c ∷ cs) zero n zero h = refl
home_set (c ∷ cs) zero n (suc j) h = h
home_set (c ∷ cs) (suc i) n zero h = h
home_set (c ∷ cs) (suc i) n (suc j) h = home_set cs i n j h

pub home_here : (cs : List Cell) (i n : ℕ) → i < length cs → (cell (slice_set cs i (n, true)) i).1 ≡ true
home_here [] i n h = absurd (omega arith)
home_here (c ∷ cs) zero n h = refl
home_here (c ∷ cs) (suc i) n h = home_here cs i n (omega arith)

pub home_longer : (cs more : List Cell) (j : ℕ) → (cell cs j).1 ≡ true → (cell (cs ++ more) j).1 ≡ true
home_longer [] more j h = absurd (off h)
home_longer (c ∷ cs) more zero h = h
home_longer (c ∷ cs) more (suc j) h = home_longer cs more j h

pub first_longer : (cs more : List Cell) → (cell cs 0).1 ≡ true → cell (cs ++ more) 0 ≡ cell cs 0
first_longer [] more h = absurd (off h)
first_longer (c ∷ cs) more h = refl

-- a pen that is away is not that of the first word
pub first_else : (cs : List Cell) (i n : ℕ) → (cell cs 0).1 ≡ true → (cell cs i).1 ≡ false → cell (slice_set cs i (n, true)) 0 ≡ cell cs 0
first_else [] i n h a = absurd (off h)
first_else (c ∷ cs) zero n h a = absurd (true≢false (sym h ∙ a))
first_else (c ∷ cs) (suc i) n h a = refl

pub some_there : (cs : List Cell) → (cell cs 0).1 ≡ true → 0 < length cs
some_there [] h = absurd (off h)
some_there (c ∷ cs) h = omega arith

value_same : (n : ℕ) → either (n == 0) 0 n ≡ n
value_same zero = refl
value_same (suc n) = let e : (suc n == 0) ≡ false = grind (arith, nat_tests) in rw e refl

value_suc : (n : ℕ) → either (suc n == 0) 1 (suc n) ≡ suc n
value_suc n = let e : (suc n == 0) ≡ false = grind (arith, nat_tests) in rw e refl

-- a step that writes what it found doesn't change the words
pub same_set : (cs : List Cell) → (cell cs 0).1 ≡ true → slice_set cs 0 (either ((cell cs 0).0 == 0) 0 (cell cs 0).0, true) ≡ cs
same_set [] h = refl
same_set ((n, b) ∷ cs) h = λ i. (value_same n i, sym h i) ∷ cs

pub spent_set : (cs cs' : List Cell) → ((j : ℕ) → (cell cs j).1 ≡ true → (cell cs' j).1 ≡ true) → (k : ℕ) (log : List HistoryEntry) → IsSpent cs k log → IsSpent cs' k log
spent_set cs cs' more k [] s = tt
spent_set cs cs' more k (e ∷ es) s = (more k s.0, spent_set cs cs' more e.next es s.1)

pub chain_set : (cs cs' : List Cell) → ((j : ℕ) → (cell cs j).1 ≡ true → (cell cs' j).1 ≡ true) → (log : List HistoryEntry) → IsChain cs log → IsChain cs' log
chain_set cs cs' more [] s = tt
chain_set cs cs' more (e ∷ es) s = spent_set cs cs' more e.next es s

pub spent_push : (cs : List Cell) (k : ℕ) (log : List HistoryEntry) (e : HistoryEntry) → IsSpent cs k log → (cell cs (lead k log)).1 ≡ true → IsSpent cs k (log ++ e ∷ [])
spent_push cs k [] e s h = (h, tt)
spent_push cs k (x ∷ xs) e s h = (s.0, spent_push cs x.next xs e s.1 h)

pub lead-push : (k : ℕ) (log : List HistoryEntry) (e : HistoryEntry) → lead k (log ++ e ∷ []) ≡ e.next
lead-push k [] e = refl
lead-push k (x ∷ xs) e = lead-push x.next xs e

pub lead_of-push : (log : List HistoryEntry) (e : HistoryEntry) → lead_of (log ++ e ∷ []) ≡ e.next
lead_of-push [] e = refl
lead_of-push (x ∷ xs) e = lead-push x.next xs e

-- whoever has the pen that may add has seen all
spent_alone : (cs : List Cell) (k : ℕ) (v log : List HistoryEntry) → IsSpent cs k log → IsPrefix v log → (cell cs (lead k v)).1 ≡ false → v ≡ log
spent_alone cs k [] [] s pre away = refl
spent_alone cs k [] (y ∷ ys) s pre away = absurd (true≢false (sym s.0 ∙ away))
spent_alone cs k (x ∷ xs) [] s pre away = absurd (cc (pre.1))
spent_alone cs k (x ∷ xs) (y ∷ ys) s pre away =
    let heads : x ≡ y = cc (pre.1) in
    let gone : (cell cs (lead y.next xs)).1 ≡ false = subst (λ (e : HistoryEntry). (cell cs (lead e.next xs)).1 ≡ false) heads away in
    let rest = spent_alone cs y.next xs ys s.1 (pre.0, cc (pre.1)) gone in cc (heads, rest)

pub alone : (cs : List Cell) (v log : List HistoryEntry) → IsKept cs log → IsPrefix v log → (cell cs (lead_of v)).1 ≡ false → v ≡ log
alone cs [] log kept pre away = absurd (true≢false (sym kept.0 ∙ away))
alone cs (x ∷ xs) [] kept pre away = absurd (cc (pre.1))
alone cs (x ∷ xs) (y ∷ ys) kept pre away =
    let heads : x ≡ y = cc (pre.1) in
    let gone : (cell cs (lead y.next xs)).1 ≡ false = subst (λ (e : HistoryEntry). (cell cs (lead e.next xs)).1 ≡ false) heads away in
    let rest = spent_alone cs y.next xs ys kept.1 (pre.0, cc (pre.1)) gone in cc (heads, rest)

-- a new pen may be made at any time
pub comes : (v : List HistoryEntry) (ask : HistoryEntry) → Moves IsKept shown moved 0 (v, (no_nib, None)) (λ n. either (n == 0) 0 n) (Comes (step 0 0 0 ask) (v, (no_nib, None)))
comes v ask cs log kept pre away =
    let cs' = cs ++ (0, false) ∷ [] in
    let kept' : IsKept cs' (log ++ []) = (
      home_longer cs ((0, false) ∷ []) 0 kept.0,
      subst (IsChain cs') (sym (append-nil log)) (chain_set cs cs' (home_longer cs ((0, false) ∷ [])) log kept.1),
      λ z. append-nil log ∙ kept.2 (ap (λ (c : Cell). c.0) (sym (first_longer cs ((0, false) ∷ []) kept.0)) ∙ z),
    ) in (
      some_there cs kept.0,
      kept.0,
      (adds, [], None, tt, subst (λ (x : List Cell). IsKept (x ++ (0, false) ∷ []) (log ++ [])) (sym (same_set cs kept.0)) kept', inl (refl, refl), refl),
    )

-- the pen's holder looks
pub stays : (v : List HistoryEntry) (p : Nib) (ask : HistoryEntry) → p.right ≡ may_write → Moves IsKept shown moved 0 (v, (p, None)) (λ n. either (n == 0) 0 n) (Stays (step 0 0 0 ask) (v, (p, None)))
stays v p ask right cs log kept pre away =
    let kept' : IsKept cs (log ++ []) = subst (IsKept cs) (sym (append-nil log)) kept in (
      some_there cs kept.0,
      kept.0,
      (
        keeps,
        [],
        None,
        tt,
        subst (λ (x : List Cell). IsKept x (log ++ [])) (sym (same_set cs kept.0)) kept',
        inl (refl, refl),
        (
          refl,
          λ u begins is.
              let whole : u ≡ log = alone cs u log kept (prefix_trans u v log begins pre) (subst (λ (k : ℕ). (cell cs k).1 ≡ false) (sym is) (away right).1) in
              let back : IsPrefix v u = subst (λ (l : List HistoryEntry). IsPrefix v l) (sym whole) pre in prefix_whole u v begins (prefix_length v u back),
        ),
      ),
    )

-- the pen's holder adds
pub adds_one : (v : List HistoryEntry) (p : Nib) (ask : HistoryEntry) → p.right ≡ may_write → p.key ≡ lead_of v → Moves IsKept shown moved 0 (v, (p, None)) (λ n. either (n == 0) 0 n) (Adds (step 0 0 0 ask) (v, (p, None)))
adds_one v p ask right key cs log kept pre away =
    let gone : (cell cs (lead_of v)).1 ≡ false = subst (λ (k : ℕ). (cell cs k).1 ≡ false) key (away right).1 in
    let whole : v ≡ log = alone cs v log kept pre gone in
    let cs' = slice_set cs p.key (p.value, true) in
    let here : (cell cs' (lead_of log)).1 ≡ true = subst (λ (k : ℕ). (cell cs' k).1 ≡ true) (key ∙ ap lead_of whole) (home_here cs p.key p.value (away right).0) in
    let kept' : IsKept cs' (log ++ ask ∷ []) = (
      home_set cs p.key p.value 0 kept.0,
      pushed cs' log ask (chain_set cs cs' (home_set cs p.key p.value) log kept.1) here,
      λ z. absurd (nobody cs v log (ap (λ (c : Cell). c.0) (sym (first_else cs p.key p.value kept.0 (away right).1)) ∙ z) kept whole gone),
    ) in (
      some_there cs kept.0,
      kept.0,
      (gives, ask ∷ [], None, right, subst (λ (x : List Cell). IsKept (slice_set x p.key (p.value, true)) (log ++ ask ∷ [])) (sym (same_set cs kept.0)) kept', inl (refl, refl), ap (λ (l : List HistoryEntry). l ++ ask ∷ []) (sym whole)),
    )
  where
    pushed : (cs : List Cell) (log : List HistoryEntry) (e : HistoryEntry) → IsChain cs log → (cell cs (lead_of log)).1 ≡ true → IsChain cs (log ++ e ∷ [])
    pushed cs [] e s h = tt
    pushed cs (x ∷ xs) e s h = spent_push cs x.next xs e s h

    nobody : (cs : List Cell) (v log : List HistoryEntry) → (cell cs 0).0 ≡ 0 → IsKept cs log → v ≡ log → (cell cs (lead_of v)).1 ≡ false → ⊥
    nobody cs [] log z kept whole gone = true≢false (sym kept.0 ∙ gone)
    nobody cs (x ∷ xs) log z kept whole gone = absurd (cc (whole, kept.2 z))

-- the first entry
pub starts : (v : List HistoryEntry) (p : Nib) (ask : HistoryEntry) → Moves IsKept shown moved 0 (v, (p, None)) (λ n. either (n == 0) 1 n) (Starts (step 0 0 1 ask) (v, (p, None)))
starts v p ask [] log kept pre away = absurd (off kept.0)
starts v p ask ((zero, b) ∷ cs) log kept pre away =
    let none : log ≡ [] = kept.2 refl in
    let kept' : IsKept ((1, true) ∷ cs) (log ++ ask ∷ []) = subst (λ (l : List HistoryEntry). IsKept ((1, true) ∷ cs) (l ++ ask ∷ [])) (sym none) (refl, tt, λ z. absurd (omega arith)) in
    (omega arith, kept.0, (keeps, ask ∷ [], None, tt, kept', inl (refl, refl), λ _. ap (λ (l : List HistoryEntry). l ++ ask ∷ []) none))
starts v p ask ((suc n, b) ∷ cs) log kept pre away =
    let set : ((either (suc n == 0) 1 (suc n), true) ∷ cs) ≡ ((suc n, b) ∷ cs) = λ i. (value_suc n i, sym kept.0 i) ∷ cs in
    let kept' : IsKept ((either (suc n == 0) 1 (suc n), true) ∷ cs) (log ++ []) = subst (λ (x : List Cell). IsKept x (log ++ [])) (sym set) (subst (IsKept ((suc n, b) ∷ cs)) (sym (append-nil log)) kept) in
    (omega arith, kept.0, (keeps, [], None, tt, kept', inl (refl, refl), λ z. absurd (omega arith)))

-- what a longer log says of changes
rest_longer : (xs ys : List HistoryEntry) → IsPrefix xs ys → IsPrefix (after_first xs) (after_first ys)
rest_longer [] ys p = (after_first ys, refl)
rest_longer (x ∷ xs) [] p = absurd (cc (p.1))
rest_longer (x ∷ xs) (y ∷ ys) p = (p.0, cc (p.1))

flat_map_longer : (f : HistoryEntry → List PlainChange) (xs ys : List HistoryEntry) → IsPrefix xs ys → IsPrefix (flat_map f xs) (flat_map f ys)
flat_map_longer f xs ys p = (flat_map f p.0, sym (flat_map-append f xs p.0) ∙ ap (flat_map f) p.1)

sum_by_longer : (f : HistoryEntry → ℕ) (xs ys : List HistoryEntry) → IsPrefix xs ys → sum_by f xs ≤ sum_by f ys
sum_by_longer f xs ys p = omega (arith, sum_by-append f xs p.0, ap (sum_by f) p.1)

pub past_begins : (xs ys : List HistoryEntry) → IsPrefix xs ys → Begins (past_of xs) (past_of ys)
past_begins xs ys p =
    let q = rest_longer xs ys p in
    (flat_map_longer (λ (e : HistoryEntry). option_to_list e.change) (after_first xs) (after_first ys) q, sum_by_longer (λ (e : HistoryEntry). if e.acked then 1 else 0) (after_first xs) (after_first ys) q)

pub shown_rises : (xs ys : List HistoryEntry) → IsPrefix xs ys → shown_of xs ≤ shown_of ys
shown_rises xs ys p = sum_by_longer (λ (e : HistoryEntry). e.shown) (after_first xs) (after_first ys) (rest_longer xs ys p)

-- one more entry after the first
pub tip_of-push : (log : List HistoryEntry) (e : HistoryEntry) → 0 < length log → tip_of (log ++ e ∷ []) ≡ with_entry (tip_of log) e.change e.acked e.shown
tip_of-push [] e some = absurd (omega (arith, some))
tip_of-push (x ∷ log) e some = λ i. record { front = front i; acked = acked i; shown = shown i } where
  front : flat_map (λ (d : HistoryEntry). option_to_list d.change) (log ++ e ∷ []) ≡ flat_map (λ (d : HistoryEntry). option_to_list d.change) log ++ option_to_list e.change
  front = flat_map-append (λ (d : HistoryEntry). option_to_list d.change) log (e ∷ []) ∙ ap (λ (l : List PlainChange). flat_map (λ (d : HistoryEntry). option_to_list d.change) log ++ l) (append-nil (option_to_list e.change))

  acked : sum_by (λ (d : HistoryEntry). if d.acked then 1 else 0) (log ++ e ∷ []) ≡ sum_by (λ (d : HistoryEntry). if d.acked then 1 else 0) log + (if e.acked then 1 else 0)
  acked = sum_by_push (λ (d : HistoryEntry). if d.acked then 1 else 0) log e

  shown : sum_by (λ (d : HistoryEntry). d.shown) (log ++ e ∷ []) ≡ sum_by (λ (d : HistoryEntry). d.shown) log + e.shown
  shown = sum_by_push (λ (d : HistoryEntry). d.shown) log e

-- of two fronts of one history the one with no more changes begins the other
pub front_begins : (xs ys zs : List HistoryEntry) → IsPrefix xs zs → IsPrefix ys zs → length (past_of xs).front ≤ length (past_of ys).front → IsPrefix (past_of xs).front (past_of ys).front
front_begins xs ys zs p q le = prefix_shorter (past_of xs).front (past_of ys).front (past_of zs).front (past_begins xs zs p).0 (past_begins ys zs q).0 le

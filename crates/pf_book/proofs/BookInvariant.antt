-- A Book's invariant, after each thing that changes the Book.
use Rattle.std.proofs.{Common.{◌≡◌, inl, inr, ℕ, ◌+◌, ◌<◌, ◌≤◌, ◌^◌, Bool, true, false, List, [], ◌∷◌, ◌++◌, length, take, drop, refl, ap, sym, ◌∙◌, subst, append-nil, arith, Result}, lemmas.{Bool.Decides.nat_tests, List.{length-append, take_all, take-append-le}, List.Sums.{fold-append}}}
use Rattle.std.specs.Prelude.{sum, MatchBool}
use mathlib.Core.List.{IsPrefix}
use Rattle.pf_disk.specs.Disk.{IsImage}
use Rattle.pf_ticket.specs.Laws.Tickets.{IsWithin as AreTicketsWithin}
use Rattle.pf_core.specs.declared.{command.Command.Command, group.TheConstants.GROUP_LIMIT, reply.Refusal.Refusal, step.Step.Step}
use Rattle.pf_core.specs.{Commands.step_by, Durable.Changes.{PlainDurable, PlainChange, applied, after}, WorldBooks.{WorldBook, IsFolded}, Refusals.OrMemory, Cores.{PlainCore, stepped}, Worlds.{flat, grouped}}
use Rattle.pf_store.specs.{Openings.{IsNoLaterThan, LeavesRoom}, Rooms.on_device, Stores.{Holds, HoldsEither, IsRoomy}, StoreKept.{Stands, PlainStore}}
use Rattle.pf_view.specs.Past.Pasts.{PlainFront, PlainTip, no_changes, all_acked, front_of}
use Rattle.pf_view.specs.Seers.{PlainShower}
use Rattle.pf_book.specs.{Books.{BookParts, parts_of, cut, world_book_of, BookHasRoom, HoldsFront, IsOpened, IsBook, shows_all}}
use Rattle.pf_book.proofs.Openable.{later}
use Rattle.pf_book.proofs.Wanting.{stepped-within}
use Rattle.pf_book.proofs.HistoryGroups.{acked-is, flat-acked, cut-still, flat-more, grouped-some, left-group, taken-still, prefix_is, prefix_short, prefix_take, IsGrown, grown-cuts, grown-length, grown-all, grown-flat}

-- ---- world books

-- a world book that shows all that was acknowledged
pub shows-acked : {D : Type 0} (p : BookParts D) (shower : PlainShower) → sum p.sizes ≡ p.acked → shower.shown ≡ take p.acked p.log → world_book_of (record p { shower = shower }) ≡ shows_all (world_book_of p)
shows-acked p shower cuts is = ap (λ (l : List PlainChange). record (world_book_of p) { shown = length l; published = after p.base l }) (is ∙ sym (flat-acked p.log p.sizes p.acked cuts))

-- and one that shows all of it or no more than before
pub shows-either : {D : Type 0} (p : BookParts D) (shower : PlainShower) (b : Bool) → sum p.sizes ≡ p.acked → MatchBool b (shower.shown ≡ take p.acked p.log) (shower.shown ≡ p.shower.shown)
    → MatchBool b (world_book_of (record p { shower = shower }) ≡ shows_all (world_book_of p)) (world_book_of (record p { shower = shower }) ≡ world_book_of p)
shows-either p shower true cuts is = shows-acked p shower cuts is
shows-either p shower false cuts is = ap (λ (l : List PlainChange). record (world_book_of p) { shown = length l; published = after p.base l }) is

-- a world book with a pending group at its end
pub with-pending : {D : Type 0} (p : BookParts D) (store : PlainStore D) (log group : List PlainChange) (sizes : List ℕ) → sum p.sizes ≡ p.acked → p.acked ≡ length p.log → log ≡ p.log ++ group → sizes ≡ p.sizes → store.size ≡ p.store.size →
    world_book_of (record p { store = store; log = log; sizes = sizes }) ≡ record (world_book_of p) { pending = grouped group }
with-pending p store log group sizes cuts all logged sized same =
    let P : List (List PlainChange) → List (List PlainChange) → WorldBook = λ front rest. record (world_book_of p) { acked = front; pending = rest } in
    let moved : world_book_of (record p { store = store; log = log; sizes = sizes }) ≡ P (cut p.sizes (p.log ++ group)) (grouped (drop p.acked (p.log ++ group))) =
    λ j. record (world_book_of p) { acked = cut (sized j) (logged j); pending = grouped (drop p.acked (logged j)); setting = on_device p.limit (same j) } in
    moved ∙ ap (λ (gs : List (List PlainChange)). P gs (grouped (drop p.acked (p.log ++ group)))) (cut-still p.sizes p.log group (omega (arith, cuts, all)))
    ∙ ap (P (cut p.sizes p.log)) (ap grouped (left-group p.log group p.acked all))

-- a world book with nothing acknowledged or shown is folded if what is kept is what the opening gave
pub new-folded : {b : WorldBook} → b.whole.durable ≡ b.base → b.acked ≡ [] → b.shown ≡ 0 → b.published ≡ b.base → IsFolded b
new-folded {b} kept none unshown start = record {
  durable = kept ∙ sym (ap (λ (gs : List (List PlainChange)). after b.base (flat gs)) none);
  within = omega (arith, unshown);
  published = start ∙ sym (ap (λ (n : ℕ). after b.base (take n (flat b.acked))) unshown);
}

-- an image that holds what all groups leave holds the front that they are
kept-front : (base k : PlainDurable) (groups : List (List PlainChange)) (c : List ℕ) → k ≡ after base (flat groups) → Holds c k → Holds c (after base (flat (groups ++ [])))
kept-front base k groups c is holds = subst (λ (d : PlainDurable). Holds c d) (is ∙ ap (λ (gs : List (List PlainChange)). after base (flat gs)) (sym (append-nil groups))) holds

-- ---- a Book

module _ {D : Type 0} {seen : D → List ℕ} {unsynced : D → ℕ → Bool} {p : BookParts D} (i : IsBook seen unsynced p) where
  abbrev Each : PlainStore D → (List ℕ → Type 0) → Type 0
  Each store P = (c : List ℕ) → IsImage (seen store.disk) (unsynced store.disk) c → P c

  -- a group was kept
  pub more-book : (store : PlainStore D) (whole : PlainCore) (durable : PlainDurable) (log : List PlainChange) (sizes : List ℕ) (acked : ℕ) (tip : PlainTip) (front : PlainFront) (group : List PlainChange)
      → IsGrown p log sizes acked group → BookHasRoom (world_book_of p) group → tip.front ≡ p.tip.front ++ group → tip.acked ≡ p.tip.acked + length group → tip.shown ≡ p.tip.shown → front ≡ front_of tip
      → whole.durable ≡ after p.whole.durable group → AreTicketsWithin whole.tickets → durable ≡ whole.durable
      → p.store.halted ≡ false → store.halted ≡ false → Stands seen unsynced store whole.durable → store.generation ≤ p.store.generation + 1
      → Each store (λ c. Holds c whole.durable) → Each store (IsNoLaterThan (store.generation + 1)) → (IsRoomy store.size p.base → Each store LeavesRoom)
      → IsBook seen unsynced (record p { store = store; whole = whole; durable = durable; log = log; sizes = sizes; acked = acked; tip = tip; front = front })
  more-book store whole durable log sizes acked tip front group g room noted counts still same left tickets latest was on stands raised images generations roomy =
      let groups : List (List PlainChange) = cut p.sizes p.log in
      let long : length log ≡ length p.log + length group = grown-length g in
      let all : acked ≡ length log = grown-all g in
      let flat_grown : flat (cut sizes log) ≡ flat groups ++ group = grown-flat g in
      let kept : whole.durable ≡ after p.base (flat (cut sizes log)) =
      left ∙ ap (λ (k : PlainDurable). after k group) i.folded.durable ∙ sym (fold-append applied p.base (flat groups) group) ∙ ap (after p.base) (sym flat_grown) in
      let log_is : tip.front ≡ log = noted ∙ ap (λ (l : List PlainChange). l ++ group) i.log_is ∙ sym g.logged in
      let acked_is : tip.acked ≡ acked = counts ∙ ap (λ (n : ℕ). n + length group) i.acked_is ∙ sym g.counted in
      let total : take acked log ≡ log = take_all acked log (omega (arith, all)) in
      let whole_front : tip.front ≡ take acked log = log_is ∙ sym total in
      let whole_count : tip.acked ≡ length (take acked log) = acked_is ∙ all ∙ ap length (sym total) in
      let tip_is : front_of tip ≡ all_acked (take acked log) = λ j. record { front = whole_front j; acked = whole_count j } in
      record {
        folded = record {
          durable = kept;
          within = omega (arith, i.folded.within, ap length flat_grown, length-append (flat groups) group);
          published = i.folded.published ∙ ap (after p.base) (sym (take-append-le (length p.shower.shown) (flat groups) group i.folded.within) ∙ ap (take (length p.shower.shown)) (sym flat_grown));
        };
        tickets = tickets;
        log_is = log_is;
        acked_is = acked_is;
        front_is = same ∙ tip_is;
        cuts = grown-cuts g;
        low = omega (arith, all);
        high = omega (arith, all);
        halted = on ∙ sym (grind (arith, nat_tests, all));
        stands = λ h. stands;
        early = λ h. omega (arith, raised, i.early was, long, g.some);
        limit = i.limit;
        few = omega (arith, room.few, long, ap length (acked-is p.log p.sizes p.acked i.cuts g.all));
        images = λ c image. (0, kept-front p.base whole.durable (cut sizes log) c kept (images c image));
        generations = generations;
        roomy = roomy;
        offered_low = omega (arith, i.offered_low, g.counted);
        offered_is = i.offered_is ∙ sym (ap (take p.offered) g.logged ∙ taken-still p.log group p.offered (omega (arith, i.offered_low, i.low)));
        shown_is = i.shown_is;
        noted = still ∙ i.noted;
        latest = latest;
      }

  -- while a group is pending an image holds a front of the history, if it holds what is kept or what the group leaves
  either-front : (group : List PlainChange) → p.acked ≡ length p.log → 0 < length group → (c : List ℕ) → HoldsEither p.whole.durable (after p.whole.durable group) c → HoldsFront (world_book_of (record p { log = p.log ++ group })) c
  either-front group all some c (inl before) =
      let groups : List (List PlainChange) = cut p.sizes (p.log ++ group) in
      (0, kept-front p.base p.whole.durable groups c (i.folded.durable ∙ ap (λ (gs : List (List PlainChange)). after p.base (flat gs)) (sym (cut-still p.sizes p.log group (omega (arith, i.cuts, i.low))))) before)
  either-front group all some c (inr next) =
      let groups : List (List PlainChange) = cut p.sizes (p.log ++ group) in
      let same : groups ≡ cut p.sizes p.log = cut-still p.sizes p.log group (omega (arith, i.cuts, i.low)) in
      let pending : take 1 (grouped (drop p.acked (p.log ++ group))) ≡ group ∷ [] = ap (λ (l : List PlainChange). take 1 (grouped l)) (left-group p.log group p.acked all) ∙ ap (take 1) (grouped-some group some) in
      let is : after p.whole.durable group ≡ after p.base (flat (groups ++ take 1 (grouped (drop p.acked (p.log ++ group))))) =
      ap (λ (k : PlainDurable). after k group) i.folded.durable ∙ sym (fold-append applied p.base (flat (cut p.sizes p.log)) group) ∙ ap (after p.base) (sym (flat-more (cut p.sizes p.log) group))
      ∙ ap (λ (gs : List (List PlainChange)). after p.base (flat (gs ++ group ∷ []))) (sym same) ∙ ap (λ (gs : List (List PlainChange)). after p.base (flat (groups ++ gs))) (sym pending) in
      (1, subst (λ (k : PlainDurable). Holds c k) is next)

  -- the device failed while a group was being kept
  pub fault-book : (store : PlainStore D) (log : List PlainChange) (sizes : List ℕ) (tip : PlainTip) (group : List PlainChange)
      → p.acked ≡ length p.log → 0 < length group → length group ≤ GROUP_LIMIT → BookHasRoom (world_book_of p) group → log ≡ p.log ++ group → sizes ≡ p.sizes
      → tip.front ≡ p.tip.front ++ group → tip.acked ≡ p.tip.acked → tip.shown ≡ p.tip.shown → store.halted ≡ true
      → Each store (HoldsEither p.whole.durable (after p.whole.durable group)) → Each store (IsNoLaterThan (store.generation + 1)) → (IsRoomy store.size p.base → Each store LeavesRoom)
      → IsBook seen unsynced (record p { store = store; log = log; sizes = sizes; tip = tip })
  fault-book store log sizes tip group all some few room logged sized noted counts still off images generations roomy =
      let long : length (p.log ++ group) ≡ length p.log + length group = length-append p.log group in
      let same : flat (cut p.sizes (p.log ++ group)) ≡ flat (cut p.sizes p.log) = ap flat (cut-still p.sizes p.log group (omega (arith, i.cuts, i.low))) in
      let out : store.halted ≡ false → ⊥ = λ h. cc (h, off) in
      rw (logged, sized) (record {
        folded = record {
          durable = i.folded.durable ∙ ap (after p.base) (sym same);
          within = omega (arith, i.folded.within, ap length same);
          published = i.folded.published ∙ ap (λ (l : List PlainChange). after p.base (take (length p.shower.shown) l)) (sym same);
        };
        tickets = i.tickets;
        log_is = noted ∙ ap (λ (l : List PlainChange). l ++ group) i.log_is;
        acked_is = counts ∙ i.acked_is;
        front_is = i.front_is ∙ ap all_acked (sym (taken-still p.log group p.acked i.low));
        cuts = i.cuts;
        low = omega (arith, i.low, long);
        high = omega (arith, all, few, long);
        halted = off ∙ sym (grind (arith, nat_tests, all, long, some));
        stands = λ h. absurd (out h);
        early = λ h. absurd (out h);
        limit = i.limit;
        few = omega (arith, room.few, long, ap length (acked-is p.log p.sizes p.acked i.cuts all));
        images = λ c image. either-front group all some c (images c image);
        generations = generations;
        roomy = roomy;
        offered_low = i.offered_low;
        offered_is = i.offered_is ∙ sym (taken-still p.log group p.offered (omega (arith, i.offered_low, i.low)));
        shown_is = i.shown_is;
        noted = still ∙ i.noted;
        latest = i.latest;
      })

  -- the core keeps the same, and more is offered, and perhaps shown
  again-book : (whole : PlainCore) (offered : ℕ) (shower : PlainShower) (tip : PlainTip) → whole.durable ≡ p.whole.durable → AreTicketsWithin whole.tickets → offered ≤ p.acked → shower.offered ≡ take offered p.log → IsPrefix shower.shown shower.offered → front_of tip ≡ front_of p.tip → tip.shown ≡ length shower.shown
      → IsBook seen unsynced (record p { whole = whole; offered = offered; shower = shower; tip = tip })
  again-book whole offered shower tip kept tickets low is begins same noted =
      let acked : flat (cut p.sizes p.log) ≡ take p.acked p.log = flat-acked p.log p.sizes p.acked i.cuts in
      let front : IsPrefix shower.shown (take p.acked p.log) = prefix_take p.log shower.shown offered p.acked low (subst (λ (l : List PlainChange). IsPrefix shower.shown l) is begins) in
      record {
        folded = record {
          durable = kept ∙ i.folded.durable;
          within = omega (arith, prefix_short shower.shown (take p.acked p.log) front, ap length acked);
          published = ap (after p.base) (prefix_is shower.shown (take p.acked p.log) front ∙ ap (take (length shower.shown)) (sym acked));
        };
        tickets = tickets;
        log_is = ap (λ (f : PlainFront). f.front) same ∙ i.log_is;
        acked_is = ap (λ (f : PlainFront). f.acked) same ∙ i.acked_is;
        front_is = i.front_is;
        cuts = i.cuts;
        low = i.low;
        high = i.high;
        halted = i.halted;
        stands = λ h. subst (λ (k : PlainDurable). Stands seen unsynced p.store k) (sym kept) (i.stands h);
        early = i.early;
        limit = i.limit;
        few = i.few;
        images = i.images;
        generations = i.generations;
        roomy = i.roomy;
        offered_low = low;
        offered_is = is;
        shown_is = begins;
        noted = noted;
        latest = i.latest ∙ sym kept;
      }

  pub shown-book : (shower : PlainShower) (tip : PlainTip) → shower.offered ≡ take p.acked p.log → IsPrefix shower.shown shower.offered → front_of tip ≡ front_of p.tip → tip.shown ≡ length shower.shown
      → IsBook seen unsynced (record p { offered = p.acked; shower = shower; tip = tip })
  shown-book shower tip is begins same noted = again-book p.whole p.acked shower tip refl i.tickets (omega arith) is begins same noted

  -- a step of the core
  pub stepped-book : (whole : PlainCore) (c : Command) (takes : Bool) (r : Result Step Refusal) → OrMemory takes r (step_by p.whole.tickets p.whole.durable c) → whole ≡ stepped p.whole c r → IsBook seen unsynced (record p { whole = whole })
  stepped-book whole c takes r steps left =
      rw left (again-book (stepped p.whole c r) p.offered p.shower p.tip refl (stepped-within p.whole.tickets p.whole.durable c takes r steps i.tickets) i.offered_low i.offered_is i.shown_is refl i.noted)

-- a new Book
pub new-book : {D : Type 0} {seen : D → List ℕ} {unsynced : D → ℕ → Bool} (store : PlainStore D) (base : PlainDurable) (whole : PlainCore) (d : PlainDurable) (log : List PlainChange) (sizes : List ℕ) (limit : ℕ) (shower : PlainShower) (tip : PlainTip) (front : PlainFront)
    → IsOpened seen unsynced store d → log ≡ [] → sizes ≡ [] → tip ≡ no_changes → front ≡ all_acked [] → d ≡ base → whole.durable ≡ d → AreTicketsWithin whole.tickets → limit ≤ 2 ^ 20 → shower.shown ≡ [] → shower.offered ≡ []
    → IsBook seen unsynced (parts_of store base whole d log sizes 0 0 limit shower tip front)
new-book {seen} {unsynced} store base whole d log sizes limit shower tip front o none uncut empty start same kept tickets low shown offered = rw (none, uncut) (record {
  folded = new-folded (kept ∙ same) refl (ap length shown) (ap (after base) shown);
  tickets = tickets;
  log_is = ap (λ (t : PlainTip). t.front) empty;
  acked_is = ap (λ (t : PlainTip). t.acked) empty;
  front_is = start;
  cuts = refl;
  low = omega arith;
  high = omega arith;
  halted = o.goes_on;
  stands = λ h. subst (λ (k : PlainDurable). Stands seen unsynced store k) (sym kept) o.stands;
  early = λ h. omega (arith, o.early);
  limit = low;
  few = omega arith;
  images = λ c image. (0, subst (λ (k : PlainDurable). Holds c k) same (o.images c image));
  generations = λ c image. later store.generation (store.generation + 1) (omega arith) c (o.generations c image);
  roomy = λ room. o.roomy (subst (λ (k : PlainDurable). IsRoomy store.size k) (sym same) room);
  offered_low = omega arith;
  offered_is = offered;
  shown_is = subst (λ (l : List PlainChange). IsPrefix l shower.offered) (sym shown) (shower.offered, refl);
  noted = ap (λ (t : PlainTip). t.shown) empty ∙ ap length (sym shown);
  latest = sym kept;
})

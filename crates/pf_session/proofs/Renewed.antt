-- What a Book's device gives that is opened again.
use Rattle.std.proofs.Common.{◌≡◌, ◌∙◌, ℕ, ◌<◌, ◌≤◌, Bool, List, [], ◌∷◌, ◌++◌, length, take, Result, Ok, Err, refl, sym, ap, subst, append-nil}
use Rattle.std.proofs.lemmas.List.Elements.{All-nil, All-weaker}
use Rattle.std.specs.Prelude.{All, IfOk}
use mathlib.Core.List.{IsPrefix}
use Rattle.pf_disk.specs.Disk.{IsImage}
use Rattle.pf_core.specs.{Durable.Changes.{PlainChange, PlainDurable, after}, Laws.Openings.Leaves, WorldBooks.{IsAt, IsFolded, StandsFor, WorldBook}, Worlds.{CurrentOpening, Event, Setting, begun, crashed, down, flat, idle, last_epoch, opened, raised}}
use Rattle.pf_core.proofs.{LongerWorlds.{crashes_are_events, stands-by}, Prefixes.flat-append}
use Rattle.pf_store.specs.Stores.{Holds}
use Rattle.pf_store.proofs.Refusing.{one_held}
use Rattle.pf_view.specs.Seers.{PlainSeer}
use Rattle.pf_view.proofs.Prefixes.{prefix_shorter, prefix_trans}
use Rattle.pf_book.specs.Books.{HoldsLeft, PlainBook, PlainOpening, log_in, world_book}
use Rattle.pf_session.specs.Renewing.{KnowsWithin, RenewsBook}

-- the opening of a Book, as far as it has come
abbrev pub opening_in : WorldBook → CurrentOpening
opening_in b = record { setting = b.setting; base = b.base; tickets = b.whole.tickets; acked = b.acked; pending = b.pending; shown = b.shown; sights = [] }

pub at-itself : (b : WorldBook) → IsAt (opening_in b) b
at-itself b = record { base = refl; tickets = refl; acked = refl; pending = refl; shown = refl; setting = refl }

-- a seer saw and learnt no more than what was acknowledged
pub record IsCovered (b : WorldBook) (known : PlainSeer) : Type 0 where
  pub seen : IsPrefix known.seen (log_in b)
  pub seen_acked : length known.seen ≤ length (flat b.acked)
  pub learnt : IsPrefix known.learnt (log_in b)
  pub learnt_acked : length known.learnt ≤ length (flat b.acked)

prefix-more : (groups others : List (List PlainChange)) → IsPrefix (flat groups) (flat (groups ++ others))
prefix-more groups others = (flat others, sym (flat-append groups others))

within : (b : WorldBook) (n : ℕ) (xs : List PlainChange) → IsPrefix xs (log_in b) → length xs ≤ length (flat b.acked) → IsPrefix xs (flat (b.acked ++ take n b.pending))
within b n xs begins few =
    let acked : IsPrefix xs (flat b.acked) = prefix_shorter xs (flat b.acked) (log_in b) begins (prefix-more b.acked b.pending) few in
    prefix_trans xs (flat b.acked) (flat (b.acked ++ take n b.pending)) acked (prefix-more b.acked (take n b.pending))

knows-all : (b : WorldBook) (n : ℕ) (all : List PlainSeer) → All (IsCovered b) all → All (KnowsWithin (flat (b.acked ++ take n b.pending))) all
knows-all b n all covered = All-weaker (IsCovered b) (KnowsWithin (flat (b.acked ++ take n b.pending)))
    (λ known c. (within b n known.seen c.seen c.seen_acked, within b n known.learnt c.learnt c.learnt_acked)) all covered

-- what a seer of a closed Book knows was acknowledged in it
pub record IsKnown (acked : List PlainChange) (known : PlainSeer) : Type 0 where
  pub seen : IsPrefix known.seen acked
  pub learnt : IsPrefix known.learnt acked

pub known-within : (acked front : List PlainChange) (all : List PlainSeer) → IsPrefix acked front → All (IsKnown acked) all → All (KnowsWithin front) all
known-within acked front all has known = All-weaker (IsKnown acked) (KnowsWithin front)
    (λ seer k. (prefix_trans seer.seen acked front k.seen has, prefix_trans seer.learnt acked front k.learnt has)) all known

-- what is given is the fold of a front that has all that these seers know
pub renewed : (b : WorldBook) (image : List ℕ) (d given : PlainDurable) (all : List PlainSeer) → HoldsLeft (opening_in b) idle image → Holds image d → given ≡ raised d → All (IsCovered b) all
    → (front : List PlainChange) × RenewsBook b front given × All (KnowsWithin front) all
renewed b image d given all (held, holds, (n, is)) read raises covered =
    let same : held ≡ d = one_held image held d holds read in
    let kept : after b.base (flat (b.acked ++ take n (b.pending ++ []))) ≡ held = cc (is) in
    let fold : d ≡ after b.base (flat (b.acked ++ take n b.pending)) =
    sym same ∙ sym kept ∙ ap (λ (l : List (List PlainChange)). after b.base (flat (b.acked ++ take n l))) (append-nil b.pending) in (
      flat (b.acked ++ take n b.pending),
      record { kept = n; front_is = refl; renews = raises ∙ ap raised fold },
      knows-all b n all covered,
    )

-- what a Book stood for, its next opening stands for with a crash and an opening at the end
stands-renewed : (b next : WorldBook) (image : List ℕ) (d given first : PlainDurable) (world : List Event) (setting : Setting) → ((h : CurrentOpening) → IsAt h b → HoldsLeft h idle image) → Holds image d → given ≡ raised d → d.epoch < last_epoch
    → StandsFor first b world → IsAt (begun setting given) next → IsFolded next → (n : ℕ) × StandsFor first next ((world ++ crashed idle n ∷ []) ++ opened setting ∷ [])
stands-renewed b next image d given first world setting left holds raises low stands at folded =
    let (kept, keeps, leaves) = left stands.held stands.at in
    let same : kept ≡ d = one_held image kept d keeps holds in
    let (n, legal, comes) = crashes_are_events first world stands.held idle d stands.legal stands.comes (subst (λ (k : PlainDurable). Leaves stands.held idle k) same leaves) in
    let here : IsAt (begun setting (raised d)) next = subst (λ (k : PlainDurable). IsAt (begun setting k) next) raises at in
    (n, stands-by first next (world ++ crashed idle n ∷ []) (opened setting) (down d) (begun setting (raised d)) legal comes low refl here folded)

-- ---- a Book, and what its device gives

module _ {D : Type 0} (seen : D → List ℕ) (unsynced : D → ℕ → Bool) (b : PlainBook D) (disk : D) (same : disk ≡ b.disk)
    (images : (h : CurrentOpening) → IsAt h (world_book b) → (image : List ℕ) → IsImage (seen b.disk) (unsynced b.disk) image → HoldsLeft h idle image) where
  -- the device as it reads is an image of it
  left-now : (h : CurrentOpening) → IsAt h (world_book b) → HoldsLeft h idle (seen disk)
  left-now h at = subst (λ (d : D). HoldsLeft h idle (seen d)) (sym same) (images h at (seen b.disk) (record { same_length = refl; agrees = λ i out. refl }))

  -- what an opening of it gives
  abbrev pub Opened : PlainOpening D → Type 0
  Opened o = (d : PlainDurable) × Holds (seen disk) d × (o.given ≡ raised d) × (d.epoch < last_epoch)

  pub gives : {E : Type 0} (r : Result (PlainOpening D) E) (known : List PlainSeer) → All (IsCovered (world_book b)) known → IfOk r Opened
      → IfOk r (λ o. (front : List PlainChange) × RenewsBook (world_book b) front o.given × All (KnowsWithin front) known)
  gives (Ok o) known covered (d, holds, raises, low) = renewed (world_book b) (seen disk) d o.given known (left-now (opening_in (world_book b)) (at-itself (world_book b))) holds raises covered
  gives (Err e) known covered none = tt

  -- the front has all that was acknowledged
  has-acked : (o : PlainOpening D) (acked : List PlainChange) → acked ≡ flat b.acked → (front : List PlainChange) × RenewsBook (world_book b) front o.given × All (KnowsWithin front) []
      → (front : List PlainChange) × RenewsBook (world_book b) front o.given × IsPrefix acked front
  has-acked o acked is (front, renews, none) =
      (front, renews, subst (λ (l : List PlainChange). IsPrefix l front) (sym is) (subst (λ (l : List PlainChange). IsPrefix (flat b.acked) l) (sym renews.front_is) (prefix-more b.acked (take renews.kept b.pending))))

  pub gives-acked : {E : Type 0} (r : Result (PlainOpening D) E) (acked : List PlainChange) → acked ≡ flat b.acked → IfOk r Opened
      → IfOk r (λ o. (front : List PlainChange) × RenewsBook (world_book b) front o.given × IsPrefix acked front)
  gives-acked (Ok o) acked is (d, holds, raises, low) =
      has-acked o acked is (renewed (world_book b) (seen disk) d o.given [] (left-now (opening_in (world_book b)) (at-itself (world_book b))) holds raises (All-nil (IsCovered (world_book b))))
  gives-acked (Err e) acked is none = tt

  pub goes-on : {E : Type 0} (r : Result (PlainOpening D) E) → IfOk r Opened
      → IfOk r (λ o. (first : PlainDurable) (world : List Event) (setting : Setting) (next : WorldBook) → StandsFor first (world_book b) world → IsAt (begun setting o.given) next → IsFolded next
      → (n : ℕ) × StandsFor first next ((world ++ crashed idle n ∷ []) ++ opened setting ∷ []))
  goes-on (Ok o) (d, holds, raises, low) = λ first world setting next stands at folded. stands-renewed (world_book b) next (seen disk) d o.given first world setting left-now holds raises low stands at folded
  goes-on (Err e) none = tt

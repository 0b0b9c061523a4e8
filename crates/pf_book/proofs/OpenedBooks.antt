-- What a proof knows of a Book once a function has read its fields: `p` are its parts, and contracts see it as `now`.
use Rattle.std.proofs.Common.{◌≡◌, inl, ℕ, ◌≤◌, Bool, false, List, [], length, take, refl, ap, sym, ◌∙◌, subst, arith}
use mathlib.Core.List.{IsPrefix}
use Rattle.pf_disk.specs.{Disk.IsImage, Runs.MayWrite, declared.disk.Disk.Ghosts}
use Rattle.pf_disk.proofs.Writing.{unmoved}
use Rattle.pf_core.specs.declared.reply.Reply.{Reply}
use Rattle.pf_core.specs.{Durable.Changes.{PlainChange, after}, Nexts.PlainNext, Cores.PlainCore, WorldBooks.{IsAt, IsFolded}, Worlds.{CurrentOpening, Doing, flat, idle}}
use Rattle.pf_store.specs.{Stores.{Holds, HoldsEither}, StoreKept.PlainStore}
use Rattle.pf_view.specs.Past.Pasts.{PlainFront, Begins, front_of}
use Rattle.pf_view.proofs.Prefixes.{prefix_trans}
use Rattle.pf_book.specs.Receipts.{ShownFits, token_of}
use Rattle.pf_book.specs.Books.{BookParts, PlainBook, cut, book_of, world_book, world_book_of, BookHasRoom, HoldsLeft, IsBook, IsLeft, IsOfCall, UsesDevice, left_together, log_in}
use Rattle.pf_book.proofs.{Calling.{front-all, front-left}, LockedCalls.token-is, HistoryGroups.{acked-is, all-acked, counted-acked, goes-on, take_begins, whole-log}}

-- the parts of a Book with this invariant
abbrev pub parts : {D : Type 0} {seen : D → List ℕ} {unsynced : D → ℕ → Bool} {p : BookParts D} → IsBook seen unsynced p → BookParts D
parts {p} i = p

module _ {D : Type 0} {seen : D → List ℕ} {unsynced : D → ℕ → Bool} {p : BookParts D} {now : PlainBook D} (i : IsBook seen unsynced p) (is : book_of p ≡ now) where
  pub log-of : log_in (world_book now) ≡ p.log
  log-of = ap (λ (b : PlainBook D). log_in (world_book b)) (sym is) ∙ whole-log p.log p.sizes p.acked i.cuts

  pub acked-of : p.acked ≡ length (flat now.acked)
  acked-of = counted-acked p.log p.sizes p.acked i.cuts i.low ∙ ap (λ (b : PlainBook D). length (flat b.acked)) is

  pub disk-of : now.disk ≡ p.store.disk
  disk-of = ap (λ (b : PlainBook D). b.disk) (sym is)

  pub folded-of : IsFolded (world_book now)
  folded-of = subst (λ (b : PlainBook D). IsFolded (world_book b)) is i.folded

  -- with a core that is as before
  pub core-of : (whole : PlainCore) → whole ≡ p.whole → book_of (record p { whole = whole }) ≡ now
  core-of whole same = ap (λ (w : PlainCore). book_of (record p { whole = w })) same ∙ is

  -- it begins with a front of its tip, of which no more is acknowledged
  pub begins-of : (past : PlainFront) → Begins past (front_of p.tip) → IsPrefix past.front (log_in (world_book now))
  begins-of past begins = subst (λ (l : List PlainChange). IsPrefix past.front l) (i.log_is ∙ sym log-of) begins.0

  pub within-of : (past : PlainFront) → Begins past (front_of p.tip) → past.acked ≤ length (flat now.acked)
  within-of past begins = omega (arith, begins.1, i.acked_is, acked-of)

  -- what is shown begins the history, so it is all of it if it is as long
  pub token-of : (r : Reply) → ShownFits r now.shown (length (log_in (world_book now))) → token_of r p.shower.shown ≡ token_of r (log_in (world_book now))
  token-of r fits =
      let begins : IsPrefix p.shower.shown p.log = prefix_trans p.shower.shown (take p.offered p.log) p.log (subst (λ (l : List PlainChange). IsPrefix p.shower.shown l) i.offered_is i.shown_is) (take_begins p.log p.offered) in
      token-is r p.shower.shown p.log begins (subst (λ (b : PlainBook D). ShownFits r b.shown (length p.log)) (sym is) (subst (λ (l : List PlainChange). ShownFits r now.shown (length l)) log-of fits)) ∙ ap (token_of r) (sym log-of)

  -- what changes leave
  pub left-of : (next : PlainNext) (es : List PlainChange) → next ≡ left_together now.whole.durable es → next.durable ≡ after p.whole.durable es
  left-of next es made = ap (λ (n : PlainNext). n.durable) made ∙ ap (λ (b : PlainBook D). after b.whole.durable es) (sym is)

  pub room-of : (es : List PlainChange) → BookHasRoom (world_book now) es → BookHasRoom (world_book_of p) es
  room-of es = subst (λ (b : PlainBook D). BookHasRoom (world_book b) es) (sym is)

  -- all that a world sees is as before
  pub same-of : (store : PlainStore D) (log : List PlainChange) (sizes : List ℕ) → store ≡ p.store → log ≡ p.log → sizes ≡ p.sizes → world_book_of (record p { store = store; log = log; sizes = sizes }) ≡ world_book now
  same-of store log sizes stored logged sized =
      let same : world_book_of (record p { store = store; log = log; sizes = sizes }) ≡ world_book_of p = λ j. world_book_of (record p { store = stored j; log = logged j; sizes = sized j }) in
      same ∙ ap (λ (b : PlainBook D). world_book b) is

  -- each image holds what a crash then leaves
  pub images-of : (h : CurrentOpening) → IsAt h (world_book now) → (c : List ℕ) → IsImage (seen now.disk) (unsynced now.disk) c → HoldsLeft h idle c
  images-of = subst (λ (b : PlainBook D). (h : CurrentOpening) → IsAt h (world_book b) → (c : List ℕ) → IsImage (seen b.disk) (unsynced b.disk) c → HoldsLeft h idle c) is
      (λ h at c image. front-left h (world_book_of p) idle c at (i.images c image))

  -- nothing is pending
  module _ (free : now.pending ≡ []) where
    pub none-of : (world_book_of p).pending ≡ []
    none-of = ap (λ (b : PlainBook D). b.pending) is ∙ free

    pub all-of : p.acked ≡ length p.log
    all-of = all-acked p.log p.acked i.low none-of

    pub flat-of : flat (cut p.sizes p.log) ≡ p.log
    flat-of = acked-is p.log p.sizes p.acked i.cuts all-of

    pub going-of : p.store.halted ≡ false
    going-of = goes-on p.store.halted p.log p.acked i.halted all-of

    -- so each image holds what is kept
    pub either-of : (es : List PlainChange) (c : List ℕ) → IsImage (seen p.store.disk) (unsynced p.store.disk) c → HoldsEither now.whole.durable (after now.whole.durable es) c
    either-of es c image = inl (subst (λ (b : PlainBook D). Holds c b.whole.durable) is (front-all (world_book_of p) i.folded none-of c (i.images c image)))

  -- each image holds what some crash leaves
  pub left-in : (doing : Doing) (c : List ℕ) → IsImage (seen p.store.disk) (unsynced p.store.disk) c → IsLeft (world_book now) doing c
  left-in doing c image = subst (λ (b : PlainBook D). IsLeft (world_book b) doing c) is (record { left = λ h at. front-left h (world_book_of p) doing c at (i.images c image) })

-- no call of the device was made
module _ {D : Type 0} (device : Ghosts D) {p : BookParts D} {now : PlainBook D} (i : IsBook device.seen device.unsynced p) (is : book_of p ≡ now) {P : List ℕ → Type 0}
    (only : (c : List ℕ) → device.left_since p.store.disk (device.moment p.store.disk) c → IsImage (device.seen p.store.disk) (device.unsynced p.store.disk) c)
    (here : (c : List ℕ) → IsImage (device.seen p.store.disk) (device.unsynced p.store.disk) c → P c) where
  pub quiet-of : (new : PlainBook D) → new.disk ≡ p.store.disk → new.generation ≡ p.store.generation → new.size ≡ p.store.size → UsesDevice device false now new P
  quiet-of new disk generation size =
      subst (λ (l : PlainBook D). UsesDevice device false l new P) is (record {
        run = subst (λ (d : D). MayWrite device p.store.disk d 10 false (IsOfCall (book_of p) P)) (sym disk)
            (unmoved device p.store.disk {P = IsOfCall (book_of p) P} only (λ c image. record { holds = here c image; early = i.generations c image; roomy = λ room. i.roomy room c image }));
        stays = omega (arith, generation);
        one_more = omega (arith, generation);
        size = size;
      })

  pub rests-of : UsesDevice device false now now P
  rests-of = subst (λ (l : PlainBook D). UsesDevice device false now l P) is (quiet-of (book_of p) refl refl refl)

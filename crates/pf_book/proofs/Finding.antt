-- When changes find room on the device together.
use Rattle.std.proofs.{Common.{◌≡◌, ◌<◌, ◌≤◌, ℕ, Bool, true, false, List, [], ◌∷◌, ◌++◌, Ok, Err, length, refl, ap, sym, ◌∙◌, subst, arith}, lemmas.{Bool.Decides.nat_tests, List.length-map, List.Sums.fold-append}}
use Rattle.std.specs.{Prelude.{MatchBool, not, nat_le, ◌==◌}, List.list_all}
use Rattle.pf_core.specs.{Durable.Changes.{PlainDurable, PlainChange, applied, after}, WorldBooks.WorldBook, Worlds.{flat, is_fault}, declared.{group.TheConstants.GROUP_LIMIT, reply.Refusal.Refusal, reply.Refusal.TheVariants.{HistoryFull, Full}}}
use Rattle.pf_store.specs.{Groups.{have_form, has_form, is_group, made_all}, Lengths.payload_length, Rooms.group_fits, Stores.{FindsRoom, HasRoom, HoldsEither}}
use Rattle.pf_store.specs.declared.encoding.recorded.Recorded.TheVariants as recorded
use Rattle.pf_store.proofs.RoomForGroups.{group-fits}
use Rattle.pf_disk.specs.declared.disk.Disk.{Ghosts}
use Rattle.pf_book.specs.{Books.{AreKept, HasNoRoom, IsMore, IsUnkept, PlainBook, UsesDevice, shows_all, world_book}, Courses.KeepsTogether}
use Rattle.pf_book.proofs.Openable.{uses-reported}
use Rattle.std.proofs.lemmas.Bool.{and_parts}

left-is : (base d next : PlainDurable) (groups : List (List PlainChange)) (es : List PlainChange) → d ≡ after base (flat groups) → next ≡ after d es → next ≡ after base (flat groups ++ es)
left-is base d next groups es kept left = left ∙ ap (λ (k : PlainDurable). after k es) kept ∙ sym (fold-append applied base (flat groups) es)

-- the same room, in terms of the base and the groups
room_is_same : (P : Bool → Type 0) (size : ℕ) (base d next : PlainDurable) (groups : List (List PlainChange)) (es : List PlainChange) → d ≡ after base (flat groups) → next ≡ after d es →
    P (group_fits size d next es) → P (group_fits size (after base (flat groups)) (after base (flat groups ++ es)) es)
room_is_same P size base d next groups es kept left p =
    let then : PlainDurable = after base (flat groups ++ es) in
    subst (λ (k : PlainDurable). P (group_fits size k then es)) kept
    (subst (λ (k : PlainDurable). P (group_fits size d k es)) (left-is base d next groups es kept left) p)

-- there is room for the bytes of these changes
abbrev pub FitThere : ℕ → List PlainChange → PlainDurable → PlainDurable → Type 0
FitThere size es d next = HasRoom size d next (payload_length (made_all es))

-- the same of equals
pub same-room : (P : PlainDurable → PlainDurable → Type 0) (d k next left : PlainDurable) → d ≡ k → next ≡ left → P d next → P k left
same-room P d k next left kept is room = subst (λ (x : PlainDurable). P k x) is (subst (λ (x : PlainDurable). P x next) kept room)

pub device-fits : (size : ℕ) (base d next : PlainDurable) (groups : List (List PlainChange)) (es : List PlainChange) → d ≡ after base (flat groups) → next ≡ after d es →
    FindsRoom size d next es → not (group_fits size (after base (flat groups)) (after base (flat groups ++ es)) es) ≡ false
device-fits size base d next groups es kept left found =
    room_is_same (λ (b : Bool). not b ≡ false) size base d next groups es kept left (ap not ((group-fits size d next es).1 found.room))

full-by : (b : Bool) → (b ≡ true → ⊥) → not b ≡ true
full-by true none = absurd (none refl)
full-by false none = refl

pub device-full : (size : ℕ) (base d next : PlainDurable) (groups : List (List PlainChange)) (es : List PlainChange) → d ≡ after base (flat groups) → next ≡ after d es →
    (FitThere size es d next → ⊥) → not (group_fits size (after base (flat groups)) (after base (flat groups ++ es)) es) ≡ true
device-full size base d next groups es kept left none =
    room_is_same (λ (b : Bool). not b ≡ true) size base d next groups es kept left (full-by (group_fits size d next es) (λ fits. none ((group-fits size d next es).0 fits)))

-- ---- a group that has bytes

-- it has a change
pub some-formed : (es : List PlainChange) → have_form (made_all es) ≡ true → 0 < length es
some-formed [] formed = absurd (cc (formed))
some-formed (e ∷ es) formed = omega arith

-- and no more than a group may have
pub few-formed : (es : List PlainChange) → have_form (made_all es) ≡ true → length es ≤ GROUP_LIMIT
few-formed es formed =
    let group : is_group (made_all es) ≡ true = (and_parts (is_group (made_all es)) (list_all has_form (made_all es)) formed).0 in
    let few : nat_le (length (made_all es)) GROUP_LIMIT ≡ true = (and_parts (not (length (made_all es) == 0)) (nat_le (length (made_all es)) GROUP_LIMIT) group).1 in
    let same : length (made_all es) ≡ length es = length-map es recorded.Made in
    grind (arith, nat_tests, few, same)

-- ---- what comes of it

calm : (e : Refusal) (b : WorldBook) (es : List PlainChange) → HasNoRoom e b es → IsUnkept e b b es × (is_fault e ≡ false)
calm HistoryFull b es none = ((refl, none), refl)
calm Full b es none = ((refl, none), refl)
calm e b es none = absurd none

-- changes that find no room leave all as it is
pub unroomed : {D : Type 0} {device : Ghosts D} (b : PlainBook D) (e : Refusal) (es : List PlainChange) → HasNoRoom e (world_book b) es → UsesDevice device false b b (HoldsEither b.whole.durable (after b.whole.durable es))
    → KeepsTogether device b b es (Err e)
unroomed b e es none quiet = let both = calm e (world_book b) es none in record { kept = both.0; uses = uses-reported both.1 quiet; still = λ why is quiet. refl }

-- those that were kept are shown or not
pub kept-then : (shown : Bool) (old kept new : WorldBook) (es : List PlainChange) → IsMore old kept es → MatchBool shown (new ≡ shows_all kept) (new ≡ kept) → AreKept (Ok shown) es old new
kept-then true old kept new es more is = (kept, more, is)
kept-then false old kept new es more is = subst (λ (p : WorldBook). IsMore old p es) (sym is) more

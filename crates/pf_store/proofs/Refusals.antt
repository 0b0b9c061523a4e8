-- An opening that is refused or cut short is an event.
use Rattle.std.proofs.{Common.{◌≡◌, ◌≤◌, ◌<◌, ◌^◌, ◌⊎◌, inl, inr, ℕ, Bool, true, false, List, [], ◌∷◌, ◌++◌, map, refl, sym, ap, ◌∙◌, subst, arith}, lemmas.List.Sums.fold_push}
use Rattle.std.specs.List.{AllByRecursion}
use Rattle.pf_disk.specs.Disk.{IsImage}
use Rattle.pf_form.specs.Bytes.Forms.{Value, Fits}
use Rattle.pf_snap.specs.Banks.{Content}
use Rattle.pf_core.specs.{Durable.{Changes.PlainDurable, Forms.durable_form}, Worlds.{State, down, Event, refused_opening, last_epoch, raised, next, IsLegal, IsLegalFrom, IsWorld, state_after}}
use Rattle.pf_store.specs.declared.encoding.recorded.Recorded.{Recorded}
use Rattle.pf_store.specs.{Groups.{ChangeShape, change_form, group_form, plain_record, record_in, IsRecorded}, Openings.{FollowsOn, IsOfOpening, LeavesRefused}, Stores.{Holds, left_by, left_by_all, Leads, Makes}}
use Rattle.pf_store.proofs.Refusing.{one_held}

-- ---- the epoch of what is held fits in four bytes

read_back_epoch : (version : ℕ) (d : PlainDurable) (v : Value ChangeShape) → Fits (change_form version) v → d.epoch ≤ last_epoch → (left_by d (record_in v)).epoch ≤ last_epoch
unfolding change_form
read_back_epoch version d (inl vs) fits low = low
read_back_epoch version d (inr (inl v)) fits low = low
read_back_epoch version d (inr (inr (inl v))) fits low = low
read_back_epoch version d (inr (inr (inr (inl v)))) fits low = low
read_back_epoch version d (inr (inr (inr (inr (inl steps))))) fits low = low
read_back_epoch version d (inr (inr (inr (inr (inr (inl name)))))) fits low = low
read_back_epoch version d (inr (inr (inr (inr (inr (inr (inl epoch))))))) fits low = omega (arith, fits.0.0.0.0.0.0)
read_back_epoch version d (inr (inr (inr (inr (inr (inr (inr tick))))))) fits low = low

group_epoch : (version : ℕ) (d : PlainDurable) (vs : List (Value ChangeShape)) → AllByRecursion (Fits (change_form version)) vs → d.epoch ≤ last_epoch → (left_by_all d (map record_in vs)).epoch ≤ last_epoch
group_epoch version d [] each low = low
group_epoch version d (v ∷ vs) each low = group_epoch version (left_by d (record_in v)) vs each.1 (read_back_epoch version d v each.0 low)

recorded_epoch : (version : ℕ) (d : PlainDurable) (xs : List Recorded) (payload : List ℕ) → IsRecorded version xs payload → d.epoch ≤ last_epoch → (left_by_all d xs).epoch ≤ last_epoch
unfolding group_form
recorded_epoch version d xs payload is low =
    subst (λ (ys : List Recorded). (left_by_all d ys).epoch ≤ last_epoch) (sym is.read_back) (group_epoch version d (map plain_record xs) is.spelled.fits.0.1 low)

led_epoch : (version : ℕ) (d : PlainDurable) (ps : List (List ℕ)) (e : PlainDurable) → Leads version d ps e → d.epoch ≤ last_epoch → e.epoch ≤ last_epoch
led_epoch version d [] e led low = subst (λ (x : PlainDurable). x.epoch ≤ last_epoch) led low
led_epoch version d (p ∷ ps) e led low = led_epoch version (left_by_all d led.0) ps e led.3 (recorded_epoch version d led.0 p led.1 low)

made_epoch : (content : Content) (d : PlainDurable) → Makes content d → d.epoch ≤ last_epoch
unfolding durable_form
made_epoch content d makes = led_epoch content.version makes.first content.payloads d makes.leads (omega (arith, makes.kept.spelled.fits.0.0))

-- ---- the event

-- what is held in the next epoch was held in one before the last
low_before : (image : List ℕ) (d : PlainDurable) → Holds image (raised d) → d.epoch < last_epoch
low_before image d held = omega (arith, made_epoch held.content (raised d) held.makes)

pub refusal_event : (seen image : List ℕ) (unsynced : ℕ → Bool) (d : PlainDurable) → IsOfOpening seen unsynced image → Holds image d → LeavesRefused seen unsynced d
refusal_event seen image unsynced d (inl start) held = record { image = image; start = start; before = d; held = held; rose = false; legal = λ is. cc (is); leaves = refl }
refusal_event seen image unsynced d (inr on) held = by on.holds where
  itself : IsImage seen unsynced seen
  itself = record { same_length = refl; agrees = λ i out. refl }

  by : Holds image on.kept ⊎ Holds image (raised on.kept) → LeavesRefused seen unsynced d
  by (inl same) = record {
    image = seen;
    start = itself;
    before = on.kept;
    held = on.held;
    rose = false;
    legal = λ is. cc (is);
    leaves = ap (λ (x : PlainDurable). down x) (one_held image on.kept d same held);
  }
  by (inr rose) = record {
    image = seen;
    start = itself;
    before = on.kept;
    held = on.held;
    rose = true;
    legal = λ is. low_before image on.kept rose;
    leaves = ap (λ (x : PlainDurable). down x) (one_held image (raised on.kept) d rose held);
  }

-- ---- a longer world

legal-push : (st : State) (world : List Event) (e : Event) → IsLegalFrom st world → IsLegal (state_after st world) e → IsLegalFrom st (world ++ e ∷ [])
legal-push st [] e all now = (now, tt)
legal-push st (x ∷ xs) e all now = (all.0, legal-push (next st x) xs e all.1 now)

-- a world after which this may come next
pub world_on : (first : PlainDurable) (world : List Event) (st after : State) (e : Event) → IsWorld first world → state_after (down first) world ≡ st → IsLegal st e → next st e ≡ after
    → IsWorld first (world ++ e ∷ []) × (state_after (down first) (world ++ e ∷ []) ≡ after)
world_on first world st after e legal comes now is = (
  legal-push (down first) world e legal (subst (λ (x : State). IsLegal x e) (sym comes) now),
  fold_push next (down first) world e ∙ ap (λ (x : State). next x e) comes ∙ is,
)

pub refusal_world : (first : PlainDurable) (world : List Event) (seen image : List ℕ) (unsynced : ℕ → Bool) (before d : PlainDurable) → IsWorld first world → state_after (down first) world ≡ down before
    → ((c : List ℕ) → IsImage seen unsynced c → Holds c before) → IsOfOpening seen unsynced image → Holds image d
    → (rose : Bool) × IsWorld first (world ++ refused_opening rose ∷ []) × (state_after (down first) (world ++ refused_opening rose ∷ []) ≡ down d)
refusal_world first world seen image unsynced before d legal comes holds is held =
    let it = refusal_event seen image unsynced d is held in
    let same : before ≡ it.before = one_held it.image before it.before (holds it.image it.start) it.held in
    let on = world_on first world (down it.before) (down d) (refused_opening it.rose) legal (comes ∙ ap (λ (x : PlainDurable). down x) same) it.legal it.leaves in
    (it.rose, on.0, on.1)

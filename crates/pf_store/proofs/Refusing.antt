-- An image that holds something isn't refused as one that holds nothing.
use Rattle.std.proofs.Common.{◌≡◌, ◌≢◌, ◌⊎◌, ⊎_elim, ◌+◌, ◌^◌, ◌<◌, inl, inr, ℕ, false, List, length, refl, ◌∙◌, ap, subst, arith}
use Rattle.pf_journal.specs.Records.{records, region, IsFront, StandsFor}
use Rattle.pf_journal.proofs.Parsing.{one_front, front_of}
use Rattle.pf_snap.specs.{Banks.{AreBanks, Content, Counts, HasSnapshot, IsSize, bank_size, records_start}, Faults.IsRefused, declared.fault.LookFault.LookFault}
use Rattle.pf_snap.specs.Banks as snap
use Rattle.pf_snap.specs.declared.fault.LookFault.TheVariants as looking
use Rattle.pf_snap.proofs.Holding.{one_place, one_content}
use Rattle.pf_snap.proofs.Holding as holding
use Rattle.pf_core.specs.{Durable.Changes.{PlainDurable}, Worlds.last_epoch}
use Rattle.pf_store.specs.{Durables.IsDurable, Stores.{Holds, IsRoomy, Leads, Makes}, StoreFaults.{BreaksOff, SaysNone, is_fault}, Openings.{BreaksAfterHeader, IsFull, IsUnopened, MakesNone, gate_of, generation_of}}
use Rattle.pf_store.specs.declared.store.fault.OpenFault.{OpenFault}
use Rattle.pf_store.specs.declared.store.fault.OpenFault.TheVariants.{BadSize, NoBank, Corrupt, Memory, Fault, EpochsExhausted, Full, Places}
use Rattle.pf_store.proofs.{Durables.one_durable, Leading.{one_made, stopped}}

-- content that makes something doesn't break off
makes_some : (torn : Type 0) (bank : ℕ) (content : Content) (place : ℕ) (d : PlainDurable) → ¬ torn → Makes content d → MakesNone torn bank content place → ⊥
makes_some torn bank content place d whole makes (inl none) = none.0 makes.first makes.kept
makes_some torn bank content place d whole makes (inr (inl none)) =
    let s = none.stops in
    stopped content.version none.first s.done s.payload s.rest s.d d s.leads s.none
    (subst (λ (qs : List (List ℕ)). Leads content.version none.first qs d) s.split
    (subst (λ (f : PlainDurable). Leads content.version f content.payloads d) (one_durable content.version makes.first none.first content.snapshot makes.kept none.kept) makes.leads))
makes_some torn bank content place d whole makes (inr (inr none)) = whole none.open_gate

held_after : (image : List ℕ) (place : ℕ) (d : PlainDurable) → Holds image d → BreaksAfterHeader image place → ⊥
held_after image place d held b =
    let h = held.bank.holds in
    let k = held.content in
    let here : held.bank.at ≡ b.bank = one_place image (length image) held.bank.at held.bank.other b.bank b.other h.banks b.places h.counts b.counts in
    let front = subst (λ (p : ℕ). HasSnapshot image p k.version k.generation k.snapshot) here h.bank.front in
    let same = holding.one_front image b.bank k.version b.content.version k.generation b.content.generation k.snapshot b.content.snapshot h.size front b.has in
    let stands : StandsFor (records_start b.bank b.content.snapshot) (b.bank + bank_size (length image)) image k.payloads =
    subst (λ (s : List ℕ). StandsFor (records_start b.bank s) (b.bank + bank_size (length image)) image k.payloads) same.2
    (subst (λ (p : ℕ). StandsFor (records_start p k.snapshot) (p + bank_size (length image)) image k.payloads) here h.bank.records) in
    let payloads = one_front _ k.payloads b.content.payloads (front_of _ k.payloads stands) b.front in
    makes_some ((c : Content) → ¬ snap.Holds image c) b.bank b.content place d (λ none. none k held.bank)
    (record {
      first = held.makes.first;
      kept = subst (λ (v : ℕ). IsDurable v held.makes.first b.content.snapshot) same.0 (subst (IsDurable k.version held.makes.first) same.2 held.makes.kept);
      leads = subst (λ (v : ℕ). Leads v held.makes.first b.content.payloads d) same.0 (subst (λ (ps : List (List ℕ)). Leads k.version held.makes.first ps d) payloads held.makes.leads);
    })
    b.none

-- a look fails only when out of memory or by a fault of the device
none_refused : (image : List ℕ) (e : LookFault) (d : PlainDurable) (held : Holds image d) → generation_of image d held < 2 ^ 63 → (e ≢ looking.Memory) → (e ≢ looking.Fault) → IsRefused e image → ⊥
none_refused image e d held early no_memory no_fault refused = ⊎_elim no_memory no_fault (holding.by_chance image e held.content held.bank early refused)

pub held_is_found : (image : List ℕ) (fault : OpenFault) (d : PlainDurable) (held : Holds image d) → generation_of image d held < 2 ^ 63 → IsUnopened fault image → SaysNone fault → ⊥
held_is_found image BadSize d held early refused says = none_refused image looking.BadSize d held early (λ is. cc (is)) (λ is. cc (is)) refused
held_is_found image NoBank d held early refused says = none_refused image looking.NoBank d held early (λ is. cc (is)) (λ is. cc (is)) refused
held_is_found image (Corrupt at) d held early (inl refused) says = none_refused image (looking.Corrupt at) d held early (λ is. cc (is)) (λ is. cc (is)) refused
held_is_found image (Corrupt at) d held early (inr broken) says = held_after image at d held broken
held_is_found image Memory d held early refused says = says
held_is_found image Fault d held early refused says = says
held_is_found image EpochsExhausted d held early refused says = says
held_is_found image Full d held early refused says = says
held_is_found image Places d held early refused says = says

-- the same error, with another fact about its place
pub breaks_off : (e : OpenFault) (P Q : ℕ → Type 0) → ((n : ℕ) → P n → Q n) → BreaksOff e P → BreaksOff e Q
breaks_off BadSize P Q tell off = off
breaks_off NoBank P Q tell off = off
breaks_off (Corrupt at) P Q tell off = tell at off
breaks_off Memory P Q tell off = off
breaks_off Fault P Q tell off = off
breaks_off EpochsExhausted P Q tell off = off
breaks_off Full P Q tell off = off
breaks_off Places P Q tell off = off

-- no call failed
pub calm : (e : OpenFault) (P : ℕ → Type 0) → BreaksOff e P → is_fault e ≡ false
calm Fault P off = absurd off
calm e P off = refl

-- ---- a look found something, but no state in it

torn_as : (A B : Type 0) (bank : ℕ) (content : Content) (place : ℕ) → (A → B) → MakesNone A bank content place → MakesNone B bank content place
torn_as A B bank content place tell (inl none) = inl none
torn_as A B bank content place tell (inr (inl none)) = inr (inl none)
torn_as A B bank content place tell (inr (inr t)) = inr (inr (record { d = t.d; makes = t.makes; open_gate = tell t.open_gate; at = t.at }))

-- out of memory after the header of the bank that counts was read
out_of_memory : (seen : List ℕ) (bank other : ℕ) (content : Content) → IsSize (length seen) → AreBanks (length seen) bank other → Counts seen bank other → content.generation < 2 ^ 63
    → HasSnapshot seen bank content.version content.generation content.snapshot → IsUnopened Memory seen
out_of_memory seen bank other content size places counts early has =
    (size, (bank, content.version, content.generation, length content.snapshot, record { other = other; banks = places; counts = counts; header = has.header; early = early }))

-- that may be if something is held
pub held_in_want : (seen : List ℕ) (d : PlainDurable) (held : Holds seen d) → generation_of seen d held < 2 ^ 63 → IsUnopened Memory seen
held_in_want seen d held early =
    let h = held.bank.holds in
    out_of_memory seen held.bank.at held.bank.other held.content h.size h.banks h.counts early h.bank.front

pub unopened : (seen : List ℕ) (bank other : ℕ) (content : Content) (torn : Type 0) (e : OpenFault) → IsSize (length seen) → AreBanks (length seen) bank other → Counts seen bank other → content.generation < 2 ^ 63
    → HasSnapshot seen bank content.version content.generation content.snapshot
    → IsFront (region (records_start bank content.snapshot) (bank + bank_size (length seen)) seen) content.payloads
    → (torn → (c : Content) → ¬ snap.Holds seen c) → BreaksOff e (MakesNone torn bank content) → IsUnopened e seen
unopened seen bank other content torn BadSize size places counts early has front none off = absurd off
unopened seen bank other content torn NoBank size places counts early has front none off = absurd off
unopened seen bank other content torn (Corrupt at) size places counts early has front none off =
    inr (record {
      bank = bank;
      other = other;
      content = content;
      places = places;
      counts = counts;
      early = early;
      has = has;
      front = front;
      none = torn_as torn ((c : Content) → ¬ snap.Holds seen c) bank content at none off;
    })
unopened seen bank other content torn Memory size places counts early has front none off = out_of_memory seen bank other content size places counts early has
unopened seen bank other content torn Fault size places counts early has front none off = size
unopened seen bank other content torn EpochsExhausted size places counts early has front none off = absurd off
unopened seen bank other content torn Full size places counts early has front none off = absurd off
unopened seen bank other content torn Places size places counts early has front none off = absurd off

-- and the error isn't about the epoch or about room
pub by_reading : (e : OpenFault) (P : ℕ → Type 0) → BreaksOff e P → (e ≢ EpochsExhausted) × (e ≢ Full)
by_reading BadSize P off = absurd off
by_reading NoBank P off = absurd off
by_reading (Corrupt at) P off = (λ is. cc (is), λ is. cc (is))
by_reading Memory P off = (λ is. cc (is), λ is. cc (is))
by_reading Fault P off = absurd off
by_reading EpochsExhausted P off = absurd off
by_reading Full P off = absurd off
by_reading Places P off = absurd off

-- ---- what may be opened

-- only one bank counts in an image, and its records end at only one closed gate
pub one_at : (image : List ℕ) (d e : PlainDurable) (a : Holds image d) (b : Holds image e) → a.bank.at ≡ b.bank.at
one_at image d e a b =
    one_place image (length image) a.bank.at a.bank.other b.bank.at b.bank.other a.bank.holds.banks b.bank.holds.banks a.bank.holds.counts b.bank.holds.counts

pub one_gate : (image : List ℕ) (d e : PlainDurable) (a : Holds image d) (b : Holds image e) → gate_of image d a ≡ gate_of image e b
one_gate image d e a b =
    ap (λ (p : ℕ). records_start p a.content.snapshot + length (records a.content.payloads)) (one_at image d e a b)
    ∙ ap (λ (c : Content). records_start b.bank.at c.snapshot + length (records c.payloads)) (one_content image a.content b.content a.bank b.bank)

pub one_held : (image : List ℕ) (d e : PlainDurable) → Holds image d → Holds image e → d ≡ e
one_held image d e a b = one_made b.content d e (subst (λ (c : Content). Makes c d) (one_content image a.content b.content a.bank b.bank) a.makes) b.makes

pub roomy_is_not_full : (image : List ℕ) (d : PlainDurable) → IsRoomy (bank_size (length image)) d → IsFull image d → ⊥
roomy_is_not_full image d roomy full = omega (arith, roomy, full.there)

pub by_chance : (image : List ℕ) (fault : OpenFault) (d : PlainDurable) (held : Holds image d) → generation_of image d held < 2 ^ 63 → d.epoch < last_epoch → ¬ IsFull image d → IsUnopened fault image → (fault ≡ Memory) ⊎ (fault ≡ Fault)
by_chance image BadSize d held early low room refused = absurd (held_is_found image BadSize d held early refused tt)
by_chance image NoBank d held early low room refused = absurd (held_is_found image NoBank d held early refused tt)
by_chance image (Corrupt at) d held early low room refused = absurd (held_is_found image (Corrupt at) d held early refused tt)
by_chance image Memory d held early low room refused = inl refl
by_chance image Fault d held early low room refused = inr refl
by_chance image EpochsExhausted d held early low room refused =
    absurd (omega (arith, ap (λ (k : PlainDurable). k.epoch) (one_held image d refused.0 held refused.1), refused.3, low))
by_chance image Full d held early low room refused = absurd (room (subst (IsFull image) (one_held image refused.0 d refused.1.held held) refused.1))
by_chance image Places d held early low room refused = absurd refused

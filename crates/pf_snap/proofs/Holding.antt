-- What a bank holds, and what another image of the device then holds.
use Rattle.std.proofs.{Common.{◌≡◌, ◌⊎◌, inl, inr, ℕ, suc, ◌+◌, ◌-◌, ◌^◌, ◌<◌, ◌≤◌, Bool, false, List, [], ◌∷◌, ◌++◌, length, get_or, take, drop, refl, sym, ◌∙◌, ap, subst, arith, append_assoc, take-append-drop}, lemmas.List.{take_at, take-take, drop_at, drop_more, drop-drop, drop-take, get_or-take, get_or-drop}, lemmas.Nat.{from_be_bytes-to_be_bytes_4, from_be_bytes-to_be_bytes_8}}
use Rattle.std.specs.Int.{w32, w64, to_be_bytes, from_be_bytes}
use Rattle.pf_disk.specs.Disk.{IsImage}
use Rattle.pf_disk.proofs.Images.{slice_same}
use Rattle.pf_journal.specs.Records.{region, AreRecords, StandsFor}
use Rattle.pf_journal.proofs.Parsing.{unique}
use Rattle.pf_snap.specs.declared.fault.{LookFault.LookFault, LookFault.TheVariants.{BadSize, NoBank, Corrupt, Memory, Fault}}
use Rattle.pf_snap.specs.Faults.{AreEqual, IsRefused}
use Rattle.pf_snap.specs.Banks.{IsSize, bank_size, AreBanks, Content, begun, IsVersion, header, records_start, HasHeader, HasSnapshot, HasBank, IsOpen, generation_at, Counts, Holds, bank_after_gate}

-- ---- generations

-- the generation can be read from a header
pub generation_of : (image : List ℕ) (at version g n : ℕ) → g < 2 ^ 64 → take 24 (drop at image) ≡ header version g n → generation_at image at ≡ g
generation_of image at version g n small written =
    let there = drop at image in
    let bytes : take 8 (drop (at + 8) image) ≡ to_be_bytes w64 g =
    ap (take 8) (sym (drop-drop 8 at image)) ∙ sym (take-take 8 16 (drop 8 there) (omega arith)) ∙ ap (take 8) (sym (drop-take 8 16 there)) ∙ ap (λ (l : List ℕ). take 8 (drop 8 l)) written in
    ap (from_be_bytes w64) bytes ∙ from_be_bytes-to_be_bytes_8 g small

same_eight : (m : List ℕ) (a b c d e f g h : ℕ) → a ≡ get_or m 0 0 → b ≡ get_or m 1 0 → c ≡ get_or m 2 0 → d ≡ get_or m 3 0 → e ≡ get_or m 4 0 → f ≡ get_or m 5 0 → g ≡ get_or m 6 0 → h ≡ get_or m 7 0
    → from_be_bytes w64 (a ∷ b ∷ c ∷ d ∷ e ∷ f ∷ g ∷ h ∷ []) ≡ from_be_bytes w64 m
same_eight m a b c d e f g h e0 e1 e2 e3 e4 e5 e6 e7 = rw (e0, e1, e2, e3, e4, e5, e6, e7) refl

-- it is read from eight bytes of it
pub generation_read : (image b : List ℕ) (at : ℕ) → b ≡ take 24 (drop at image)
    → from_be_bytes w64 (get_or b 8 0 ∷ get_or b 9 0 ∷ get_or b 10 0 ∷ get_or b 11 0 ∷ get_or b 12 0 ∷ get_or b 13 0 ∷ get_or b 14 0 ∷ get_or b 15 0 ∷ []) ≡ generation_at image at
generation_read image b at is =
    let m = take 8 (drop (at + 8) image) in
    let step : (i : ℕ) → i < 8 → get_or b (8 + i) 0 ≡ get_or m i 0 = λ i lt.
    let sum : at + (8 + i) ≡ at + 8 + i = omega arith in
    ap (λ (l : List ℕ). get_or l (8 + i) 0) is ∙ get_or-take 24 (drop at image) (8 + i) 0 (omega arith) ∙ get_or-drop at image (8 + i) 0
    ∙ ap (λ (k : ℕ). get_or image k 0) sum ∙ sym (get_or-drop (at + 8) image i 0) ∙ sym (get_or-take 8 (drop (at + 8) image) i 0 lt) in
    let e0 : get_or b 8 0 ≡ get_or m 0 0 = step 0 (omega arith) in
    let e1 : get_or b 9 0 ≡ get_or m 1 0 = step 1 (omega arith) in
    let e2 : get_or b 10 0 ≡ get_or m 2 0 = step 2 (omega arith) in
    let e3 : get_or b 11 0 ≡ get_or m 3 0 = step 3 (omega arith) in
    let e4 : get_or b 12 0 ≡ get_or m 4 0 = step 4 (omega arith) in
    let e5 : get_or b 13 0 ≡ get_or m 5 0 = step 5 (omega arith) in
    let e6 : get_or b 14 0 ≡ get_or m 6 0 = step 6 (omega arith) in
    let e7 : get_or b 15 0 ≡ get_or m 7 0 = step 7 (omega arith) in
    same_eight m _ _ _ _ _ _ _ _ e0 e1 e2 e3 e4 e5 e6 e7

-- the gate is its first byte
pub gate_read : (image b : List ℕ) (at : ℕ) → b ≡ take 24 (drop at image) → get_or image at 0 ≡ get_or b 0 0
gate_read image b at is =
    let here : at ≡ at + 0 = omega arith in
    ap (λ (k : ℕ). get_or image k 0) here ∙ sym (get_or-drop at image 0 0) ∙ sym (get_or-take 24 (drop at image) 0 0 (omega arith)) ∙ ap (λ (l : List ℕ). get_or l 0 0) (sym is)

-- ---- another image

pub same_generation : (old c : List ℕ) (set : ℕ → Bool) (at : ℕ) → IsImage old set c → ((i : ℕ) → at + 8 ≤ i → i < at + 16 → set i ≡ false) → generation_at c at ≡ generation_at old at
same_generation old c set at image out = ap (from_be_bytes w64) (slice_same 8 (at + 8) old c set image (λ i from to. out i from (omega arith)))

-- in which the header and the snapshot are the same
pub same_front : (old c : List ℕ) (set : ℕ → Bool) (at version g : ℕ) (s : List ℕ) → IsImage old set c → ((i : ℕ) → at ≤ i → i < records_start at s → set i ≡ false) → HasSnapshot old at version g s → HasSnapshot c at version g s
same_front old c set at version g s image out has =
    let len : length c ≡ length old = image.same_length in
    let n = length s in
    let front : take 24 (drop at c) ≡ take 24 (drop at old) = slice_same 24 at old c set image (λ i from to. out i from (omega arith)) in
    let there : take (at + 24 + n - (at + 24)) (drop (at + 24) c) ≡ take (at + 24 + n - (at + 24)) (drop (at + 24) old) =
    slice_same (at + 24 + n - (at + 24)) (at + 24) old c set image (λ i from to. out i (omega arith) (omega arith)) in
    record {
      header = record {
        written = front ∙ has.header.written;
        known = has.header.known;
        short = has.header.short;
        fits = subst (λ (k : ℕ). 24 + n + 1 ≤ bank_size k) (sym len) has.header.fits;
      };
      written = there ∙ has.written;
    }

-- in which the bank is the same
pub same_bank : (old c : List ℕ) (set : ℕ → Bool) (at : ℕ) (content : Content) → IsImage old set c → ((i : ℕ) → at ≤ i → i < at + bank_size (length old) → set i ≡ false) → HasBank old at content → HasBank c at content
same_bank old c set at content image out has =
    let start = records_start at content.snapshot in
    let end = at + bank_size (length old) in
    let fits = has.front.header.fits in
    let after_gate : take (end - start) (drop start c) ≡ take (end - start) (drop start old) = slice_same (end - start) start old c set image (λ i from to. out i (omega arith) (omega (arith, fits))) in
    let same : region start (at + bank_size (length c)) c ≡ region start end old = ap (λ (k : ℕ). take (at + bank_size k - start) (drop start c)) image.same_length ∙ after_gate in
    record {
      front = same_front old c set at content.version content.generation content.snapshot image (λ i from to. out i from (omega (arith, to, fits))) has.front;
      records = subst (λ (l : List ℕ). AreRecords l content.payloads) (sym same) has.records;
    }

-- ---- a bank that is begun

-- an open gate, and these bytes after it
pub new_bank : (c : List ℕ) (at version g : ℕ) (s : List ℕ) → IsVersion version → g < 2 ^ 64 → at < length c → 24 + length s + 1 ≤ bank_size (length c) → get_or c at 0 ≡ 165
    → take (24 + length s) (drop (at + 1) c) ≡ bank_after_gate version g s → HasBank c at (begun version g s)
new_bank c at version g s known small inside fits gate there =
    let n = length s in
    let tail = drop (24 + n) (drop (at + 1) c) in
    let whole : drop at c ≡ 165 ∷ (drop 1 (header version g n) ++ s ++ 0 ∷ [] ++ tail) =
    drop_more c at 0 inside ∙ ap (λ (b : ℕ). b ∷ drop (at + 1) c) gate
    ∙ ap (λ (l : List ℕ). 165 ∷ l) (sym (take-append-drop (24 + n) (drop (at + 1) c)) ∙ ap (λ (l : List ℕ). l ++ tail) there) in
    let rest : drop (at + 24) c ≡ s ++ 0 ∷ tail = sym (drop-drop 24 at c) ∙ ap (drop 24) whole ∙ append_assoc s (0 ∷ []) tail in
    let after_it : drop (at + 24 + n) c ≡ 0 ∷ tail = sym (drop-drop n (at + 24) c) ∙ ap (drop n) rest ∙ drop_at s (0 ∷ tail) n refl in
    let same : at + 24 + n - (at + 24) ≡ n = omega arith in
    let k = at + bank_size (length c) - (at + 24 + n) - 1 in
    let more : at + bank_size (length c) - (at + 24 + n) ≡ suc k = omega (arith, fits) in
    record {
      front = record {
        header = record { written = ap (take 24) whole; known = known; short = small; fits = fits };
        written = ap (take (at + 24 + n - (at + 24))) rest ∙ take_at s (0 ∷ tail) (at + 24 + n - (at + 24)) (sym same);
      };
      records = record {
        gate = 0;
        tail = take k tail;
        split = ap (λ (i : ℕ). take i (drop (at + 24 + n) c)) more ∙ ap (take (suc k)) after_it;
        closed = λ is. absurd (omega (arith, is));
        short = tt;
      };
    }

-- ---- one content

-- the snapshot's length in a header
abbrev pub length_in : List ℕ → ℕ
length_in b = from_be_bytes w32 (get_or b 16 0 ∷ get_or b 17 0 ∷ get_or b 18 0 ∷ get_or b 19 0 ∷ [])

pub length_in-header : (version g n : ℕ) → n < 2 ^ 32 → length_in (header version g n) ≡ n
length_in-header version g n small = from_be_bytes-to_be_bytes_4 n small

pub one_length : (image : List ℕ) (at v w g h m n : ℕ) → IsSize (length image) → HasHeader image at v g m → HasHeader image at w h n → m ≡ n
one_length image at v w g h m n size a b =
    sym (length_in-header v g m (omega (arith, size.most, a.fits))) ∙ ap length_in (sym a.written ∙ b.written) ∙ length_in-header w h n (omega (arith, size.most, b.fits))

-- the header and the snapshot at a place have one version, generation and snapshot
pub one_front : (image : List ℕ) (at v w g h : ℕ) (s t : List ℕ) → IsSize (length image) → HasSnapshot image at v g s → HasSnapshot image at w h t → (v ≡ w) × (g ≡ h) × (s ≡ t)
one_front image at v w g h s t size a b =
    let same : header v g (length s) ≡ header w h (length t) = sym a.header.written ∙ b.header.written in
    let n-is : length s ≡ length t = one_length image at v w g h (length s) (length t) size a.header b.header in (
      ap (λ (l : List ℕ). get_or l 1 0) same,
      sym (generation_of image at v g (length s) a.header.short a.header.written) ∙ generation_of image at w h (length t) b.header.short b.header.written,
      sym a.written ∙ ap (λ (k : ℕ). take (at + 24 + k - (at + 24)) (drop (at + 24) image)) n-is ∙ b.written,
    )

abbrev made : ℕ → ℕ → List ℕ → List (List ℕ) → Content
made version generation snapshot payloads = record { version = version; generation = generation; snapshot = snapshot; payloads = payloads }

one_bank : (image : List ℕ) (at : ℕ) (a b : Content) → IsSize (length image) → HasBank image at a → HasBank image at b → a ≡ b
one_bank image at a b size one other =
    let same = one_front image at a.version b.version a.generation b.generation a.snapshot b.snapshot size one.front other.front in
    let payloads : a.payloads ≡ b.payloads =
    unique _ a.payloads b.payloads one.records (subst (λ (s : List ℕ). StandsFor (records_start at s) (at + bank_size (length image)) image b.payloads) (sym same.2) other.records) in
    ap (λ (v : ℕ). made v a.generation a.snapshot a.payloads) same.0 ∙ ap (λ (g : ℕ). made b.version g a.snapshot a.payloads) same.1
    ∙ ap (λ (s : List ℕ). made b.version b.generation s a.payloads) same.2 ∙ ap (made b.version b.generation b.snapshot) payloads

both_count : (image : List ℕ) (at other p q : ℕ) → at ≡ q → other ≡ p → Counts image at other → Counts image p q → at ≡ p
both_count image at other p q same turn one two =
    let open_here : IsOpen image q = ap (λ (k : ℕ). get_or image k 0) (sym same) ∙ one.is_open in
    let open_there : IsOpen image other = ap (λ (k : ℕ). get_or image k 0) turn ∙ two.is_open in
    absurd (omega (arith, one.newer open_there, two.newer open_here, ap (generation_at image) same, ap (generation_at image) turn))

-- only one bank counts
pub one_place : (image : List ℕ) (size at other p q : ℕ) → AreBanks size at other → AreBanks size p q → Counts image at other → Counts image p q → at ≡ p
one_place image size at other p q (inl a) (inl b) one two = a.0 ∙ sym b.0
one_place image size at other p q (inr a) (inr b) one two = a.0 ∙ sym b.0
one_place image size at other p q (inl a) (inr b) one two = both_count image at other p q (a.0 ∙ sym b.1) (a.1 ∙ sym b.0) one two
one_place image size at other p q (inr a) (inl b) one two = both_count image at other p q (a.0 ∙ sym b.1) (a.1 ∙ sym b.0) one two

pub one_content : (image : List ℕ) (a b : Content) → Holds image a → Holds image b → a ≡ b
one_content image a b one two =
    let at = one_place image (length image) one.at one.other two.at two.other one.holds.banks two.holds.banks one.holds.counts two.holds.counts in
    one_bank image two.at a b two.holds.size (subst (λ (p : ℕ). HasBank image p a) at one.holds.bank) two.holds.bank

-- ---- why a look fails

not_equal : (image : List ℕ) (at other : ℕ) → AreBanks (length image) at other → Counts image at other → AreEqual image → ⊥
not_equal image at other (inl places) counts equal =
    let is_open : IsOpen image other = ap (λ (k : ℕ). get_or image k 0) places.1 ∙ equal.second in
    omega (arith, counts.newer is_open, ap (generation_at image) places.0, ap (generation_at image) places.1, equal.same)
not_equal image at other (inr places) counts equal =
    let is_open : IsOpen image other = ap (λ (k : ℕ). get_or image k 0) places.1 ∙ equal.first in
    omega (arith, counts.newer is_open, ap (generation_at image) places.0, ap (generation_at image) places.1, equal.same)

pub by_chance : (image : List ℕ) (fault : LookFault) (content : Content) → Holds image content → content.generation < 2 ^ 63 → IsRefused fault image → (fault ≡ Memory) ⊎ (fault ≡ Fault)
by_chance image BadSize content it early refused = absurd (refused it.holds.size)
by_chance image NoBank content it early refused = absurd (refused.1 it.at it.other it.holds.banks it.holds.counts.is_open)
by_chance image (Corrupt at) content it early (size, inl equal) = absurd (not_equal image it.at it.other it.holds.banks it.holds.counts equal.1)
by_chance image (Corrupt at) content it early (size, inr broken) =
    let here = one_place image (length image) it.at it.other at broken.other it.holds.banks broken.banks it.holds.counts broken.counts in
    absurd (broken.none content.version content.generation (length content.snapshot) early (subst (λ (p : ℕ). HasHeader image p content.version content.generation (length content.snapshot)) here it.holds.bank.front.header))
by_chance image Memory content it early refused = inl refl
by_chance image Fault content it early refused = inr refl

-- What columns say at a place, by the rule whose words are there.
use Rattle.std.proofs.Common.{◌≡◌, ◌<◌, ◌≤◌, ℕ, zero, suc, ◌+◌, ◌*◌, Bool, true, false, ◌&&◌, List, [], ◌∷◌, map, length, take, drop, get_or, Option, Some, None, refl, sym, ap, ◌∙◌, subst, arith, ⊎_elim}
use Rattle.std.specs.Prelude.{slice_get}
use Rattle.std.proofs.lemmas.{List.{get_or-map, get_or-take, get_or-drop, length-take-le, length-drop}, Option.{slice_get_cases, slice_get-get_or}}
use Rattle.pf_rule.specs.{Host.Hosts.inverted, Packets.{PlainPacket, IsPacket}, Rules.{PlainRule, IsRule}}
use Rattle.pf_lanes.specs.declared.{columns.Masked.Masked, words.AddressWords.AddressWords, words.Bounds.Bounds, columns.AddressColumns.AddressColumns, columns.PortColumns.PortColumns, columns.Marks.Marks, columns.Columns.Columns, marks.Mark.TheVariants.{TabledSource, InvertedSource, TabledDestination, InvertedDestination, InvertedSourcePort, InvertedDestinationPort}}
use Rattle.pf_lanes.specs.{Masks.is_set, Answered.{bit_by, eight_from, answered_bit, block_bit, matches_answered}, Words.{equals_masked, whole_holds, within, host_bit, IsNamed, host_masks, host_words, head_mask, head_word, test_bounds}, Columns.{masked_holds, port_within, AreMasked, AreAddresses, ArePorts, AreMarks, IsMask, is_marked, AreColumns}, Asked.{addresses_hold, hosts_hold, ports_hold}, KeptProbes.packet_words}
use Rattle.pf_lanes.proofs.Bits.{none_set}
use Rattle.pf_lanes.proofs.Matched.{rule_matched}

read_map : {A : Type 0} (f : A → ℕ) (xs : List A) (items : List ℕ) (k : ℕ) (x : A) → items ≡ map f xs → k < length xs → get_or xs k x ≡ x → get_or items k 0 ≡ f x
read_map f xs items k x same lt is = ap (λ (l : List ℕ). get_or l k 0) same ∙ get_or-map f xs k x 0 lt ∙ ap f is

pub masked_at : {A : Type 0} (mask word : A → ℕ) (xs : List A) (c : Masked) (w k : ℕ) (x : A) → AreMasked mask word xs c → k < length xs → get_or xs k x ≡ x →
    masked_holds w c k ≡ equals_masked w (mask x) (word x)
masked_at mask word xs c w k x are lt is =
    λ i. equals_masked w (read_map mask xs c.masks.items k x are.masks lt is i) (read_map word xs c.words.items k x are.words lt is i)

pub addresses_at : {A : Type 0} (masks words : A → AddressWords) (xs : List A) (c : AddressColumns) (v6 : Bool) (a : AddressWords) (k : ℕ) (x : A) →
    AreAddresses masks words xs c → k < length xs → get_or xs k x ≡ x → addresses_hold v6 a c k ≡ whole_holds v6 a (masks x) (words x)
addresses_at masks words xs c true a k x are lt is =
    λ i. masked_at (λ y. (masks y).first) (λ y. (words y).first) xs c.first a.first k x are.first lt is i
    && (masked_at (λ y. (masks y).second) (λ y. (words y).second) xs c.second a.second k x are.second lt is i
    && (masked_at (λ y. (masks y).third) (λ y. (words y).third) xs c.third a.third k x are.third lt is i
    && masked_at (λ y. (masks y).fourth) (λ y. (words y).fourth) xs c.fourth a.fourth k x are.fourth lt is i))
addresses_at masks words xs c false a k x are lt is =
    λ i. masked_at (λ y. (masks y).first) (λ y. (words y).first) xs c.first a.first k x are.first lt is i && true

ports_at : (bounds : PlainRule → Bounds) (xs : List PlainRule) (c : PortColumns) (port k : ℕ) (x : PlainRule) → ArePorts bounds xs c → k < length xs → get_or xs k x ≡ x →
    port_within port c k ≡ within port (bounds x).lowest (bounds x).highest
ports_at bounds xs c port k x are lt is =
    λ i. within port (read_map (λ y. (bounds y).lowest) xs c.lowest.items k x are.lowest lt is i) (read_map (λ y. (bounds y).highest) xs c.highest.items k x are.highest lt is i)

pub mark_at : (test : PlainRule → Bool) (rules : List PlainRule) (at mask i : ℕ) (x : PlainRule) → IsMask test (eight_from at rules) mask → i < 8 → at + 8 ≤ length rules →
    get_or rules (at + i) x ≡ x → is_set mask i ≡ test x
mark_at test rules at mask i x is lt room here =
    let long : i < length (eight_from at rules) = omega (arith, length-take-le 8 (drop at rules) (omega (arith, length-drop at rules))) in
    is.each i lt ∙ ap (bit_by test) (slice_get-get_or (eight_from at rules) i x long
    ∙ ap (λ y. Some y) (get_or-take 8 (drop at rules) i x lt ∙ get_or-drop at rules i x ∙ here))

-- the place of a rule among those with columns
pub record IsLaned (rules : List PlainRule) (c : Columns) (b i : ℕ) (x : PlainRule) : Type 0 where
  pub block : b < length c.marks.items
  pub lane : i < 8
  pub here : get_or rules (8 * b + i) x ≡ x

in_columns : (rules : List PlainRule) (c : Columns) (b i : ℕ) (x : PlainRule) → AreColumns rules c → IsLaned rules c b i x →
    (8 * b + i < length (take (8 * length c.marks.items) rules)) × (get_or (take (8 * length c.marks.items) rules) (8 * b + i) x ≡ x)
in_columns rules c b i x are is =
    let block = is.block in let lane = is.lane in
    let long = length-take-le (8 * length c.marks.items) rules are.whole in
    let within : 8 * b + i < 8 * length c.marks.items = omega arith in
    (omega (arith, long, within), get_or-take (8 * length c.marks.items) rules (8 * b + i) x within ∙ is.here)

lane_says : (rules : List PlainRule) (c : Columns) (p : PlainPacket) (b i : ℕ) (source destination : Bool) (x : PlainRule) (m : Marks) →
    AreColumns rules c → IsPacket p → IsLaned rules c b i x → m ≡ get_or c.marks.items b m →
    (hosts_hold c (packet_words c.interfaces.items p) (8 * b + i) m source destination i && ports_hold c (packet_words c.interfaces.items p) (8 * b + i) m i)
    ≡ matches_answered source destination x p
lane_says rules c p b i source destination x m are packet is marked =
    let block = is.block in let lane = is.lane in let whole = are.whole in
    let k = 8 * b + i in
    let rs = take (8 * length c.marks.items) rules in
    let ps = packet_words c.interfaces.items p in
    let (lt, here) = in_columns rules c b i x are is in
    let room : 8 * b + 8 ≤ length rules = omega arith in
    let marks : AreMarks (eight_from (8 * b) rules) m = subst (AreMarks (eight_from (8 * b) rules)) (sym marked) (are.marks b m is.block) in
    let h = masked_at head_mask (head_word c.interfaces.items) rs c.heads ps.head k x are.heads lt here in
    let s = addresses_at (λ r. host_masks r.source) (λ r. host_words r.source) rs c.sources ps.is_v6 ps.source k x are.sources lt here in
    let t = addresses_at (λ r. host_masks r.destination) (λ r. host_words r.destination) rs c.destinations ps.is_v6 ps.destination k x are.destinations lt here in
    let s1 = mark_at (is_marked TabledSource) rules (8 * b) m.sources.tabled i x marks.tabled_sources is.lane room is.here in
    let s2 = mark_at (is_marked InvertedSource) rules (8 * b) m.sources.inverted i x marks.inverted_sources is.lane room is.here in
    let t1 = mark_at (is_marked TabledDestination) rules (8 * b) m.destinations.tabled i x marks.tabled_destinations is.lane room is.here in
    let t2 = mark_at (is_marked InvertedDestination) rules (8 * b) m.destinations.inverted i x marks.inverted_destinations is.lane room is.here in
    let u = ports_at (λ r. test_bounds r.source_port) rs c.source_ports ps.source_port k x are.source_ports lt here in
    let v = ports_at (λ r. test_bounds r.destination_port) rs c.destination_ports ps.destination_port k x are.destination_ports lt here in
    let u1 = mark_at (is_marked InvertedSourcePort) rules (8 * b) m.source_ports i x marks.inverted_source_ports is.lane room is.here in
    let v1 = mark_at (is_marked InvertedDestinationPort) rules (8 * b) m.destination_ports i x marks.inverted_destination_ports is.lane room is.here in
    let named : IsNamed c.interfaces.items x = subst (IsNamed c.interfaces.items) here (are.named k x lt) in
    let kept : IsRule x = subst IsRule is.here (are.kept k x (omega arith)) in
    (λ j. (h j && (host_bit (s j) source (s1 j) (s2 j) && host_bit (t j) destination (t1 j) (t2 j)))
    && (inverted (u1 j) (u j) && inverted (v1 j) (v j)))
    ∙ rule_matched c.interfaces.items x p source destination kept packet are.few named

-- a lane of a block with columns is the bit of its rule
pub lanes_match : (rules : List PlainRule) (c : Columns) (p : PlainPacket) (b sources destinations i : ℕ) (m : Marks) →
    AreColumns rules c → IsPacket p → b < length c.marks.items → i < 8 → m ≡ get_or c.marks.items b m →
    (hosts_hold c (packet_words c.interfaces.items p) (8 * b + i) m (is_set sources i) (is_set destinations i) i
    && ports_hold c (packet_words c.interfaces.items p) (8 * b + i) m i)
    ≡ block_bit rules p b sources destinations i
lanes_match rules c p b sources destinations i m are packet block lane marked =
    let whole = are.whole in
    let there : 8 * b + i < length rules = omega arith in
    ⊎_elim
    (λ (found : (x : PlainRule) × (8 * b + i < length rules) × (slice_get rules (8 * b + i) ≡ Some x) × (get_or rules (8 * b + i) x ≡ x)).
    lane_says rules c p b i (is_set sources i) (is_set destinations i) found.0 m are packet (record { block = block; lane = lane; here = found.3 }) marked
    ∙ sym (ap (λ (o : Option PlainRule). answered_bit o p sources destinations i) found.2))
    (λ none. absurd (omega (arith, none.0, there)))
    (slice_get_cases rules (8 * b + i)).1

none_there : {A : Type 0} (i : ℕ) → slice_get {X = A} [] i ≡ None
none_there i = refl

eight_taken : {A : Type 0} (xs : List A) (n i : ℕ) → i < n → slice_get (take n xs) i ≡ slice_get xs i
eight_taken [] zero i lt = refl
eight_taken [] (suc n) i lt = refl
eight_taken (x ∷ xs) zero i lt = absurd (omega arith)
eight_taken (x ∷ xs) (suc n) zero lt = refl
eight_taken (x ∷ xs) (suc n) (suc i) lt = eight_taken xs n i (omega arith)

eight_dropped : {A : Type 0} (xs : List A) (at i : ℕ) → slice_get (drop at xs) i ≡ slice_get xs (at + i)
eight_dropped xs zero i = ap (slice_get xs) (let z : i ≡ 0 + i = omega arith in z)
eight_dropped [] (suc at) i = none_there (suc at + i)
eight_dropped (x ∷ xs) (suc at) i = eight_dropped xs at i ∙ ap (slice_get (x ∷ xs)) (let z : suc (at + i) ≡ suc at + i = omega arith in z)

-- a rule of a block
pub eight_get : (rules : List PlainRule) (at i : ℕ) → i < 8 → slice_get (eight_from at rules) i ≡ slice_get rules (at + i)
eight_get rules at i lt = eight_taken (drop at rules) 8 i lt ∙ eight_dropped rules at i

-- no rule matches if no host does
pub hosts_gone : (hosts i : ℕ) (a b : Bool) → is_set hosts i ≡ a → hosts ≡ 0 → is_set 0 i ≡ (a && b)
hosts_gone hosts i a b is none = none_set i ∙ ap (λ (x : Bool). x && b) (sym (sym is ∙ ap (λ n. is_set n i) none ∙ none_set i))

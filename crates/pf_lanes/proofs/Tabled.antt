-- Rules as if each of their tables matched the address: those that don't match then don't match with any tables.
use Rattle.std.proofs.Common.{◌≡◌, ◌<◌, ◌≤◌, ℕ, zero, suc, ◌+◌, ◌*◌, Bool, true, false, not, ◌&&◌, ◌||◌, List, length, get_or, Option, Some, refl, sym, ap, ◌∙◌, subst, arith, ⊎_elim}
use Rattle.std.specs.Prelude.{bit_and, bit_or, bit_xor, slice_get}
use Rattle.std.proofs.lemmas.Option.{slice_get_cases}
use Rattle.pf_addr.specs.declared.addr.Addr.{Addr}
use Rattle.pf_rule.specs.declared.{host.host.Host.Host, host.host.Host.TheVariants.{Any, Net, Table}}
use Rattle.pf_rule.specs.{Value.Tests.holds, Value.Ports.port_holds, Host.Hosts.{TableTest, inverted, host_holds}, Packets.{PlainPacket, IsPacket}, Rules.{PlainRule, matches, ends_hold}}
use Rattle.pf_lanes.specs.declared.{columns.Marks.Marks, columns.Columns.Columns, marks.Mark.TheVariants.{TabledSource, InvertedSource, TabledDestination, InvertedDestination}}
use Rattle.pf_lanes.specs.{Masks.is_set, Answered.{answered, matches_answered, answered_bit, bit_by, block_bit, block_match, eight_from}, Words.{is_tabled, is_inverted}, Columns.{AreMarks, AreColumns, is_marked, special_of}, Asked.{near_or_special, ports_hold}, KeptProbes.packet_words}
use Rattle.pf_lanes.proofs.{Bits.{is_set-and, is_set-or, is_set-xor, none_set}, Kernels.{unset, far_hosts}, Handed.matches_front, Places.{mark_at, lanes_match}}

-- without a table what is near matches; what isn't near never does
pub record Settles (near tabled match : Bool) : Type 0 where
  pub gone : near ≡ false → match ≡ false
  pub same : tabled ≡ false → near ≡ match

host_near : (says : TableTest) (h : Host) (a : Addr) → host_holds (answered (not (is_inverted h))) h a ≡ (is_tabled h || host_holds says h a)
host_near says Any a = refl
host_near says (Net n negated) a = refl
host_near says (Table name true) a = refl
host_near says (Table name false) a = refl

gone : (f s sp d dp x y : Bool) → (f && ((((x || s) && sp) && (y || d)) && dp)) ≡ false → (f && (((s && sp) && d) && dp)) ≡ false
gone f s sp d dp x y e = grind arith

same : (f s sp d dp x y : Bool) → (x || y) ≡ false → (f && ((((x || s) && sp) && (y || d)) && dp)) ≡ (f && (((s && sp) && d) && dp))
same f s sp d dp false false e = refl
same f s sp d dp false true e = absurd (cc e)
same f s sp d dp true y e = absurd (cc e)

near_settles : (says : TableTest) (r : PlainRule) (p : PlainPacket) →
    Settles (matches_answered (not (is_inverted r.source)) (not (is_inverted r.destination)) r p) (is_tabled r.source || is_tabled r.destination) (matches says r p)
unfolding ends_hold
near_settles says r p =
    let f = matches_front r p in
    let s = host_holds says r.source p.source in
    let sp = holds r.source_port (λ t. port_holds t p.source_port) in
    let d = host_holds says r.destination p.destination in
    let dp = holds r.destination_port (λ t. port_holds t p.destination_port) in
    let near : matches_answered (not (is_inverted r.source)) (not (is_inverted r.destination)) r p
    ≡ (f && ((((is_tabled r.source || s) && sp) && (is_tabled r.destination || d)) && dp)) =
    λ j. f && (((host_near says r.source p.source j && sp) && host_near says r.destination p.destination j) && dp) in
    record {
      gone = λ e. gone f s sp d dp (is_tabled r.source) (is_tabled r.destination) (sym near ∙ e);
      same = λ e. near ∙ same f s sp d dp (is_tabled r.source) (is_tabled r.destination) e;
    }

pub all_lanes : (i : ℕ) → i < 8 → is_set 255 i ≡ true
all_lanes zero lt = refl
all_lanes (suc zero) lt = refl
all_lanes (suc (suc zero)) lt = refl
all_lanes (suc (suc (suc zero))) lt = refl
all_lanes (suc (suc (suc (suc zero)))) lt = refl
all_lanes (suc (suc (suc (suc (suc zero))))) lt = refl
all_lanes (suc (suc (suc (suc (suc (suc zero)))))) lt = refl
all_lanes (suc (suc (suc (suc (suc (suc (suc zero))))))) lt = refl
all_lanes (suc (suc (suc (suc (suc (suc (suc (suc i)))))))) lt = absurd (omega arith)

other_bit : (inverting i : ℕ) (b : Bool) → i < 8 → is_set inverting i ≡ b → is_set (bit_xor inverting 255) i ≡ not b
other_bit inverting i b lt is = is_set-xor inverting 255 i ∙ (λ j. inverted (all_lanes i lt j) (is j))

rule_settles : (says : TableTest) (rules : List PlainRule) (p : PlainPacket) (b i near : ℕ) (x : PlainRule) (m : Marks) →
    AreMarks (eight_from (8 * b) rules) m → i < 8 → 8 * b + 8 ≤ length rules → get_or rules (8 * b + i) x ≡ x → slice_get rules (8 * b + i) ≡ Some x →
    is_set near i ≡ block_bit rules p b (bit_xor m.sources.inverted 255) (bit_xor m.destinations.inverted 255) i →
    Settles (is_set near i) (is_set (bit_or m.sources.tabled m.destinations.tabled) i) (block_match says rules p b i)
rule_settles says rules p b i near x m marks lt room here there is =
    let s1 = mark_at (is_marked TabledSource) rules (8 * b) m.sources.tabled i x marks.tabled_sources lt room here in
    let s2 = mark_at (is_marked InvertedSource) rules (8 * b) m.sources.inverted i x marks.inverted_sources lt room here in
    let t1 = mark_at (is_marked TabledDestination) rules (8 * b) m.destinations.tabled i x marks.tabled_destinations lt room here in
    let t2 = mark_at (is_marked InvertedDestination) rules (8 * b) m.destinations.inverted i x marks.inverted_destinations lt room here in
    let s = other_bit m.sources.inverted i (is_inverted x.source) lt s2 in
    let d = other_bit m.destinations.inverted i (is_inverted x.destination) lt t2 in
    let close = is
    ∙ ap (λ (o : Option PlainRule). answered_bit o p (bit_xor m.sources.inverted 255) (bit_xor m.destinations.inverted 255) i) there
    ∙ (λ j. matches_answered (s j) (d j) x p) in
    let table = is_set-or m.sources.tabled m.destinations.tabled i ∙ (λ j. s1 j || t1 j) in
    let match : block_match says rules p b i ≡ matches says x p = ap (bit_by (λ r. matches says r p)) there in
    let settles = near_settles says x p in
    record {
      gone = λ e. match ∙ settles.gone (sym close ∙ e);
      same = λ e. close ∙ settles.same (sym table ∙ e) ∙ sym match;
    }

-- a lane of a block with columns
pub lane_settles : (says : TableTest) (rules : List PlainRule) (c : Columns) (p : PlainPacket) (b i near : ℕ) (m : Marks) →
    AreColumns rules c → b < length c.marks.items → i < 8 → m ≡ get_or c.marks.items b m →
    is_set near i ≡ block_bit rules p b (bit_xor m.sources.inverted 255) (bit_xor m.destinations.inverted 255) i →
    Settles (is_set near i) (is_set (bit_or m.sources.tabled m.destinations.tabled) i) (block_match says rules p b i)
lane_settles says rules c p b i near m are block lt marked is =
    let whole = are.whole in
    let room : 8 * b + 8 ≤ length rules = omega arith in
    let marks : AreMarks (eight_from (8 * b) rules) m = subst (AreMarks (eight_from (8 * b) rules)) (sym marked) (are.marks b m block) in
    ⊎_elim
    (λ (found : (x : PlainRule) × (8 * b + i < length rules) × (slice_get rules (8 * b + i) ≡ Some x) × (get_or rules (8 * b + i) x ≡ x)).
    rule_settles says rules p b i near found.0 m marks lt room found.3 found.2 is)
    (λ none. absurd (omega (arith, none.0, room, lt)))
    (slice_get_cases rules (8 * b + i)).1

-- ---- what is near, and what tables say about rules with a table

none_open : (a t m : Bool) → Settles a t m → (a && t) ≡ false → a ≡ m
none_open true t m s e = s.same e
none_open false t m s e = sym (s.gone refl)

pub near_alone : (near tabled left i : ℕ) (m : Bool) → Settles (is_set near i) (is_set tabled i) m → left ≡ bit_and near tabled → left ≡ 0 → is_set near i ≡ m
near_alone near tabled left i m s is none = none_open (is_set near i) (is_set tabled i) m s (sym (is_set-and near tabled i) ∙ ap (λ n. is_set n i) (sym is) ∙ unset left i none)

settles_it : (a t m : Bool) → Settles a t m → (inverted (a && t) a || ((a && t) && m)) ≡ m
settles_it true true m s = refl
settles_it true false m s = s.same refl
settles_it false t m s = sym (s.gone refl)

pub near_and_tabled : (near tabled left answers i : ℕ) (m : Bool) → Settles (is_set near i) (is_set tabled i) m → left ≡ bit_and near tabled →
    is_set answers i ≡ (is_set left i && m) → is_set (bit_or (bit_xor near left) answers) i ≡ m
near_and_tabled near tabled left answers i m s is asked =
    let opened = ap (λ n. is_set n i) is ∙ is_set-and near tabled i in
    is_set-or (bit_xor near left) answers i
    ∙ (λ j. (is_set-xor near left i ∙ (λ k. inverted (opened k) (is_set near i))) j || (asked ∙ (λ k. opened k && m)) j)
    ∙ settles_it (is_set near i) (is_set tabled i) m s

-- ---- a block in which nothing is near

pub far_block : (says : TableTest) (rules : List PlainRule) (c : Columns) (p : PlainPacket) (b i : ℕ) (m : Marks) →
    AreColumns rules c → IsPacket p → b < length c.marks.items → i < 8 → m ≡ get_or c.marks.items b m →
    near_or_special c (packet_words c.interfaces.items p) (8 * b + i) m.special i ≡ false →
    block_match says rules p b i ≡ false
far_block says rules c p b i m are packet block lt marked none =
    let s = bit_xor m.sources.inverted 255 in
    let d = bit_xor m.destinations.inverted 255 in
    let ps = packet_words c.interfaces.items p in
    let special : m.special ≡ special_of m = (subst (AreMarks (eight_from (8 * b) rules)) (sym marked) (are.marks b m block)).special in
    let far = far_hosts c ps (8 * b + i) m (is_set s i) (is_set d i) i (ap (λ n. near_or_special c ps (8 * b + i) n i) (sym special) ∙ none) in
    let out : block_bit rules p b s d i ≡ false =
    sym (lanes_match rules c p b s d i m are packet block lt marked) ∙ ap (λ (x : Bool). x && ports_hold c ps (8 * b + i) m i) far in
    (lane_settles says rules c p b i 0 m are block lt marked (none_set i ∙ sym out)).gone (none_set i)

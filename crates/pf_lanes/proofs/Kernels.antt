-- What the kernel's masks say together.
use Rattle.std.proofs.Common.{◌≡◌, ◌≤◌, ℕ, Bool, true, false, not, nat_eq, ◌&&◌, ◌||◌, refl, sym, ap, ◌∙◌, arith}
use Rattle.std.specs.Prelude.{bit_and, bit_or, if◌then◌else◌}
use Rattle.std.proofs.lemmas.{Bool.Decides.nat_tests, Nat.{le_or_l, le_or_r}}
use Rattle.pf_lanes.specs.declared.{columns.Columns.Columns, columns.Marks.Marks, kernel.PacketWords.PacketWords}
use Rattle.pf_lanes.specs.{Masks.is_set, Words.host_bit, Columns.{masked_holds, special_of}, Asked.{addresses_hold, words_hold, hosts_hold, rest_of, near_or_special}}
use Rattle.pf_lanes.proofs.{Bits.{is_set-and, is_set-or, none_set}, WordTests.true_last}

plain_bit : (words answer : Bool) → host_bit words answer false false ≡ words
plain_bit words answer = grind arith

nothing : (a n : ℕ) → a ≤ n → n ≡ 0 → a ≡ 0
nothing a n le e = omega arith

pub unset : (a i : ℕ) → a ≡ 0 → is_set a i ≡ false
unset a i e = ap (λ n. is_set n i) e ∙ none_set i

-- if no host is special, hosts are as their words say
pub plain_hosts : (c : Columns) (p : PacketWords) (k : ℕ) (m : Marks) (source destination : Bool) (i : ℕ) → special_of m ≡ 0 →
    hosts_hold c p k m source destination i
    ≡ words_hold c p k
plain_hosts c p k m source destination i none =
    let ab = bit_or m.sources.tabled m.sources.inverted in
    let abc = bit_or ab m.destinations.tabled in
    let z3 : abc ≡ 0 = nothing abc (special_of m) (le_or_l abc m.destinations.inverted) none in
    let z2 : ab ≡ 0 = nothing ab abc (le_or_l ab m.destinations.tabled) z3 in
    let a = unset m.sources.tabled i (nothing m.sources.tabled ab (le_or_l m.sources.tabled m.sources.inverted) z2) in
    let b = unset m.sources.inverted i (nothing m.sources.inverted ab (le_or_r m.sources.tabled m.sources.inverted) z2) in
    let d = unset m.destinations.tabled i (nothing m.destinations.tabled abc (le_or_r ab m.destinations.tabled) z3) in
    let e = unset m.destinations.inverted i (nothing m.destinations.inverted (special_of m) (le_or_r abc m.destinations.inverted) none) in
    let s = addresses_hold p.is_v6 p.source c.sources k in
    let t = addresses_hold p.is_v6 p.destination c.destinations k in
    (λ j. masked_holds p.head c.heads k && (host_bit s source (a j) (b j) && host_bit t destination (d j) (e j)))
    ∙ (λ j. masked_holds p.head c.heads k && (plain_bit s source j && plain_bit t destination j))

three : (a b c i : ℕ) (h s t : Bool) → is_set a i ≡ h → is_set b i ≡ s → is_set c i ≡ t → is_set (bit_and a (bit_and b c)) i ≡ (h && (s && t))
three a b c i h s t p q r = is_set-and a (bit_and b c) i ∙ (λ j. p j && (is_set-and b c i ∙ (λ k. q k && r k)) j)

pub all_three : (a b c i : ℕ) (h s t : Bool) → is_set a i ≡ h → is_set b i ≡ s → is_set c i ≡ t → is_set (bit_and a (bit_and b c)) i ≡ (h && (s && t))
all_three = three

gone : (h s t rs rt : Bool) → (h && (s && t)) ≡ false → (h && (s && t)) ≡ (h && ((s && rs) && (t && rt)))
gone h s t rs rt e = grind arith

first_alone : (h s t : Bool) → (h && (s && t)) ≡ (h && ((s && true) && (t && true)))
first_alone h s t = grind arith

with_rest : (h s t rs rt : Bool) → ((h && (s && t)) && (rs && rt)) ≡ (h && ((s && rs) && (t && rt)))
with_rest h s t rs rt = grind arith

-- the first words suffice if none is near, and for an IPv4 packet
pub near_gone : (v6 : Bool) (near i : ℕ) (h s t rs rt : Bool) → is_set near i ≡ (h && (s && t)) → near ≡ 0 →
    is_set near i ≡ (h && ((s && (if v6 then rs else true)) && (t && (if v6 then rt else true))))
near_gone v6 near i h s t rs rt is none = is ∙ gone h s t _ _ (sym is ∙ unset near i none)

pub near_whole : (v6 : Bool) (near i : ℕ) (h s t rs rt : Bool) → is_set near i ≡ (h && (s && t)) → v6 ≡ false →
    is_set near i ≡ (h && ((s && (if v6 then rs else true)) && (t && (if v6 then rt else true))))
near_whole v6 near i h s t rs rt is e = is ∙ first_alone h s t ∙ sym (ap (λ (b : Bool). h && ((s && (if b then rs else true)) && (t && (if b then rt else true)))) e)

pub near_rest : (v6 : Bool) (near rest i : ℕ) (h s t rs rt : Bool) → is_set near i ≡ (h && (s && t)) → is_set rest i ≡ (rs && rt) → v6 ≡ true →
    is_set (bit_and near rest) i ≡ (h && ((s && (if v6 then rs else true)) && (t && (if v6 then rt else true))))
near_rest v6 near rest i h s t rs rt is more e =
    is_set-and near rest i ∙ (λ j. is j && more j) ∙ with_rest h s t rs rt
    ∙ sym (ap (λ (b : Bool). h && ((s && (if b then rs else true)) && (t && (if b then rt else true)))) e)

-- a host's words, whole
pub whole_v6 : (v6 : Bool) (a b both i : ℕ) (s r : Bool) → is_set a i ≡ s → is_set b i ≡ r → both ≡ bit_and a b → v6 ≡ true → is_set both i ≡ (s && (if v6 then r else true))
whole_v6 v6 a b both i s r p q is e = ap (λ n. is_set n i) is ∙ is_set-and a b i ∙ (λ j. p j && q j) ∙ sym (ap (λ (x : Bool). s && (if x then r else true)) e)

pub whole_v4 : (v6 : Bool) (a both i : ℕ) (s r : Bool) → is_set a i ≡ s → both ≡ a → v6 ≡ false → is_set both i ≡ (s && (if v6 then r else true))
whole_v4 v6 a both i s r p is e = ap (λ n. is_set n i) is ∙ p ∙ true_last s ∙ sym (ap (λ (x : Bool). s && (if x then r else true)) e)

-- ---- where neither is near, nothing holds

apart : (f g r q : Bool) → (f && g) ≡ false → ((f && r) && (g && q)) ≡ false
apart false g r q e = refl
apart true false true q e = refl
apart true false false q e = refl
apart true true r q e = absurd (cc e)

far : (h t1 i1 t2 i2 f g r q x y : Bool) → (h && ((((t1 || i1) || t2) || i2) || (f && g))) ≡ false →
    (h && (host_bit (f && r) x t1 i1 && host_bit (g && q) y t2 i2)) ≡ false
far false t1 i1 t2 i2 f g r q x y e = refl
far true true i1 t2 i2 f g r q x y e = absurd (cc e)
far true false true t2 i2 f g r q x y e = absurd (cc e)
far true false false true i2 f g r q x y e = absurd (cc e)
far true false false false true f g r q x y e = absurd (cc e)
far true false false false false f g r q x y e = (λ j. plain_bit (f && r) x j && plain_bit (g && q) y j) ∙ apart f g r q e

four : (m : Marks) (i : ℕ) →
    is_set (special_of m) i ≡ (((is_set m.sources.tabled i || is_set m.sources.inverted i) || is_set m.destinations.tabled i) || is_set m.destinations.inverted i)
four m i =
    let ab = bit_or m.sources.tabled m.sources.inverted in
    let abc = bit_or ab m.destinations.tabled in
    is_set-or abc m.destinations.inverted i
    ∙ (λ j. (is_set-or ab m.destinations.tabled i ∙ (λ k. is_set-or m.sources.tabled m.sources.inverted i k || is_set m.destinations.tabled i)) j || is_set m.destinations.inverted i)

pub far_hosts : (c : Columns) (p : PacketWords) (k : ℕ) (m : Marks) (source destination : Bool) (i : ℕ) → near_or_special c p k (special_of m) i ≡ false →
    hosts_hold c p k m source destination i ≡ false
far_hosts c p k m source destination i e =
    let f = masked_holds p.source.first c.sources.first k in
    let g = masked_holds p.destination.first c.destinations.first k in
    far (masked_holds p.head c.heads k) (is_set m.sources.tabled i) (is_set m.sources.inverted i) (is_set m.destinations.tabled i) (is_set m.destinations.inverted i) f g
    (if p.is_v6 then rest_of p.source c.sources k else true) (if p.is_v6 then rest_of p.destination c.destinations k else true) source destination
    (sym (ap (λ (b : Bool). masked_holds p.head c.heads k && (b || (f && g))) (four m i)) ∙ e)

neither : (h s t sp : Bool) → (h && (s && t)) ≡ false → (h && sp) ≡ false → (h && (sp || (s && t))) ≡ false
neither false s t sp d e = refl
neither true s t false d e = d
neither true s t true d e = absurd (cc e)

-- masks that share no bit with the heads
pub none_near : (near heads special i : ℕ) (h s t : Bool) → is_set heads i ≡ h → is_set near i ≡ (h && (s && t)) → near ≡ 0 → bit_and heads special ≡ 0 →
    (h && (is_set special i || (s && t))) ≡ false
none_near near heads special i h s t is all none apart =
    neither h s t (is_set special i) (sym all ∙ unset near i none)
    (ap (λ (b : Bool). b && is_set special i) (sym is) ∙ sym (is_set-and heads special i) ∙ unset (bit_and heads special) i apart)

pub is_zero : (n : ℕ) → not (nat_eq n 0) ≡ false → n ≡ 0
is_zero n e = grind (arith, nat_tests)

-- An address is made of the numbers that were read.
use Rattle.std.proofs.{Common.{◌≡◌, ℕ, ◌+◌, ◌-◌, ◌<◌, ◌≤◌, ◌&&◌, Bool, true, false, List, [], ◌∷◌, ◌++◌, length, take, drop, replicate, Some, None, Result, Ok, Err, refl, sym, ap, ◌∙◌, arith, le-leb, eq-eqb, ne_eqb}, lemmas.Bool.Decides.nat_tests, lemmas.List.{take_at, take-take, take-replicate}, Math.Seq.take-append-add}
use Rattle.std.specs.{Prelude.{◌⊎◌, ◌≢◌, nat_le}, Int.{from_be_bytes, w32}}
use Rattle.pf_addr.specs.{Collected.{parts_of, parts_kept, eight_groups, groups_of, groups_kept, last_kept}, Grammar.{v6_number, two_groups}, Reading.{parts_at, v4_of, v4_at, has, group_at, end_at, groups_at, v6_of, v6_around, gap, v6_at}}
use Rattle.pf_form.specs.Form.Forms.{◌>>=◌}
use Rattle.pf_addr.specs.declared.{fault.AddrFault.AddrFault, fault.AddrFault.TheVariants.BadGroups, ipv6_text.Groups.Groups, reading.Parts.Parts}

-- ---- what was kept of what was read

kept_fault : {A S B : Type 0} (r : Result A AddrFault) (make : A → S) (f : A → Result B AddrFault) (e : AddrFault) → Err e ≡ (r >>= λ x. Ok (make x)) → (r >>= f) ≡ Err e
kept_fault (Ok x) make f e is = absurd cc
kept_fault (Err d) make f e is = let same : d ≡ e = cc in ap (λ (x : AddrFault). Err x) same

kept_ok : {A S : Type 0} (r : Result A AddrFault) (make : A → S) (s : S) → Ok s ≡ (r >>= λ x. Ok (make x)) → (x : A) × (r ≡ Ok x) × (s ≡ make x)
kept_ok (Ok x) make s is = let same : s ≡ make x = cc in (x, refl, same)
kept_ok (Err d) make s is = absurd cc

-- ---- V4

pub v4_fault : (fewest at : ℕ) (text : List ℕ) (e : AddrFault) → Err e ≡ parts_kept at text → v4_at fewest at text ≡ Err e
unfolding v4_at
v4_fault fewest at text e is = kept_fault (parts_at at text) parts_of (v4_of fewest at) e is

pub v4_read : (fewest at : ℕ) (text : List ℕ) (p : Parts) → Ok p ≡ parts_kept at text → fewest ≤ p.count → p.count ≤ 4 → v4_at fewest at text ≡ Ok (from_be_bytes w32 p.bytes)
unfolding v4_at
v4_read fewest at text p is enough few =
    let (ps, read, kept) = kept_ok (parts_at at text) parts_of p is in
    let size : p.count ≡ length ps = ap (λ (q : Parts). q.count) kept in
    let low = le-leb fewest (length ps) (omega (arith, size, enough)) in
    let high = le-leb (length ps) 4 (omega (arith, size, few)) in
    rw (read, low, high) (ap (λ (q : Parts). Ok (from_be_bytes w32 q.bytes)) (sym kept))

pub v4_wrong : (fewest at : ℕ) (text : List ℕ) (p : Parts) → Ok p ≡ parts_kept at text → (p.count < fewest) ⊎ (4 < p.count) → v4_at fewest at text ≡ Err (BadGroups at)
unfolding v4_at
v4_wrong fewest at text p is wrong =
    let (ps, read, kept) = kept_ok (parts_at at text) parts_of p is in
    let size : p.count ≡ length ps = ap (λ (q : Parts). q.count) kept in
    let refused : (nat_le fewest (length ps) && nat_le (length ps) 4) ≡ false = rw (← size) (grind (arith, nat_tests)) in
    rw (read, refused) refl

-- ---- V6

pub last_v4_fault : (before : List ℕ) (ends : Bool) (at : ℕ) (text : List ℕ) (e : AddrFault) → (ends && has 46 text) ≡ true → Err e ≡ v4_at 4 at text → last_kept before ends at text ≡ Err e
unfolding end_at
last_v4_fault before ends at text e v4 is = rw (v4, ← is) refl

pub last_v4 : (before : List ℕ) (ends : Bool) (at : ℕ) (text : List ℕ) (n : ℕ) → (ends && has 46 text) ≡ true → Ok n ≡ v4_at 4 at text → last_kept before ends at text ≡ Ok (groups_of (before ++ two_groups n))
unfolding end_at
last_v4 before ends at text n v4 is = rw (v4, ← is) refl

pub last_group_fault : (before : List ℕ) (ends : Bool) (at : ℕ) (text : List ℕ) (e : AddrFault) → (ends && has 46 text) ≡ false → Err e ≡ group_at at text → last_kept before ends at text ≡ Err e
unfolding end_at
last_group_fault before ends at text e group is = rw (group, ← is) refl

pub last_group : (before : List ℕ) (ends : Bool) (at : ℕ) (text : List ℕ) (n : ℕ) → (ends && has 46 text) ≡ false → Ok n ≡ group_at at text → last_kept before ends at text ≡ Ok (groups_of (before ++ n ∷ []))
unfolding end_at
last_group before ends at text n group is = rw (group, ← is) refl

pub whole_fault : (text : List ℕ) (e : AddrFault) → gap text ≡ None → Err e ≡ groups_kept true 0 text → v6_at text ≡ Err e
unfolding v6_at
whole_fault text e none is = rw none (kept_fault (groups_at true 0 text) groups_of v6_of e is)

pub whole_wrong : (text : List ℕ) (g : Groups) → gap text ≡ None → Ok g ≡ groups_kept true 0 text → g.count ≢ 8 → v6_at text ≡ Err (BadGroups 0)
unfolding v6_at
whole_wrong text g none is other =
    let (gs, read, kept) = kept_ok (groups_at true 0 text) groups_of g is in
    let size : g.count ≡ length gs = ap (λ (h : Groups). h.count) kept in
    let not_eight = ne_eqb (length gs) 8 (λ e. other (size ∙ e)) in
    rw (none, read, not_eight) refl

pub whole_read : (text : List ℕ) (g : Groups) → gap text ≡ None → Ok g ≡ groups_kept true 0 text → g.count ≡ 8 → v6_at text ≡ Ok (v6_number g.numbers)
unfolding v6_at
whole_read text g none is eight =
    let (gs, read, kept) = kept_ok (groups_at true 0 text) groups_of g is in
    let size : length gs ≡ 8 = sym (ap (λ (h : Groups). h.count) kept) ∙ eight in
    let test = eq-eqb (length gs) 8 size in
    let numbers : g.numbers ≡ gs = ap (λ (h : Groups). h.numbers) kept ∙ take_at gs (replicate 8 0) 8 size in
    rw (none, read, test) (ap (λ (l : List ℕ). Ok (v6_number l)) (sym numbers))

pub front_fault : (text : List ℕ) (i : ℕ) (e : AddrFault) → gap text ≡ Some i → Err e ≡ groups_kept false 0 (take i text) → v6_at text ≡ Err e
unfolding v6_at
front_fault text i e some is = rw some (kept_fault (groups_at false 0 (take i text)) groups_of (λ front. groups_at true (i + 2) (drop (i + 2) text) >>= v6_around front) e is)

pub back_fault : (text : List ℕ) (i : ℕ) (f : Groups) (e : AddrFault) → gap text ≡ Some i → Ok f ≡ groups_kept false 0 (take i text) → Err e ≡ groups_kept true (i + 2) (drop (i + 2) text) → v6_at text ≡ Err e
unfolding v6_at
back_fault text i f e some front is =
    let (fs, read, kept) = kept_ok (groups_at false 0 (take i text)) groups_of f front in
    rw (some, read) (kept_fault (groups_at true (i + 2) (drop (i + 2) text)) groups_of (v6_around fs) e is)

pub cut_wrong : (text : List ℕ) (i : ℕ) (f b : Groups) → gap text ≡ Some i → Ok f ≡ groups_kept false 0 (take i text) → Ok b ≡ groups_kept true (i + 2) (drop (i + 2) text) → 7 < f.count + b.count → v6_at text ≡ Err (BadGroups 0)
unfolding v6_at
cut_wrong text i f b some front back many =
    let (fs, read_f, kept_f) = kept_ok (groups_at false 0 (take i text)) groups_of f front in
    let (bs, read_b, kept_b) = kept_ok (groups_at true (i + 2) (drop (i + 2) text)) groups_of b back in
    let size : 7 < length fs + length bs = omega (arith, ap (λ (h : Groups). h.count) kept_f, ap (λ (h : Groups). h.count) kept_b, many) in
    let test : nat_le (length fs + length bs) 7 ≡ false = grind (arith, nat_tests) in
    rw (some, read_f, read_b, test) refl

around : (fs bs : List ℕ) → length fs + length bs ≤ 7 → take (8 - length bs) (eight_groups fs) ++ take (length bs) (eight_groups bs) ≡ fs ++ replicate (8 - (length fs + length bs)) 0 ++ bs
around fs bs few =
    let room : 8 - length bs ≡ length fs + (8 - (length fs + length bs)) = omega arith in
    let front : take (8 - length bs) (eight_groups fs) ≡ fs ++ replicate (8 - (length fs + length bs)) 0 =
    take-take (8 - length bs) 8 (fs ++ replicate 8 0) (omega arith)
    ∙ ap (λ (n : ℕ). take n (fs ++ replicate 8 0)) room
    ∙ take-append-add fs (replicate 8 0) (8 - (length fs + length bs))
    ∙ ap (λ (l : List ℕ). fs ++ l) (take-replicate (8 - (length fs + length bs)) 8 0 (omega arith)) in
    let back : take (length bs) (eight_groups bs) ≡ bs = take-take (length bs) 8 (bs ++ replicate 8 0) (omega arith) ∙ take_at bs (replicate 8 0) (length bs) refl in
    rw (front, back) refl

pub cut_read : (text : List ℕ) (i : ℕ) (f b : Groups) → gap text ≡ Some i → Ok f ≡ groups_kept false 0 (take i text) → Ok b ≡ groups_kept true (i + 2) (drop (i + 2) text) → f.count + b.count ≤ 7 → v6_at text ≡ Ok (v6_number (take (8 - b.count) f.numbers ++ take b.count b.numbers))
unfolding v6_at
cut_read text i f b some front back few =
    let (fs, read_f, kept_f) = kept_ok (groups_at false 0 (take i text)) groups_of f front in
    let (bs, read_b, kept_b) = kept_ok (groups_at true (i + 2) (drop (i + 2) text)) groups_of b back in
    let size : length fs + length bs ≤ 7 = omega (arith, ap (λ (h : Groups). h.count) kept_f, ap (λ (h : Groups). h.count) kept_b, few) in
    let test = le-leb (length fs + length bs) 7 size in
    let same : take (8 - b.count) f.numbers ++ take b.count b.numbers ≡ fs ++ replicate (8 - (length fs + length bs)) 0 ++ bs =
    ap (λ (g : Groups). take (8 - b.count) g.numbers ++ take b.count b.numbers) kept_f ∙ ap (λ (g : Groups). take (8 - g.count) (eight_groups fs) ++ take g.count g.numbers) kept_b ∙ around fs bs size in
    rw (some, read_f, read_b, test) (ap (λ (l : List ℕ). Ok (v6_number l)) (sym same))

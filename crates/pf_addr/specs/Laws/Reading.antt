-- A text is read as an address or a network exactly where it spells one.
use Rattle.std.proofs.{Common.{◌≡◌, ℕ, ◌+◌, ◌-◌, ◌<◌, ◌≤◌, ◌==◌, Bool, true, false, List, [], ◌∷◌, ◌++◌, length, take, drop, replicate, Option, Some, None, Result, Ok, Err, inl, inr, refl, sym, ap, ◌∙◌, subst, arith, append_assoc, eq-eqb}, lemmas.Bool.le-leb, lemmas.Bool.Decides.{leb_tells, eqb_tells, nat_tests}, lemmas.List.{length-append, length-replicate, take_at, drop_at}, lemmas.List.Elements.{All-nil, All-cons, All-append, All-head, All-tail}, lemmas.List.Splits.join_with_byte-slice_split}
use Rattle.std.specs.{Prelude.{◌⊎◌, IfOk}, Char.digit_value, List.{position, join_with_byte, All}, Option.ok_or, Str.Parse.{AllDigits, digits_value}}
use Rattle.pf_addr.specs.{Address.{PlainNet, width, family_of, network_from, network_of}, Grammar.{is_other, is_short, pieces, IsNumber, Dotted, v4_number, SpellsV4, IsGroup, Grouped, two_groups, EndGrouped, Shortened, v6_number, SpellsV6, Spells, SpellsAddr, SpellsFront, SpellsNet}, Reading.{kept_to, small_number, part_fault, part_at, piece_by, group_at, single, pieces_at, parts_at, v4_of, v4_at, has, end_at, groups_at, v6_of, v6_around, gap, v6_by, v6_at, family_at, address_at, addr_at, is_slash, length_at, front_at, cut_at, net_at}, Laws.{Places.{without, no_place, place_after, cut_there}, Digits.{none_in_digits, all_digits, digits_all}, Gaps.{Clean, no_gap, gap_after, gap_cut}, Pieces.{Alone, zip_length, zip_all, all_read, run_read, run_found, alone_found, run_alone, all_found, has_between, has_there}}}
use Rattle.pf_form.specs.{Form.{Forms.◌>>=◌, Numbers.number_of}, Laws.Form.{Decided.bind_ok, Numbers.{number_only, number_found}}}
use Rattle.pf_addr.specs.declared.{addr.Addr.Addr, fault.AddrFault.AddrFault, fault.AddrFault.TheVariants.BadLength}
use Rattle.pf_addr.specs.declared.addr.Addr.TheVariants as addr

-- ---- one number

pub small_read : (most : ℕ) (text : List ℕ) (n : ℕ) → IsNumber most text n → small_number most text ≡ Some n
small_read most text n is = rw (number_only 3 text n is.number, le-leb n most is.small) refl

pub small_found : (most : ℕ) (text : List ℕ) (n : ℕ) → small_number most text ≡ Some n → IsNumber most text n
small_found most text n e = by (number_of 3 text) refl e where
  by : (o : Option ℕ) → number_of 3 text ≡ o → kept_to most o ≡ Some n → IsNumber most text n
  by None h e = absurd cc
  by (Some m) h e = elim (leb_tells m most) [
    | inl small ↦
        let is : m ≡ n = let kept = rw small.0 at e in cc in
        record { number = number_found 3 text n (h ∙ ap (λ (k : ℕ). Some k) is); small = omega (arith, is, small.1) }
    | inr big ↦ let none = rw big.0 at e in absurd cc
  ]

given : (o : Option ℕ) (f : AddrFault) (n : ℕ) → ok_or o f ≡ Ok n → o ≡ Some n
given (Some m) f n e = cc
given None f n e = absurd cc

pub part_read : (at : ℕ) (p : List ℕ) (n : ℕ) → IsNumber 255 p n → part_at at p ≡ Ok n
unfolding part_at
part_read at p n is = rw (small_read 255 p n is) refl

pub part_found : (at : ℕ) (p : List ℕ) (n : ℕ) → part_at at p ≡ Ok n → IsNumber 255 p n
unfolding part_at
part_found at p n e = small_found 255 p n (given (small_number 255 p) (part_fault at p) n e)

pub group_read : (at : ℕ) (p : List ℕ) (n : ℕ) → IsGroup p n → group_at at p ≡ Ok n
unfolding group_at
group_read at p n is =
    let some : (length p == 0) ≡ false = let lt = is.digits.0 in grind (arith, nat_tests) in
    rw (digits_all 16 p is.digits.1, some, le-leb (length p) 4 is.few) (ap (λ (k : ℕ). Ok k) is.value)

pub group_found : (at : ℕ) (p : List ℕ) (n : ℕ) → group_at at p ≡ Ok n → IsGroup p n
unfolding group_at
group_found at p n e = by (position (is_other 16) p) refl e where
  by : (o : Option ℕ) → position (is_other 16) p ≡ o → piece_by 16 is_short at p o ≡ Ok n → IsGroup p n
  by (Some i) h e = absurd cc
  by None h e = elim (eqb_tells (length p) 0) [
    | inl none ↦ let no = rw none.0 at e in absurd cc
    | inr some ↦ elim (leb_tells (length p) 4) [
      | inl few ↦
          let is : digits_value 16 p ≡ n = let made = rw (some.0, few.0) at e in cc in
          record { digits = (omega (arith, some.1), all_digits 16 p h); few = few.1; value = is }
      | inr many ↦ let no = rw (some.0, many.0) at e in absurd cc
    ]
  ]

-- ---- the bytes of a text are those of its pieces and of what is between them

pub joined_bytes : (P : ℕ → Type 0) (c : ℕ) (ps : List (List ℕ)) → P c → All (All P) ps → All P (join_with_byte c ps)
joined_bytes P c [] sep all = All-nil P
joined_bytes P c (p ∷ []) sep all = All-head (All P) p [] all
joined_bytes P c (p ∷ q ∷ ps) sep all =
    let others : List ℕ = join_with_byte c (q ∷ ps) in
    All-append P p (c ∷ others) (All-head (All P) p (q ∷ ps) all) (All-cons P c others sep (joined_bytes P c (q ∷ ps) sep (All-tail (All P) p (q ∷ ps) all)))

pub pieces_bytes : (P : ℕ → Type 0) (c : ℕ) (text : List ℕ) → P c → All (All P) (pieces c text) → All P text
pieces_bytes P c [] sep all = All-nil P
pieces_bytes P c (b ∷ bs) sep all = subst (All P) (join_with_byte-slice_split c (b ∷ bs)) (joined_bytes P c (pieces c (b ∷ bs)) sep all)

pub dotted_bytes : (P : ℕ → Type 0) (ns text : List ℕ) → P 46 → ((digits : List ℕ) → AllDigits 10 digits → All P digits) → Dotted ns text → All P text
dotted_bytes P ns text dot digits is = pieces_bytes P 46 text dot (zip_all (IsNumber 255) (All P) (pieces 46 text) ns (λ p n h. digits p h.number.digits.1) is)

-- ---- V4

pub v4_read : (fewest at : ℕ) (text : List ℕ) (n : ℕ) → SpellsV4 fewest text n → v4_at fewest at text ≡ Ok n
unfolding v4_at
v4_read fewest at text n is =
    let parts = all_read (IsNumber 255) part_at (single part_at) part_read (λ k p m h. rw (part_read k p m h) refl) at (pieces 46 text) is.parts is.dotted in
    rw (parts, le-leb fewest (length is.parts) is.enough, le-leb (length is.parts) 4 is.few) (ap (λ (k : ℕ). Ok k) (sym is.value))

pub v4_found : (fewest at : ℕ) (text : List ℕ) (n : ℕ) → v4_at fewest at text ≡ Ok n → SpellsV4 fewest text n
unfolding v4_at
v4_found fewest at text n e =
    let (parts, read, made) = bind_ok (parts_at at text) (v4_of fewest at) n e in
    let dotted = all_found (IsNumber 255) part_at part_found at (pieces 46 text) parts read in
    elim (leb_tells fewest (length parts)) [
      | inl enough ↦ elim (leb_tells (length parts) 4) [
        | inl few ↦ let is : n ≡ v4_number parts = let m = rw (enough.0, few.0) at made in cc in record { parts = parts; dotted = dotted; enough = enough.1; few = few.1; value = is }
        | inr many ↦ let no = rw (enough.0, many.0) at made in absurd cc
      ]
      | inr missing ↦ let no = rw missing.0 at made in absurd cc
    ]

v4_without : (c fewest : ℕ) (text : List ℕ) (n : ℕ) → ((46 == c) ≡ false) → 10 ≤ digit_value c → SpellsV4 fewest text n → without c text
v4_without c fewest text n dot le is = dotted_bytes (λ b. (b == c) ≡ false) is.parts text dot (λ ds all. none_in_digits 10 c ds le all) is.dotted

pub v4_some : (fewest : ℕ) (text : List ℕ) (n : ℕ) → 0 < fewest → SpellsV4 fewest text n → 0 < length text
v4_some fewest [] n lt is = absurd (omega (arith, zip_length (IsNumber 255) [] is.parts is.dotted, is.enough))
v4_some fewest (b ∷ bs) n lt is = omega arith

-- ---- V6

pub end_group : (ends : Bool) (at : ℕ) (p : List ℕ) (n : ℕ) → IsGroup p n → end_at ends at p ≡ Ok (n ∷ [])
unfolding end_at
end_group true at p n is = rw (no_place 46 p (none_in_digits 16 46 p (omega arith) is.digits.1), group_read at p n is) refl
end_group false at p n is = rw (group_read at p n is) refl

pub end_v4 : (at : ℕ) (p : List ℕ) (n : ℕ) → SpellsV4 4 p n → end_at true at p ≡ Ok (two_groups n)
unfolding end_at
end_v4 at p n is = rw (has_between 46 p (omega (arith, zip_length (IsNumber 255) (pieces 46 p) is.parts is.dotted, is.enough)), v4_read 4 at p n is) refl

pub grouped_read : (ends : Bool) (at : ℕ) (text groups : List ℕ) → Grouped groups text → groups_at ends at text ≡ Ok groups
grouped_read ends at text groups is = all_read IsGroup group_at (end_at ends) group_read (end_group ends) at (pieces 58 text) groups is

pub ended_read : (at : ℕ) (text groups : List ℕ) → EndGrouped groups text → groups_at true at text ≡ Ok groups
ended_read at text groups (inl is) = grouped_read true at text groups is
ended_read at text groups (inr is) = rw (is.cut, is.value) (run_read IsGroup (λ p ns. (n : ℕ) × SpellsV4 4 p n × (ns ≡ two_groups n)) group_at (end_at true) group_read (λ k p ns e. rw e.2 (end_v4 k p e.0 e.1)) at is.front is.last is.before (two_groups is.number) is.grouped (is.number, is.v4, refl))

-- the last piece is a group or a V4 address
abbrev End : List ℕ → List ℕ → Type 0
End p ns = Alone IsGroup p ns ⊎ ((n : ℕ) × SpellsV4 4 p n × (ns ≡ two_groups n))

pub end_found : (at : ℕ) (p ns : List ℕ) → end_at true at p ≡ Ok ns → End p ns
unfolding end_at
end_found at p ns e = by (has 46 p) refl where
  by : (b : Bool) → has 46 p ≡ b → End p ns
  by true h =
      let all = bind_ok (v4_at 4 at p) (λ n. Ok (two_groups n)) ns (rw h at e) in
      let is : ns ≡ two_groups all.0 = cc in
      inr (all.0, v4_found 4 at p all.0 all.1, is)
  by false h = inl (alone_found IsGroup group_at group_found at p ns (rw h at e))

pub grouped_found : (at : ℕ) (text groups : List ℕ) → groups_at false at text ≡ Ok groups → Grouped groups text
unfolding end_at
grouped_found at text groups e = all_found IsGroup group_at group_found at (pieces 58 text) groups e

pub ended_found : (at : ℕ) (text groups : List ℕ) → groups_at true at text ≡ Ok groups → EndGrouped groups text
unfolding pieces_at
ended_found at text groups e = by (pieces 58 text) refl e where
  by : (ps : List (List ℕ)) → pieces 58 text ≡ ps → pieces_at group_at (end_at true) at ps ≡ Ok groups → EndGrouped groups text
  by [] h e = let none : [] ≡ groups = cc in inl (rw (h, ← none) tt)
  by (p ∷ ps) h e =
      let run = run_found IsGroup End group_at (end_at true) group_found end_found at p ps groups e in
      elim run.end [
        | inl one ↦ inl (rw h (run_alone IsGroup (p ∷ ps) groups (record { front = run.front; last = run.last; before = run.before; rest = run.rest; cut = run.cut; zip = run.zip; end = one; value = run.value })))
        | inr v4 ↦ inr (record { front = run.front; last = run.last; before = run.before; number = v4.0; cut = h ∙ run.cut; grouped = run.zip; v4 = v4.1; value = run.value ∙ ap (λ (l : List ℕ). run.before ++ l) v4.2 })
      ]

-- what is true of groups and of V4 addresses is true of each piece
ended_all : (P : List ℕ → Type 0) → ((p : List ℕ) (n : ℕ) → IsGroup p n → P p) → ((p : List ℕ) (n : ℕ) → SpellsV4 4 p n → P p) → (text groups : List ℕ) → EndGrouped groups text → All P (pieces 58 text)
ended_all P group v4 text groups (inl is) = zip_all IsGroup P (pieces 58 text) groups group is
ended_all P group v4 text groups (inr is) = rw is.cut (All-append P is.front (is.last ∷ []) (zip_all IsGroup P is.front is.before group is.grouped) (All-cons P is.last [] (v4 is.last is.number is.v4) (All-nil P)))

ended_clean : (text groups : List ℕ) → EndGrouped groups text → All Clean (pieces 58 text)
ended_clean = ended_all Clean
    (λ p n is. record { some = is.digits.0; without_colon = none_in_digits 16 58 p (omega arith) is.digits.1 })
    (λ p n is. record { some = v4_some 4 p n (omega arith) is; without_colon = v4_without 58 4 p n refl (omega arith) is })

-- a byte that is no digit of a group and doesn't separate pieces
pub record Outside (c : ℕ) : Type 0 where
  pub digit : 16 ≤ digit_value c
  pub dot : (46 == c) ≡ false
  pub colon : (58 == c) ≡ false

ended_without : (c : ℕ) (text groups : List ℕ) → Outside c → EndGrouped groups text → without c text
ended_without c text groups out is = pieces_bytes (λ b. (b == c) ≡ false) 58 text out.colon (ended_all (without c) (λ p n group. none_in_digits 16 c p out.digit group.digits.1) (λ p n v4. v4_without c 4 p n out.dot (omega (arith, out.digit)) v4) text groups is)

-- what comes after a text and so many bytes more
abbrev at_gap : List ℕ → List ℕ → List ℕ
at_gap front back = front ++ 58 ∷ 58 ∷ back

pub after_gap : (front back : List ℕ) → drop (length front + 2) (at_gap front back) ≡ back
after_gap front back = ap (drop (length front + 2)) (sym (append_assoc front (58 ∷ 58 ∷ []) back)) ∙ drop_at (front ++ 58 ∷ 58 ∷ []) back (length front + 2) (length-append front (58 ∷ 58 ∷ []))

v6_read : (text : List ℕ) (n : ℕ) → SpellsV6 text n → v6_at text ≡ Ok n
unfolding v6_at
v6_read text n is = by is.spelled where
  by : EndGrouped is.groups text ⊎ Shortened is.groups text → v6_at text ≡ Ok n
  by (inl whole) = rw (no_gap text (ended_clean text is.groups whole), ended_read 0 text is.groups whole, eq-eqb (length is.groups) 8 is.eight) (ap (λ (k : ℕ). Ok k) (sym is.value))
  by (inr short) =
      let size : length is.groups ≡ length short.before + short.zeros + length short.following = ap length short.value ∙ simp (length-append, length-replicate) in
      let few : length short.before + length short.following ≤ 7 = omega (arith, size, is.eight, short.some) in
      let zeros : short.zeros ≡ 8 - (length short.before + length short.following) = omega (arith, size, is.eight) in
      let number : n ≡ v6_number (short.before ++ replicate (8 - (length short.before + length short.following)) 0 ++ short.following) = is.value ∙ ap v6_number short.value ∙ ap (λ (k : ℕ). v6_number (short.before ++ replicate k 0 ++ short.following)) zeros in
      rw (short.cut, gap_after short.front short.back (ended_clean short.front short.before (inl short.grouped)), take_at short.front (58 ∷ 58 ∷ short.back) (length short.front) refl, after_gap short.front short.back, grouped_read false 0 short.front short.before short.grouped, ended_read (length short.front + 2) short.back short.following short.ended, le-leb (length short.before + length short.following) 7 few) (ap (λ (k : ℕ). Ok k) (sym number))

v6_found : (text : List ℕ) (n : ℕ) → v6_at text ≡ Ok n → SpellsV6 text n
unfolding v6_at
v6_found text n e = by (gap text) refl e where
  by : (o : Option ℕ) → gap text ≡ o → v6_by text o ≡ Ok n → SpellsV6 text n
  by None h e =
      let (groups, read, made) = bind_ok (groups_at true 0 text) v6_of n e in
      elim (eqb_tells (length groups) 8) [
        | inl eight ↦ let is : n ≡ v6_number groups = let m = rw eight.0 at made in cc in record { groups = groups; spelled = inl (ended_found 0 text groups read); eight = eight.1; value = is }
        | inr other ↦ let no = rw other.0 at made in absurd cc
      ]
  by (Some i) h e =
      let (fs, read, more) = bind_ok (groups_at false 0 (take i text)) (λ front. groups_at true (i + 2) (drop (i + 2) text) >>= v6_around front) n e in
      let (bs, read_back, made) = bind_ok (groups_at true (i + 2) (drop (i + 2) text)) (v6_around fs) n more in
      elim (leb_tells (length fs + length bs) 7) [
        | inl few ↦
            let is : n ≡ v6_number (fs ++ replicate (8 - (length fs + length bs)) 0 ++ bs) = let m = rw few.0 at made in cc in
            let le = few.1 in
            let size : length (fs ++ replicate (8 - (length fs + length bs)) 0 ++ bs) ≡ 8 = simp (length-append, length-replicate) (omega arith) in
            record {
              groups = fs ++ replicate (8 - (length fs + length bs)) 0 ++ bs;
              spelled = inr (record {
                front = take i text;
                back = drop (i + 2) text;
                before = fs;
                following = bs;
                zeros = 8 - (length fs + length bs);
                cut = gap_cut text i h;
                grouped = grouped_found 0 (take i text) fs read;
                ended = ended_found (i + 2) (drop (i + 2) text) bs read_back;
                some = omega arith;
                value = refl;
              });
              eight = size;
              value = is;
            }
        | inr many ↦ let no = rw many.0 at made in absurd cc
      ]

v6_colon : (text : List ℕ) (n : ℕ) → SpellsV6 text n → has 58 text ≡ true
v6_colon text n is = by is.spelled where
  by : EndGrouped is.groups text ⊎ Shortened is.groups text → has 58 text ≡ true
  by (inl (inl all)) = has_between 58 text (omega (arith, zip_length IsGroup (pieces 58 text) is.groups all, is.eight))
  by (inl (inr v4)) = has_between 58 text (omega (arith, ap length v4.cut, length-append v4.front (v4.last ∷ []), zip_length IsGroup v4.front v4.before v4.grouped, ap length v4.value, length-append v4.before (two_groups v4.number), is.eight))
  by (inr short) = rw short.cut (has_there 58 short.front (58 ∷ short.back))

-- ---- an address

pub address_read : (fewest : ℕ) (text : List ℕ) (a : Addr) → 0 < fewest → Spells fewest text a → address_at fewest text ≡ Ok a
unfolding address_at
address_read fewest text (addr.V4 n) lt is =
    let some : (length text == 0) ≡ false = let le = v4_some fewest text n lt is in grind (arith, nat_tests) in
    rw (some, no_place 58 text (v4_without 58 fewest text n refl (omega arith) is), v4_read fewest 0 text n is) refl
address_read fewest text (addr.V6 n) lt is =
    let colon = v6_colon text n is in
    let some : (length text == 0) ≡ false = by text colon in
    rw (some, colon, v6_read text n is) refl where
      by : (l : List ℕ) → has 58 l ≡ true → (length l == 0) ≡ false
      by [] h = absurd cc
      by (b ∷ bs) h = grind (arith, nat_tests)

pub address_found : (fewest : ℕ) (text : List ℕ) (a : Addr) → address_at fewest text ≡ Ok a → Spells fewest text a
unfolding address_at
address_found fewest text a e = elim (eqb_tells (length text) 0) [
  | inl none ↦ let no = rw none.0 at e in absurd cc
  | inr some ↦ by (has 58 text) (rw some.0 at e)
] where
  by : (b : Bool) → family_at fewest text b ≡ Ok a → Spells fewest text a
  by true e =
      let all = bind_ok (v6_at text) (λ n. Ok (addr.V6 n)) a e in
      let is : addr.V6 all.0 ≡ a = cc in
      subst (Spells fewest text) is (v6_found text all.0 all.1)
  by false e =
      let all = bind_ok (v4_at fewest 0 text) (λ n. Ok (addr.V4 n)) a e in
      let is : addr.V4 all.0 ≡ a = cc in
      subst (Spells fewest text) is (v4_found fewest 0 text all.0 all.1)

pub addr_found : (text : List ℕ) (a : Addr) → addr_at text ≡ Ok a → SpellsAddr text a
unfolding SpellsAddr
addr_found text a e = address_found 4 text a e

pub addr_if_ok : (text : List ℕ) (r : Result Addr AddrFault) → r ≡ addr_at text → IfOk r (λ a. SpellsAddr text a)
addr_if_ok text (Ok a) e = addr_found text a (sym e)
addr_if_ok text (Err f) e = tt

pub addr_only : (text : List ℕ) (a : Addr) → SpellsAddr text a → addr_at text ≡ Ok a
unfolding SpellsAddr
addr_only text a is = address_read 4 text a (omega arith) is

-- ---- a network

addr_without : (c fewest : ℕ) (text : List ℕ) (a : Addr) → Outside c → Spells fewest text a → without c text
addr_without c fewest text (addr.V4 n) out is = v4_without c fewest text n out.dot (omega (arith, out.digit)) is
addr_without c fewest text (addr.V6 n) out is = by is.spelled where
  by : EndGrouped is.groups text ⊎ Shortened is.groups text → without c text
  by (inl whole) = ended_without c text is.groups out whole
  by (inr short) =
      let others = All-cons (λ b. (b == c) ≡ false) 58 (58 ∷ short.back) out.colon (All-cons (λ b. (b == c) ≡ false) 58 short.back out.colon (ended_without c short.back short.following out short.ended)) in
      rw short.cut (All-append (λ b. (b == c) ≡ false) short.front (58 ∷ 58 ∷ short.back) (ended_without c short.front short.before out (inl short.grouped)) others)

pub no_slash : (fewest : ℕ) (text : List ℕ) (a : Addr) → Spells fewest text a → without 47 text
no_slash fewest text a is = addr_without 47 fewest text a (record { digit = omega arith; dot = refl; colon = refl }) is

-- a byte that is in no network's text
pub net_without : (c : ℕ) (text : List ℕ) (net : PlainNet) → Outside c → ((47 == c) ≡ false) → SpellsNet text net → without c text
unfolding SpellsNet SpellsAddr
net_without c text net out slash (inl (a, spelled, is)) = addr_without c 4 text a out spelled
net_without c text net out slash (inr is) =
    let digits = none_in_digits 10 c is.digits (omega (arith, out.digit)) is.number.number.digits.1 in
    rw is.cut (All-append (λ b. (b == c) ≡ false) is.front (47 ∷ is.digits) (addr_without c 1 is.front is.first out is.address) (All-cons (λ b. (b == c) ≡ false) 47 is.digits slash digits))

front_found : (text : List ℕ) (i : ℕ) (net : PlainNet) → position is_slash text ≡ Some i → cut_at text (Some i) ≡ Ok net → SpellsFront text net
front_found text i net p e =
    let digits : List ℕ = drop (i + 1) text in
    let (a, read, made) = bind_ok (address_at 1 (take i text)) (front_at (i + 1) digits) net e in
    let last = bind_ok (length_at (width (family_of a)) (i + 1) digits) (λ len. Ok (network_from a len)) net made in
    let is_net : net ≡ network_from a last.0 = cc in
    record {
      front = take i text;
      digits = digits;
      first = a;
      len = last.0;
      address = address_found 1 (take i text) a read;
      number = small_found (width (family_of a)) digits last.0 (given (small_number (width (family_of a)) digits) (BadLength (i + 1)) last.0 last.1);
      cut = cut_there 47 text i p;
      value = is_net;
    }

pub net_found : (text : List ℕ) (net : PlainNet) → net_at text ≡ Ok net → SpellsNet text net
unfolding SpellsNet
net_found text net e = by (position is_slash text) refl e where
  by : (o : Option ℕ) → position is_slash text ≡ o → cut_at text o ≡ Ok net → SpellsNet text net
  by None p e =
      let one = bind_ok (addr_at text) (λ a. Ok (network_of a)) net e in
      let is : net ≡ network_of one.0 = cc in
      inl (one.0, addr_found text one.0 one.1, is)
  by (Some i) p e = inr (front_found text i net p e)

pub net_if_ok : (text : List ℕ) (r : Result PlainNet AddrFault) → r ≡ net_at text → IfOk r (λ n. SpellsNet text n)
net_if_ok text (Ok n) e = net_found text n (sym e)
net_if_ok text (Err f) e = tt

-- what comes after a text and one byte more
pub after_slash : (front digits : List ℕ) → drop (length front + 1) (front ++ 47 ∷ digits) ≡ digits
after_slash front digits = ap (drop (length front + 1)) (sym (append_assoc front (47 ∷ []) digits)) ∙ drop_at (front ++ 47 ∷ []) digits (length front + 1) (length-append front (47 ∷ []))

pub net_only : (text : List ℕ) (net : PlainNet) → SpellsNet text net → net_at text ≡ Ok net
unfolding SpellsNet SpellsAddr
net_only text net (inl (a, spelled, is)) = rw (no_place 47 text (no_slash 4 text a spelled), addr_only text a spelled, is) refl
net_only text net (inr is) =
    rw (is.cut, place_after 47 is.front is.digits (no_slash 1 is.front is.first is.address), take_at is.front (47 ∷ is.digits) (length is.front) refl, after_slash is.front is.digits, address_read 1 is.front is.first (omega arith) is.address, small_read (width (family_of is.first)) is.digits is.len is.number, is.value) refl

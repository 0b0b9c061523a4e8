-- A text that isn't an address or a network is refused with its fault by cases, and with no other.
use Rattle.std.proofs.{Common.{◌≡◌, ℕ, ◌+◌, ◌<◌, ◌≤◌, ◌==◌, ◌&&◌, Bool, true, false, List, [], ◌∷◌, ◌++◌, length, take, drop, Option, Some, None, Result, Ok, Err, inl, inr, refl, sym, ap, ◌∙◌, subst, arith}, lemmas.Bool.lt-leb, lemmas.Bool.Decides.{leb_tells, eqb_tells, nat_tests}, lemmas.List.{take_at, length-take, length-append, get_or-take}, lemmas.List.Elements.All-from_get_or, lemmas.List.Quantifiers.position-Some, lemmas.List.Sums.position_or_len_is}
use Rattle.std.specs.{Prelude.{◌⊎◌, ◌↔◌, nat_le, is_some, if◌then◌else◌}, List.{position, position_or_len, AllZip}, Option.ok_or, Str.Parse.digits_value}
use Rattle.pf_addr.specs.{Address.{width, family_of, network_from, network_of}, Laws.{Digits.{digits_all, all_digits}, Gaps.gap_cut, Pieces.{all_read, all_found}, Places.{without, first_none, no_place, place_after, cut_there}, Reading.{small_read, small_found, part_read, part_found, group_read, group_found, grouped_read, ended_read, grouped_found, ended_found, after_gap, address_read, address_found, after_slash}}, FaultCases.{FirstAt, Faulty, IsPieceFault, empty, no_digit, too_big, IsPartFault, IsGroupFault, start_after, where_last, IsFirstFault, IsV4Fault, bad_part, wrong_number, IsEndFault, end_v4, end_group, IsInnerFault, IsOuterFault, NoGap, FirstGap, IsV6Fault, bad_piece, bad_before, bad_after_gap, too_many, IsAddressFault, no_text, as_v6, as_v4, IsAddrFault, IsNetFault, no_slash, bad_address, bad_length}, Grammar.{is_other, is_small, is_short, pieces, IsNumber, IsGroup, two_groups, v4_number, v6_number}, Reading.{small_number, fault_by, part_at, piece_by, group_at, One, Last, single, pieces_at, parts_at, v4_of, v4_at, has, end_at, groups_at, begins_with_byte, v6_of, v6_around, gap, v6_by, v6_at, address_at, addr_at, is_slash, length_at, front_at, cut_at, net_at}}
use Rattle.pf_form.specs.{Form.{Forms.◌>>=◌, FaultsFound.TellsFaults}, Laws.Form.Decided.bind_err}
use Rattle.pf_addr.specs.declared.addr.Addr.TheVariants as addr
use Rattle.pf_addr.specs.declared.{fault.AddrFault.AddrFault, fault.AddrFault.TheVariants.{Empty, BadDigit, TooBig, BadLength, BadGroups}}

-- ---- places

pub first_found : (p : ℕ → Bool) (text : List ℕ) (i : ℕ) → position p text ≡ Some i → FirstAt p text i
first_found p text i e = let at = position-Some p text i 0 e in record { within = at.0; passes = at.1; before = at.2 }

pub first_read : (p : ℕ → Bool) (text : List ℕ) (i : ℕ) → FirstAt p text i → position p text ≡ Some i
first_read p text i first =
    let lt = first.within in
    let at : position_or_len p text ≡ i = position_or_len_is p text i 0 (omega arith) first.before (λ l. first.passes) in
    grind (arith, nat_tests)

-- ---- one piece

refused : (o : Option ℕ) (g f : AddrFault) → ok_or o g ≡ Err f → (o ≡ None) × (f ≡ g)
refused (Some n) g f e = absurd cc
refused None g f e = let same : f ≡ g = cc in (refl, same)

none_if : {A : Type 0} (o : Option A) → ((x : A) → o ≡ Some x → ⊥) → o ≡ None
none_if None never = refl
none_if (Some x) never = absurd (never x refl)

small_none : (most : ℕ) (text : List ℕ) → ((n : ℕ) → IsNumber most text n → ⊥) → small_number most text ≡ None
small_none most text never = none_if (small_number most text) (λ n e. never n (small_found most text n e))

pub length_none : (text : List ℕ) → length text ≡ 0 → text ≡ []
length_none [] e = refl
length_none (b ∷ bs) e = absurd (omega arith)

if_err : {A : Type 0} (t : Bool) (x : A) (e f : AddrFault) → (if t then Ok x else Err e) ≡ Err f → (t ≡ false) × (f ≡ e)
if_err true x e f is = absurd cc
if_err false x e f is = let same : f ≡ e = cc in (refl, same)

module _ (radix : ℕ) (fits : List ℕ → Bool) (at : ℕ) (p : List ℕ) (f : AddrFault) where
  piece_reported : piece_by radix fits at p (position (is_other radix) p) ≡ Err f → IsPieceFault radix fits at p f
  piece_reported e = by (position (is_other radix) p) refl e where
    by : (o : Option ℕ) → position (is_other radix) p ≡ o → piece_by radix fits at p o ≡ Err f → IsPieceFault radix fits at p f
    by (Some i) h e = let is : f ≡ BadDigit (at + i) = cc in no_digit i (first_found (is_other radix) p i h) is
    by None h e = elim (eqb_tells (length p) 0) [
      | inl none ↦ let is : f ≡ BadDigit at = let made = rw none.0 at e in cc in empty (length_none p none.1) is
      | inr some ↦ let no = if_err (fits p) (digits_value radix p) (TooBig at) f (rw some.0 at e) in too_big (omega (arith, some.1), all_digits radix p h) no.0 no.1
    ]

  piece_only : IsPieceFault radix fits at p f → piece_by radix fits at p (position (is_other radix) p) ≡ Err f
  piece_only (empty none is) = rw (none, is) refl
  piece_only (no_digit i first is) = rw (first_read (is_other radix) p i first, is) refl
  piece_only (too_big digits big is) =
      let some : (length p == 0) ≡ false = let lt = digits.0 in grind (arith, nat_tests) in
      rw (digits_all radix p digits.1, some, big, is) refl

part_is : (at : ℕ) (p : List ℕ) → part_at at p ≡ piece_by 10 is_small at p (position (is_other 10) p)
unfolding part_at
part_is at p = by (position (is_other 10) p) refl where
  by : (o : Option ℕ) → position (is_other 10) p ≡ o → ok_or (small_number 255 p) (fault_by at p o) ≡ piece_by 10 is_small at p o
  by (Some i) h = rw (small_none 255 p (λ n is. let all = digits_all 10 p is.number.digits.1 in absurd cc)) refl
  by None h = elim (eqb_tells (length p) 0) [
    | inl none ↦ rw (length_none p none.1) refl
    | inr some ↦ elim (leb_tells (length p) 3) [
      | inr many ↦ rw (small_none 255 p (λ n is. omega (arith, is.number.few, many.1)), some.0, many.0) refl
      | inl few ↦ elim (leb_tells (digits_value 10 p) 255) [
        | inr high ↦ rw (small_none 255 p (λ n is. omega (arith, is.number.value, is.small, high.1)), some.0, few.0, high.0) refl
        | inl small ↦ rw (small_read 255 p (digits_value 10 p) (record { number = record { digits = (omega (arith, some.1), all_digits 10 p h); few = few.1; value = refl }; small = small.1 }), some.0, few.0, small.0) refl
      ]
    ]
  ]

-- which faults are found
abbrev Tells : {A : Type 0} → (ℕ → List ℕ → Result A AddrFault) → Faulty → Type 0
Tells read Fault = (at : ℕ) (p : List ℕ) (f : AddrFault) → (read at p ≡ Err f) ↔ Fault at p f

part_tells : Tells part_at IsPartFault
part_tells at p f = (λ e. piece_reported 10 is_small at p f (sym (part_is at p) ∙ e), λ h. part_is at p ∙ piece_only 10 is_small at p f h)

group_tells : Tells group_at IsGroupFault
unfolding group_at
group_tells at p f = (piece_reported 16 is_short at p f, piece_only 16 is_short at p f)

-- ---- pieces in a row

-- which pieces are good, and which faults of the others are found
record Reported (Good : List ℕ → ℕ → Type 0) (inner last : Faulty) (one : One) (end : Last) : Type 0 where
  found : (at : ℕ) (p : List ℕ) (n : ℕ) → one at p ≡ Ok n → Good p n
  read : (at : ℕ) (p : List ℕ) (n : ℕ) → Good p n → one at p ≡ Ok n
  one_tells : Tells one inner
  end_tells : Tells end last

module _ (Good : List ℕ → ℕ → Type 0) (inner last : Faulty) (one : One) (end : Last) (is : Reported Good inner last one end) where
  row_reported : (at : ℕ) (ps : List (List ℕ)) (f : AddrFault) → pieces_at one end at ps ≡ Err f → IsFirstFault Good inner last at ps f
  unfolding pieces_at
  row_reported at [] f e = absurd cc
  row_reported at (p ∷ []) f e = record { front = []; piece = p; following = []; numbers = []; cut = refl; good = tt; faulty = (is.end_tells at p f).0 e }
  row_reported at (p ∷ q ∷ ps) f e =
      let others : Result (List ℕ) AddrFault = pieces_at one end (at + length p + 1) (q ∷ ps) in
      elim (bind_err (one at p) (λ n. others >>= λ ns. Ok (n ∷ ns)) f e) [
        | inl first ↦ record { front = []; piece = p; following = q ∷ ps; numbers = []; cut = refl; good = tt; faulty = (is.one_tells at p f).0 first }
        | inr (n, ok, rest) ↦ elim (bind_err others (λ ns. Ok (n ∷ ns)) f rest) [
          | inl fault ↦
              let more = row_reported (at + length p + 1) (q ∷ ps) f fault in
              record { front = p ∷ more.front; piece = more.piece; following = more.following; numbers = n ∷ more.numbers; cut = ap (λ (l : List (List ℕ)). p ∷ l) more.cut; good = (is.found at p n ok, more.good); faulty = more.faulty }
          | inr (ns, read, made) ↦ absurd cc
        ]
      ]

  row_only : (at : ℕ) (front : List (List ℕ)) (piece : List ℕ) (following : List (List ℕ)) (numbers : List ℕ) (f : AddrFault) → AllZip Good front numbers → where_last following inner last (start_after at front) piece f → pieces_at one end at (front ++ piece ∷ following) ≡ Err f
  unfolding pieces_at
  row_only at [] piece [] numbers f good faulty = (is.end_tells at piece f).1 faulty
  row_only at [] piece (q ∷ qs) numbers f good faulty = rw ((is.one_tells at piece f).1 faulty) refl
  row_only at (p ∷ front) piece following [] f good faulty = absurd good
  row_only at (p ∷ []) piece following (n ∷ ns) f good faulty = rw (is.read at p n good.0, row_only (at + length p + 1) [] piece following ns f good.1 faulty) refl
  row_only at (p ∷ g ∷ gs) piece following (n ∷ ns) f good faulty = rw (is.read at p n good.0, row_only (at + length p + 1) (g ∷ gs) piece following ns f good.1 faulty) refl

  row_tells : (c : ℕ) → Tells (λ at text. pieces_at one end at (pieces c text)) (λ at text f. IsFirstFault Good inner last at (pieces c text) f)
  row_tells c at text f = (row_reported at (pieces c text) f, λ h. ap (pieces_at one end at) h.cut ∙ row_only at h.front h.piece h.following h.numbers f h.good h.faulty)

single_tells : (inner : Faulty) (one : One) → Tells one inner → Tells (single one) inner
single_tells inner one tells at p f = (
  λ e. elim (bind_err (one at p) (λ n. Ok (n ∷ [])) f e) [ inl fault ↦ (tells at p f).0 fault | inr (n, ok, made) ↦ absurd cc ],
  λ h. rw ((tells at p f).1 h) refl,
)

-- ---- V4

parts_tell : Tells parts_at (λ at text f. IsFirstFault (IsNumber 255) IsPartFault IsPartFault at (pieces 46 text) f)
parts_tell = row_tells (IsNumber 255) IsPartFault IsPartFault part_at (single part_at) (record { found = part_found; read = part_read; one_tells = part_tells; end_tells = single_tells IsPartFault part_at part_tells }) 46

outside : (m n : ℕ) → (nat_le m n && nat_le n 4) ≡ false → (n < m) ⊎ (4 < n)
outside m n e = elim (leb_tells m n) [ inr few ↦ inl few.1 | inl enough ↦ inr (let test = rw enough.0 at e in grind (arith, nat_tests)) ]

v4_reported : (fewest at : ℕ) (text : List ℕ) (f : AddrFault) → v4_at fewest at text ≡ Err f → IsV4Fault fewest at text f
unfolding v4_at
v4_reported fewest at text f e = elim (bind_err (parts_at at text) (v4_of fewest at) f e) [
  | inl fault ↦ bad_part ((parts_tell at text f).0 fault)
  | inr (numbers, read, made) ↦
      let no = if_err (nat_le fewest (length numbers) && nat_le (length numbers) 4) (v4_number numbers) (BadGroups at) f made in
      wrong_number numbers (all_found (IsNumber 255) part_at part_found at (pieces 46 text) numbers read) (outside fewest (length numbers) no.0) no.1
]

v4_only : (fewest at : ℕ) (text : List ℕ) (f : AddrFault) → IsV4Fault fewest at text f → v4_at fewest at text ≡ Err f
unfolding v4_at
v4_only fewest at text f (bad_part first) = rw ((parts_tell at text f).1 first) refl
v4_only fewest at text f (wrong_number numbers good wrong is) =
    let read = all_read (IsNumber 255) part_at (single part_at) part_read (λ k p m h. rw (part_read k p m h) refl) at (pieces 46 text) numbers good in
    let test : (nat_le fewest (length numbers) && nat_le (length numbers) 4) ≡ false = elim wrong [ inl missing ↦ grind (arith, nat_tests) | inr many ↦ grind (arith, nat_tests) ] in
    rw (read, test, is) refl

-- ---- V6

has_tells : (c : ℕ) (text : List ℕ) → ((has c text ≡ true) × ((i : ℕ) × FirstAt (λ b. b == c) text i)) ⊎ ((has c text ≡ false) × without c text)
has_tells c text = by (position (λ b. b == c) text) refl where
  by : (o : Option ℕ) → position (λ b. b == c) text ≡ o → ((is_some o ≡ true) × ((i : ℕ) × FirstAt (λ b. b == c) text i)) ⊎ ((is_some o ≡ false) × without c text)
  by None h = inr (refl, first_none (λ b. b == c) text h)
  by (Some i) h = inl (refl, (i, first_found (λ b. b == c) text i h))

end_reported : (at : ℕ) (p : List ℕ) (f : AddrFault) → end_at true at p ≡ Err f → IsEndFault at p f
unfolding end_at
end_reported at p f e = elim (has_tells 46 p) [
  | inl (dot, first) ↦ elim (bind_err (v4_at 4 at p) (λ n. Ok (two_groups n)) f (rw dot at e)) [ inl fault ↦ end_v4 first.0 first.1 (v4_reported 4 at p f fault) | inr (n, read, made) ↦ absurd cc ]
  | inr none ↦ end_group none.1 ((single_tells IsGroupFault group_at group_tells at p f).0 (rw none.0 at e))
]

end_only : (at : ℕ) (p : List ℕ) (f : AddrFault) → IsEndFault at p f → end_at true at p ≡ Err f
unfolding end_at
end_only at p f (end_v4 i first fault) = rw (first_read (λ b. b == 46) p i first, v4_only 4 at p f fault) refl
end_only at p f (end_group none fault) = rw (no_place 46 p none, (group_tells at p f).1 fault) refl

inner_tells : Tells (groups_at false) IsInnerFault
unfolding end_at
inner_tells = row_tells IsGroup IsGroupFault IsGroupFault group_at (end_at false) (record { found = group_found; read = group_read; one_tells = group_tells; end_tells = single_tells IsGroupFault group_at group_tells }) 58

outer_tells : Tells (groups_at true) IsOuterFault
outer_tells = row_tells IsGroup IsGroupFault IsEndFault group_at (end_at true) (record { found = group_found; read = group_read; one_tells = group_tells; end_tells = λ at p f. (end_reported at p f, end_only at p f) }) 58

-- ---- the first `::`

gap_by : (f b : List ℕ) → (i : ℕ) × (gap (f ++ 58 ∷ 58 ∷ b) ≡ Some i) × (i ≤ length f)
unfolding gap
gap_by [] b = (0, refl, omega arith)
gap_by (x ∷ f) b = by (gap_by f b) ((x == 58) && begins_with_byte 58 (f ++ 58 ∷ 58 ∷ b)) refl where
  by : ((i : ℕ) × (gap (f ++ 58 ∷ 58 ∷ b) ≡ Some i) × (i ≤ length f)) → (t : Bool) → ((x == 58) && begins_with_byte 58 (f ++ 58 ∷ 58 ∷ b)) ≡ t → (i : ℕ) × (gap (x ∷ f ++ 58 ∷ 58 ∷ b) ≡ Some i) × (i ≤ length (x ∷ f))
  by more true here = (0, rw here refl, omega arith)
  by (i, at, le) false here = (1 + i, rw (here, at) refl, omega arith)

gap_none : (text : List ℕ) → gap text ≡ None → NoGap text
gap_none text none front back cut = let there = gap_by front back in let same = ap gap cut in absurd (let at = there.1 in cc)

gap_first : (text : List ℕ) (i : ℕ) → gap text ≡ Some i → FirstGap text (take i text) (drop (i + 2) text)
gap_first text i e = record {
  cut = gap_cut text i e;
  first = λ f b cut.
      let (j, at, le) = gap_by f b in
      let same : Some i ≡ Some j = sym e ∙ ap gap cut ∙ at in
      let is : i ≡ j = grind arith in
      omega (arith, length-take i text);
}

none_gap : (text : List ℕ) → NoGap text → gap text ≡ None
none_gap text never = none_if (gap text) (λ i e. never (take i text) (drop (i + 2) text) (gap_cut text i e))

first_gap : (text front back : List ℕ) → FirstGap text front back → gap text ≡ Some (length front)
first_gap text front back h =
    let (i, at, le) = gap_by front back in
    let found : gap text ≡ Some i = ap gap h.cut ∙ at in
    let more = h.first (take i text) (drop (i + 2) text) (gap_cut text i found) in
    let is : i ≡ length front = omega (arith, length-take i text) in
    found ∙ ap (λ (k : ℕ). Some k) is

v6_reported : (text : List ℕ) (f : AddrFault) → v6_at text ≡ Err f → IsV6Fault text f
unfolding v6_at
v6_reported text f e = by (gap text) refl e where
  by : (o : Option ℕ) → gap text ≡ o → v6_by text o ≡ Err f → IsV6Fault text f
  by None h e = elim (bind_err (groups_at true 0 text) v6_of f e) [
    | inl fault ↦ bad_piece (gap_none text h) ((outer_tells 0 text f).0 fault)
    | inr (groups, read, made) ↦
        let wrong = if_err (length groups == 8) (v6_number groups) (BadGroups 0) f made in
        wrong_number (gap_none text h) groups (ended_found 0 text groups read) (λ eight. let test = wrong.0 in grind (arith, nat_tests)) wrong.1
  ]
  by (Some i) h e =
      let front : List ℕ = take i text in
      let back : List ℕ = drop (i + 2) text in
      let first = gap_first text i h in
      let size : i ≡ length front = omega (arith, length-take i text, ap length first.cut, length-append front (58 ∷ 58 ∷ back)) in
      elim (bind_err (groups_at false 0 front) (λ fs. groups_at true (i + 2) back >>= v6_around fs) f e) [
        | inl fault ↦ bad_before front back first ((inner_tells 0 front f).0 fault)
        | inr (fs, read, rest) ↦ elim (bind_err (groups_at true (i + 2) back) (v6_around fs) f rest) [
          | inl fault ↦ bad_after_gap front back fs first (grouped_found 0 front fs read) (subst (λ (k : ℕ). IsOuterFault (k + 2) back f) size ((outer_tells (i + 2) back f).0 fault))
          | inr (bs, read_back, made) ↦
              let more = if_err (nat_le (length fs + length bs) 7) _ (BadGroups 0) f made in
              too_many front back fs bs first (grouped_found 0 front fs read) (ended_found (i + 2) back bs read_back) (let test = more.0 in grind (arith, nat_tests)) more.1
        ]
      ]

front_is : (text front back : List ℕ) → FirstGap text front back → take (length front) text ≡ front
front_is text front back h = ap (take (length front)) h.cut ∙ take_at front (58 ∷ 58 ∷ back) (length front) refl

back_is : (text front back : List ℕ) → FirstGap text front back → drop (length front + 2) text ≡ back
back_is text front back h = ap (drop (length front + 2)) h.cut ∙ after_gap front back

v6_only : (text : List ℕ) (f : AddrFault) → IsV6Fault text f → v6_at text ≡ Err f
unfolding v6_at
v6_only text f (bad_piece never fault) = rw (none_gap text never, (outer_tells 0 text f).1 fault) refl
v6_only text f (wrong_number never groups good wrong is) =
    let test : (length groups == 8) ≡ false = grind (arith, nat_tests) in
    rw (none_gap text never, ended_read 0 text groups good, test, is) refl
v6_only text f (bad_before front back h fault) = rw (first_gap text front back h, front_is text front back h, (inner_tells 0 front f).1 fault) refl
v6_only text f (bad_after_gap front back fs h good fault) = rw (first_gap text front back h, front_is text front back h, grouped_read false 0 front fs good, back_is text front back h, (outer_tells (length front + 2) back f).1 fault) refl
v6_only text f (too_many front back fs bs h good ended more is) =
    rw (first_gap text front back h, front_is text front back h, grouped_read false 0 front fs good, back_is text front back h, ended_read (length front + 2) back bs ended, lt-leb (length fs + length bs) 7 more, is) refl

-- ---- an address

address_reported : (fewest : ℕ) (text : List ℕ) (f : AddrFault) → address_at fewest text ≡ Err f → IsAddressFault fewest text f
unfolding address_at
address_reported fewest text f e = elim (eqb_tells (length text) 0) [
  | inl none ↦ let is : f ≡ Empty 0 = let m = rw none.0 at e in cc in no_text (length_none text none.1) is
  | inr some ↦ elim (has_tells 58 text) [
    | inl (colon, first) ↦ elim (bind_err (v6_at text) (λ n. Ok (addr.V6 n)) f (rw (some.0, colon) at e)) [ inl fault ↦ as_v6 first.0 first.1 (v6_reported text f fault) | inr (n, read, made) ↦ absurd cc ]
    | inr none ↦ elim (bind_err (v4_at fewest 0 text) (λ n. Ok (addr.V4 n)) f (rw (some.0, none.0) at e)) [ inl fault ↦ as_v4 (omega (arith, some.1)) none.1 (v4_reported fewest 0 text f fault) | inr (n, read, made) ↦ absurd cc ]
  ]
]

address_only : (fewest : ℕ) (text : List ℕ) (f : AddrFault) → IsAddressFault fewest text f → address_at fewest text ≡ Err f
unfolding address_at
address_only fewest text f (no_text none is) = rw (none, is) refl
address_only fewest text f (as_v6 i first fault) =
    let some : (length text == 0) ≡ false = let lt = first.within in grind (arith, nat_tests) in
    rw (some, first_read (λ b. b == 58) text i first, v6_only text f fault) refl
address_only fewest text f (as_v4 lt none fault) =
    let some : (length text == 0) ≡ false = grind (arith, nat_tests) in
    rw (some, no_place 58 text none, v4_only fewest 0 text f fault) refl

pub tells : {A E : Type 0} (read : List ℕ → Result A E) (IsFault : List ℕ → E → Type 0) → ((text : List ℕ) (f : E) → read text ≡ Err f → IsFault text f) → ((text : List ℕ) (f : E) → IsFault text f → read text ≡ Err f) → TellsFaults read IsFault
tells read IsFault reported only = record { reported = λ text f. (reported text f, only text f); one = λ text e f p q. let first = only text e p in let second = only text f q in cc }

pub addr_reported : TellsFaults addr_at IsAddrFault
addr_reported = tells addr_at IsAddrFault (address_reported 4) (address_only 4)

-- ---- a network

net_reported : (text : List ℕ) (f : AddrFault) → net_at text ≡ Err f → IsNetFault text f
net_reported text f e = by (position is_slash text) refl e where
  by : (o : Option ℕ) → position is_slash text ≡ o → cut_at text o ≡ Err f → IsNetFault text f
  by None p e = elim (bind_err (addr_at text) (λ a. Ok (network_of a)) f e) [ inl fault ↦ no_slash (first_none is_slash text p) (address_reported 4 text f fault) | inr (a, read, made) ↦ absurd cc ]
  by (Some i) p e =
      let front : List ℕ = take i text in
      let digits : List ℕ = drop (i + 1) text in
      let cut = cut_there 47 text i p in
      let size : length front ≡ i = omega (arith, length-take i text, ap length cut, length-append front (47 ∷ digits)) in
      let first = position-Some is_slash text i 0 p in
      let none : without 47 front = All-from_get_or (λ b. (b == 47) ≡ false) front 0 (λ k lt. let below : k < i = omega arith in rw (get_or-take i text k 0 below) (first.2 k below)) in
      elim (bind_err (address_at 1 front) (front_at (i + 1) digits) f e) [
        | inl fault ↦ bad_address front digits cut none (address_reported 1 front f fault)
        | inr (a, read, rest) ↦ elim (bind_err (length_at (width (family_of a)) (i + 1) digits) (λ n. Ok (network_from a n)) f rest) [
          | inl fault ↦
              let bad = refused (small_number (width (family_of a)) digits) (BadLength (i + 1)) f fault in
              bad_length front digits cut none a (address_found 1 front a read) (λ n is. let some = small_read (width (family_of a)) digits n is in absurd (let no = bad.0 in cc)) (bad.1 ∙ ap (λ (k : ℕ). BadLength (k + 1)) (sym size))
          | inr (n, taken, made) ↦ absurd cc
        ]
      ]

net_only : (text : List ℕ) (f : AddrFault) → IsNetFault text f → net_at text ≡ Err f
net_only text f (no_slash none fault) = rw (no_place 47 text none, address_only 4 text f fault) refl
net_only text f (bad_address front digits cut none fault) = rw (cut, place_after 47 front digits none, take_at front (47 ∷ digits) (length front) refl, address_only 1 front f fault) refl
net_only text f (bad_length front digits cut none a good never is) =
    rw (cut, place_after 47 front digits none, take_at front (47 ∷ digits) (length front) refl, address_read 1 front a (omega arith) good, after_slash front digits, small_none (width (family_of a)) digits never, is) refl

pub net_faults_reported : TellsFaults net_at IsNetFault
net_faults_reported = tells net_at IsNetFault net_reported net_only

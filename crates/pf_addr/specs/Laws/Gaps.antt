-- Laws of the first `::` of a text.
use Rattle.std.proofs.{Common.{◌≡◌, ℕ, suc, ◌+◌, ◌<◌, ◌≤◌, ◌==◌, ◌&&◌, Bool, true, false, List, [], ◌∷◌, ◌++◌, length, take, drop, get_or, length-drop, length-append, append-nil, append_assoc, Option, Some, None, refl, sym, ap, ◌∙◌, subst, arith, add-one, drop-cons}, lemmas.Bool.and_parts, lemmas.Bool.Decides.nat_tests, lemmas.List.Elements.{All-head, All-tail}, lemmas.List.Splits.join_with_byte-slice_split}
use Rattle.std.specs.List.{All, join_with_byte}
use Rattle.pf_addr.specs.{Grammar.pieces, Laws.Places.without, Reading.{gap, later, begins_with_byte}}

later_twice : (m n : ℕ) (o : Option ℕ) → later m (later n o) ≡ later (m + n) o
later_twice m n (Some i) = ap (λ (k : ℕ). Some k) (omega arith)
later_twice m n None = refl

-- whether `::` is there
abbrev pub colons : List ℕ → ℕ → Bool
colons text i = (get_or text i 0 == 58) && (get_or text (i + 1) 0 == 58)

begins_there : (text : List ℕ) (i : ℕ) → i < length text → begins_with_byte 58 (drop i text) ≡ (get_or text i 0 == 58)
begins_there text i lt = rw (drop-cons text i 0) refl

cut_off : (text : List ℕ) (i : ℕ) → i < length text → drop i text ≡ get_or text i 0 ∷ drop (i + 1) text
cut_off text i lt = rw add-one (drop-cons text i 0 lt)

-- ---- a text whose front has no `::`

pub found_at : (text : List ℕ) (i : ℕ) → gap text ≡ later i (gap (drop i text)) → i + 1 < length text → colons text i ≡ true → gap text ≡ Some i
unfolding gap
found_at text i so lt is =
    let within : i < length text = omega arith in
    let here : gap (drop i text) ≡ Some 0 = rw (cut_off text i within, begins_there text (i + 1) lt, is) refl in
    so ∙ rw here (ap (λ (k : ℕ). Some k) (omega arith))

pub passed_at : (text : List ℕ) (i : ℕ) → gap text ≡ later i (gap (drop i text)) → i + 1 < length text → colons text i ≡ false → gap text ≡ later (i + 1) (gap (drop (i + 1) text))
unfolding gap
passed_at text i so lt is =
    let within : i < length text = omega arith in
    let here : gap (drop i text) ≡ later 1 (gap (drop (i + 1) text)) = rw (cut_off text i within, begins_there text (i + 1) lt, is) refl in
    so ∙ rw here (later_twice i 1 (gap (drop (i + 1) text)))

one_left : (rest : List ℕ) → length rest ≤ 1 → gap rest ≡ None
unfolding gap
one_left [] le = refl
one_left (b ∷ []) le = grind (arith, nat_tests)
one_left (b ∷ c ∷ rest) le = absurd (omega arith)

pub none_left : (text : List ℕ) (i : ℕ) → gap text ≡ later i (gap (drop i text)) → length text ≤ i + 1 → gap text ≡ None
none_left text i so le = so ∙ rw (one_left (drop i text) (omega (arith, length-drop i text))) refl

-- ---- a text with no empty piece between colons

pub record Clean (piece : List ℕ) : Type 0 where
  pub some : 0 < length piece
  pub without_colon : without 58 piece

later_none : (o : Option ℕ) → later 0 o ≡ o
later_none (Some i) = ap (λ (k : ℕ). Some k) (omega arith)
later_none None = refl

past_piece : (piece rest : List ℕ) → without 58 piece → gap (piece ++ rest) ≡ later (length piece) (gap rest)
unfolding gap
past_piece [] rest none = sym (later_none (gap rest))
past_piece (b ∷ bs) rest none =
    let here : (b == 58) ≡ false = All-head (λ x. (x == 58) ≡ false) b bs none in
    let others = past_piece bs rest (All-tail (λ x. (x == 58) ≡ false) b bs none) in
    let size : 1 + length bs ≡ length (b ∷ bs) = omega arith in
    rw (here, others) (later_twice 1 (length bs) (gap rest) ∙ ap (λ (k : ℕ). later k (gap rest)) size)

begins_clean : (piece : List ℕ) (others : List (List ℕ)) (rest : List ℕ) → Clean piece → begins_with_byte 58 (join_with_byte 58 (piece ∷ others) ++ rest) ≡ false
begins_clean [] others rest clean = absurd (omega (arith, clean.some))
begins_clean (b ∷ bs) [] rest clean = All-head (λ x. (x == 58) ≡ false) b bs clean.without_colon
begins_clean (b ∷ bs) (o ∷ others) rest clean = All-head (λ x. (x == 58) ≡ false) b bs clean.without_colon

past_pieces : (pieces : List (List ℕ)) (rest : List ℕ) → All Clean pieces → gap (join_with_byte 58 pieces ++ rest) ≡ later (length (join_with_byte 58 pieces)) (gap rest)
unfolding gap
past_pieces [] rest clean = sym (later_none (gap rest))
past_pieces (p ∷ []) rest clean = past_piece p rest (All-head Clean p [] clean).without_colon
past_pieces (p ∷ q ∷ ps) rest clean =
    let all = All-tail Clean p (q ∷ ps) clean in
    let text : List ℕ = join_with_byte 58 (q ∷ ps) in
    let others = past_pieces (q ∷ ps) rest all in
    let begins = begins_clean q ps rest (All-head Clean q ps all) in
    let first = past_piece p (58 ∷ (text ++ rest)) (All-head Clean p (q ∷ ps) clean).without_colon in
    let size : length p + (1 + length text) ≡ length (p ++ 58 ∷ text) = omega (arith, length-append p (58 ∷ text)) in
    ap gap (append_assoc p (58 ∷ text) rest) ∙ first ∙ rw (begins, others) (ap (later (length p)) (later_twice 1 (length text) (gap rest)) ∙ later_twice (length p) (1 + length text) (gap rest) ∙ ap (λ (k : ℕ). later k (gap rest)) size)

joined_back : (text : List ℕ) → join_with_byte 58 (pieces 58 text) ≡ text
joined_back [] = refl
joined_back (b ∷ bs) = join_with_byte-slice_split 58 (b ∷ bs)

pub no_gap : (text : List ℕ) → All Clean (pieces 58 text) → gap text ≡ None
unfolding gap
no_gap text clean =
    let all = past_pieces (pieces 58 text) [] clean in
    ap gap (sym (append-nil text)) ∙ rw (joined_back text) at all

pub gap_after : (front back : List ℕ) → All Clean (pieces 58 front) → gap (front ++ 58 ∷ 58 ∷ back) ≡ Some (length front)
unfolding gap
gap_after front back clean =
    let all = past_pieces (pieces 58 front) (58 ∷ 58 ∷ back) clean in
    rw (joined_back front) at all ∙ ap (λ (k : ℕ). Some k) (omega arith)

-- ---- a text is what comes before its first `::`, the `::`, and what comes after it

one_less : (o : Option ℕ) (i : ℕ) → later 1 o ≡ Some i → (j : ℕ) × (o ≡ Some j) × (i ≡ 1 + j)
one_less (Some j) i e = let is : 1 + j ≡ i = cc in (j, refl, sym is)
one_less None i e = absurd cc

gap_begins : (bs : List ℕ) → begins_with_byte 58 bs ≡ true → bs ≡ 58 ∷ drop 1 bs
gap_begins [] e = absurd cc
gap_begins (b ∷ bs) e = let is : b ≡ 58 = grind (arith, nat_tests) in ap (λ (x : ℕ). x ∷ bs) is

next_cut : (b : ℕ) (bs : List ℕ) (j i : ℕ) → i ≡ 1 + j → bs ≡ take j bs ++ 58 ∷ 58 ∷ drop (j + 2) bs → b ∷ bs ≡ take i (b ∷ bs) ++ 58 ∷ 58 ∷ drop (i + 2) (b ∷ bs)
next_cut b bs j i e cut =
    let here : suc j ≡ i = omega arith in
    let next : suc j + 2 ≡ suc (j + 2) = omega arith in
    subst (λ (k : ℕ). b ∷ bs ≡ take k (b ∷ bs) ++ 58 ∷ 58 ∷ drop (k + 2) (b ∷ bs)) here (rw next (ap (λ (l : List ℕ). b ∷ l) cut))

pub gap_cut : (text : List ℕ) (i : ℕ) → gap text ≡ Some i → text ≡ take i text ++ 58 ∷ 58 ∷ drop (i + 2) text
unfolding gap
gap_cut [] i e = absurd cc
gap_cut (b ∷ bs) i e = by (gap_cut bs) ((b == 58) && begins_with_byte 58 bs) refl where
  by : ((j : ℕ) → gap bs ≡ Some j → bs ≡ take j bs ++ 58 ∷ 58 ∷ drop (j + 2) bs) → (t : Bool) → ((b == 58) && begins_with_byte 58 bs) ≡ t → b ∷ bs ≡ take i (b ∷ bs) ++ 58 ∷ 58 ∷ drop (i + 2) (b ∷ bs)
  by others true h =
      let parts = and_parts (b == 58) (begins_with_byte 58 bs) h in
      let none : 0 ≡ i = let found = rw h at e in cc in
      let first : b ≡ 58 = let p = parts.0 in grind (arith, nat_tests) in
      rw (← none, first) (ap (λ (l : List ℕ). 58 ∷ l) (gap_begins bs parts.1))
  by others false h =
      let less = one_less (gap bs) i (rw h at e) in
      next_cut b bs less.0 i less.2 (others less.0 less.1)

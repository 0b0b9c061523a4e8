-- How placed bytes go on behind the first ones.
use Rattle.std.proofs.Common.{◌≡◌, ◌≢◌, ℕ, ◌+◌, ◌==◌, ◌<◌, ◌≤◌, true, false, List, [], ◌∷◌, ◌++◌, length, drop, get_or, if◌then◌else◌, refl, sym, ◌∙◌, ap, append_assoc, eq-eqb, arith}
use Rattle.std.proofs.lemmas.{List.{drop_all, drop_more}, Bool.ne_eqb}
use Rattle.pf_tokens.specs.declared.{place.Place.Place, place.Placed.Placed}
use Rattle.pf_tokens.specs.{Places.{at, place_after, next_line, next_column}, Placed.{placed, pair_at, place_after_pair}}

-- a byte that begins no pair
pub placed-one : (p : Place) (b : ℕ) (bs : List ℕ) → (b == 92) ≡ false → placed p (b ∷ bs) ≡ at b p ∷ placed (place_after b p) bs
unfolding placed
placed-one p b [] h = refl
placed-one p b (c ∷ bs) h = rw h refl

pub placed-pair : (p : Place) (b c : ℕ) (bs : List ℕ) → (b == 92) ≡ true → placed p (b ∷ c ∷ bs) ≡ pair_at p c ++ placed (place_after_pair p c) bs
unfolding placed
placed-pair p b c bs h = rw h refl

-- the last byte
pub placed-last : (p : Place) (b : ℕ) → placed p (b ∷ []) ≡ at b p ∷ placed (place_after b p) []
unfolding placed
placed-last p b = refl

pub placed-end : (p : Place) → placed p [] ≡ at 10 p ∷ []
unfolding placed
placed-end p = refl

-- the same of the bytes from this place of a text on
pub placed-drop : (p : Place) (text : List ℕ) (i : ℕ) → i < length text → (get_or text i 0 == 92) ≡ false → placed p (drop i text) ≡ at (get_or text i 0) p ∷ placed (place_after (get_or text i 0) p) (drop (i + 1) text)
placed-drop p text i in_text other = ap (λ (bs : List ℕ). placed p bs) (drop_more text i 0 in_text) ∙ placed-one p (get_or text i 0) (drop (i + 1) text) other

pub placed-drop_last : (p : Place) (text : List ℕ) (i : ℕ) → i < length text → length text ≤ i + 1 → placed p (drop i text) ≡ at (get_or text i 0) p ∷ placed (place_after (get_or text i 0) p) (drop (i + 1) text)
placed-drop_last p text i in_text is_last =
    let none : drop (i + 1) text ≡ [] = drop_all (i + 1) text is_last in
    ap (λ (bs : List ℕ). placed p bs) (drop_more text i 0 in_text ∙ ap (λ (bs : List ℕ). get_or text i 0 ∷ bs) none)
    ∙ placed-last p (get_or text i 0)
    ∙ ap (λ (bs : List ℕ). at (get_or text i 0) p ∷ placed (place_after (get_or text i 0) p) bs) (sym none)

pub placed-drop_pair : (p : Place) (text : List ℕ) (i : ℕ) → i + 1 < length text → (get_or text i 0 == 92) ≡ true → placed p (drop i text) ≡ pair_at p (get_or text (i + 1) 0) ++ placed (place_after_pair p (get_or text (i + 1) 0)) (drop (i + 2) text)
placed-drop_pair p text i in_text is =
    let first : i < length text = omega arith in
    let two : i + 1 + 1 ≡ i + 2 = omega arith in
    let second : drop (i + 1) text ≡ get_or text (i + 1) 0 ∷ drop (i + 2) text = drop_more text (i + 1) 0 in_text ∙ ap (λ (n : ℕ). get_or text (i + 1) 0 ∷ drop n text) two in
    ap (λ (bs : List ℕ). placed p bs) (drop_more text i 0 first ∙ ap (λ (bs : List ℕ). get_or text i 0 ∷ bs) second)
    ∙ placed-pair p (get_or text i 0) (get_or text (i + 1) 0) (drop (i + 2) text) is

-- what was found so far, and what is left, is the whole: before a step and behind it
module _ (whole out : List Placed) (p : Place) (text : List ℕ) (i : ℕ) (was : whole ≡ out ++ placed p (drop i text)) where
  pub after_pair_is : (out' : List Placed) (p' : Place) → i + 1 < length text → get_or text i 0 ≡ 92 → out' ≡ out ++ pair_at p (get_or text (i + 1) 0) → p' ≡ place_after_pair p (get_or text (i + 1) 0) → whole ≡ out' ++ placed p' (drop (i + 2) text)
  after_pair_is out' p' in_text is_pair o q =
      was ∙ ap (λ (cs : List Placed). out ++ cs) (placed-drop_pair p text i in_text (eq-eqb (get_or text i 0) 92 is_pair))
      ∙ rw (o, q) (sym (append_assoc out (pair_at p (get_or text (i + 1) 0)) (placed (place_after_pair p (get_or text (i + 1) 0)) (drop (i + 2) text))))

  one_more : (out' : List Placed) (p' : Place) → placed p (drop i text) ≡ at (get_or text i 0) p ∷ placed (place_after (get_or text i 0) p) (drop (i + 1) text) → out' ≡ out ++ at (get_or text i 0) p ∷ [] → p' ≡ place_after (get_or text i 0) p → whole ≡ out' ++ placed p' (drop (i + 1) text)
  one_more out' p' step o q =
      was ∙ ap (λ (cs : List Placed). out ++ cs) step
      ∙ rw (o, q) (sym (append_assoc out (at (get_or text i 0) p ∷ []) (placed (place_after (get_or text i 0) p) (drop (i + 1) text))))

  pub after_one_is : (out' : List Placed) (p' : Place) → i < length text → get_or text i 0 ≢ 92 → out' ≡ out ++ at (get_or text i 0) p ∷ [] → p' ≡ place_after (get_or text i 0) p → whole ≡ out' ++ placed p' (drop (i + 1) text)
  after_one_is out' p' in_text other o q = one_more out' p' (placed-drop p text i in_text (ne_eqb (get_or text i 0) 92 other)) o q

  pub after_last_is : (out' : List Placed) (p' : Place) → i < length text → length text ≤ i + 1 → out' ≡ out ++ at (get_or text i 0) p ∷ [] → p' ≡ place_after (get_or text i 0) p → whole ≡ out' ++ placed p' (drop (i + 1) text)
  after_last_is out' p' in_text is_last o q = one_more out' p' (placed-drop_last p text i in_text is_last) o q

  pub all_is : (out' : List Placed) → length text ≤ i → out' ≡ out ++ at 10 p ∷ [] → out' ≡ whole
  all_is out' at_end o =
      let none : drop i text ≡ [] = drop_all i text at_end in
      o ∙ sym (was ∙ rw (none, placed-end p) refl)

-- a pair or a byte takes a line at most, and two columns or one
pub line-after_pair : (p : Place) (c : ℕ) → (place_after_pair p c).line ≤ p.line + 1
line-after_pair p c = elim (c == 10) as (λ v. (if v then next_line p else next_column (next_column p)).line ≤ p.line + 1) [ true ↦ omega arith | false ↦ omega arith ]

pub column-after_pair : (p : Place) (c : ℕ) → (place_after_pair p c).column ≤ p.column + 2
column-after_pair p c = elim (c == 10) as (λ v. (if v then next_line p else next_column (next_column p)).column ≤ p.column + 2) [ true ↦ omega arith | false ↦ omega arith ]

pub line-after : (p : Place) (c : ℕ) → (place_after c p).line ≤ p.line + 1
line-after p c = elim (c == 10) as (λ v. (if v then next_line p else next_column p).line ≤ p.line + 1) [ true ↦ omega arith | false ↦ omega arith ]

pub column-after : (p : Place) (c : ℕ) → (place_after c p).column ≤ p.column + 1
column-after p c = elim (c == 10) as (λ v. (if v then next_line p else next_column p).column ≤ p.column + 1) [ true ↦ omega arith | false ↦ omega arith ]

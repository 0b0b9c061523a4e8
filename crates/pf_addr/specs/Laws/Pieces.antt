-- Pieces in a row are read as the numbers that they write.
use Rattle.std.proofs.{Common.{◌≡◌, ℕ, ◌+◌, ◌<◌, ◌==◌, true, List, [], ◌∷◌, ◌++◌, length, Some, None, Option, Ok, refl, ap, ◌∙◌, subst, arith}, lemmas.List.{get_or_at, length-append}, lemmas.List.Elements.{All-nil, All-cons}, lemmas.Bool.Decides.nat_tests}
use Rattle.std.specs.List.{All, AllZip, position}
use Rattle.pf_addr.specs.{Grammar.pieces, Laws.Places.{first_none, split_none}, Reading.{One, Last, single, pieces_at, has}}
use Rattle.pf_form.specs.{Form.Forms.◌>>=◌, Laws.Form.Decided.bind_ok}

-- what a piece must be to be read as a number, and the last one as some numbers
abbrev pub OfNumber : Type 1
OfNumber = List ℕ → ℕ → Type 0

abbrev pub OfNumbers : Type 1
OfNumbers = List ℕ → List ℕ → Type 0

abbrev pub Alone : OfNumber → OfNumbers
Alone R p ns = (n : ℕ) × R p n × (ns ≡ n ∷ [])

-- ---- lists side by side

pub zip_length : (R : OfNumber) (ps : List (List ℕ)) (ns : List ℕ) → AllZip R ps ns → length ps ≡ length ns
zip_length R [] [] z = refl
zip_length R [] (n ∷ ns) z = absurd z
zip_length R (p ∷ ps) [] z = absurd z
zip_length R (p ∷ ps) (n ∷ ns) z = let rest = zip_length R ps ns z.1 in omega arith

pub zip_push : (R : OfNumber) (ps : List (List ℕ)) (ns : List ℕ) (p : List ℕ) (n : ℕ) → AllZip R ps ns → R p n → AllZip R (ps ++ p ∷ []) (ns ++ n ∷ [])
zip_push R [] [] p n z r = (r, tt)
zip_push R [] (m ∷ ns) p n z r = absurd z
zip_push R (q ∷ ps) [] p n z r = absurd z
zip_push R (q ∷ ps) (m ∷ ns) p n z r = (z.0, zip_push R ps ns p n z.1 r)

pub zip_all : (R : OfNumber) (P : List ℕ → Type 0) (ps : List (List ℕ)) (ns : List ℕ) → ((p : List ℕ) (n : ℕ) → R p n → P p) → AllZip R ps ns → All P ps
zip_all R P [] ns is z = All-nil P
zip_all R P (p ∷ ps) [] is z = absurd z
zip_all R P (p ∷ ps) (n ∷ ns) is z = All-cons P p ps (is p n z.0) (zip_all R P ps ns is z.1)

pub zip_numbers : (R : OfNumber) (P : ℕ → Type 0) (ps : List (List ℕ)) (ns : List ℕ) → ((p : List ℕ) (n : ℕ) → R p n → P n) → AllZip R ps ns → All P ns
zip_numbers R P [] [] is z = All-nil P
zip_numbers R P [] (n ∷ ns) is z = absurd z
zip_numbers R P (p ∷ ps) [] is z = absurd z
zip_numbers R P (p ∷ ps) (n ∷ ns) is z = All-cons P n ns (is p n z.0) (zip_numbers R P ps ns is z.1)

-- ---- reading what is written

pub all_read : (R : OfNumber) (one : One) (last : Last) → ((at : ℕ) (p : List ℕ) (n : ℕ) → R p n → one at p ≡ Ok n) → ((at : ℕ) (p : List ℕ) (n : ℕ) → R p n → last at p ≡ Ok (n ∷ [])) → (at : ℕ) (ps : List (List ℕ)) (ns : List ℕ) → AllZip R ps ns → pieces_at one last at ps ≡ Ok ns
unfolding pieces_at
all_read R one last reads ends at [] [] z = refl
all_read R one last reads ends at [] (n ∷ ns) z = absurd z
all_read R one last reads ends at (p ∷ []) [] z = absurd z
all_read R one last reads ends at (p ∷ []) (n ∷ []) z = ends at p n z.0
all_read R one last reads ends at (p ∷ []) (n ∷ m ∷ ns) z = absurd z.1
all_read R one last reads ends at (p ∷ q ∷ ps) [] z = absurd z
all_read R one last reads ends at (p ∷ q ∷ ps) (n ∷ ns) z = rw (reads at p n z.0, all_read R one last reads ends (at + length p + 1) (q ∷ ps) ns z.1) refl

pub run_read : (R : OfNumber) (E : OfNumbers) (one : One) (last : Last) → ((at : ℕ) (p : List ℕ) (n : ℕ) → R p n → one at p ≡ Ok n) → ((at : ℕ) (p : List ℕ) (ns : List ℕ) → E p ns → last at p ≡ Ok ns) → (at : ℕ) (front : List (List ℕ)) (p : List ℕ) (ns ms : List ℕ) → AllZip R front ns → E p ms → pieces_at one last at (front ++ p ∷ []) ≡ Ok (ns ++ ms)
unfolding pieces_at
run_read R E one last reads ends at [] p [] ms z e = ends at p ms e
run_read R E one last reads ends at [] p (n ∷ ns) ms z e = absurd z
run_read R E one last reads ends at (f ∷ fs) p [] ms z e = absurd z
run_read R E one last reads ends at (f ∷ []) p (n ∷ []) ms z e = rw (reads at f n z.0, ends (at + length f + 1) p ms e) refl
run_read R E one last reads ends at (f ∷ []) p (n ∷ m ∷ ns) ms z e = absurd z.1
run_read R E one last reads ends at (f ∷ g ∷ fs) p (n ∷ ns) ms z e = rw (reads at f n z.0, run_read R E one last reads ends (at + length f + 1) (g ∷ fs) p ns ms z.1 e) refl

-- ---- what is read was written

pub record Run (R : OfNumber) (E : OfNumbers) (ps : List (List ℕ)) (ns : List ℕ) : Type 0 where
  pub front : List (List ℕ)
  pub last : List ℕ
  pub before : List ℕ
  pub rest : List ℕ
  pub cut : ps ≡ front ++ last ∷ []
  pub zip : AllZip R front before
  pub end : E last rest
  pub value : ns ≡ before ++ rest

-- one piece more, before the others
longer : (R : OfNumber) (E : OfNumbers) (p : List ℕ) (n : ℕ) (ps : List (List ℕ)) (ms ns : List ℕ) → R p n → Run R E ps ms → ns ≡ n ∷ ms → Run R E (p ∷ ps) ns
longer R E p n ps ms ns is run value = record {
  front = p ∷ run.front;
  last = run.last;
  before = n ∷ run.before;
  rest = run.rest;
  cut = ap (λ (l : List (List ℕ)). p ∷ l) run.cut;
  zip = (is, run.zip);
  end = run.end;
  value = value ∙ ap (λ (l : List ℕ). n ∷ l) run.value;
}

pub run_found : (R : OfNumber) (E : OfNumbers) (one : One) (last : Last) → ((at : ℕ) (p : List ℕ) (n : ℕ) → one at p ≡ Ok n → R p n) → ((at : ℕ) (p : List ℕ) (ns : List ℕ) → last at p ≡ Ok ns → E p ns) → (at : ℕ) (p : List ℕ) (ps : List (List ℕ)) (ns : List ℕ) → pieces_at one last at (p ∷ ps) ≡ Ok ns → Run R E (p ∷ ps) ns
unfolding pieces_at
run_found R E one last finds ends at p [] ns e = record { front = []; last = p; before = []; rest = ns; cut = refl; zip = tt; end = ends at p ns e; value = refl }
run_found R E one last finds ends at p (q ∷ ps) ns e =
    let others = pieces_at one last (at + length p + 1) (q ∷ ps) in
    let (n, first, rest) = bind_ok (one at p) (λ n. others >>= λ ks. Ok (n ∷ ks)) ns e in
    let (ms, more, made) = bind_ok others (λ ks. Ok (n ∷ ks)) ns rest in
    let value : ns ≡ n ∷ ms = cc in
    longer R E p n (q ∷ ps) ms ns (finds at p n first) (run_found R E one last finds ends (at + length p + 1) q ps ms more) value

pub alone_found : (R : OfNumber) (one : One) → ((at : ℕ) (p : List ℕ) (n : ℕ) → one at p ≡ Ok n → R p n) → (at : ℕ) (p : List ℕ) (ns : List ℕ) → single one at p ≡ Ok ns → Alone R p ns
alone_found R one finds at p ns e =
    let only = bind_ok (one at p) (λ n. Ok (n ∷ [])) ns e in
    let is : ns ≡ only.0 ∷ [] = cc in
    (only.0, finds at p only.0 only.1, is)

pub run_alone : (R : OfNumber) (ps : List (List ℕ)) (ns : List ℕ) → Run R (Alone R) ps ns → AllZip R ps ns
run_alone R ps ns run = rw (run.cut, run.value, run.end.2) (zip_push R run.front run.before run.last run.end.0 run.zip run.end.1)

pub all_found : (R : OfNumber) (one : One) → ((at : ℕ) (p : List ℕ) (n : ℕ) → one at p ≡ Ok n → R p n) → (at : ℕ) (ps : List (List ℕ)) (ns : List ℕ) → pieces_at one (single one) at ps ≡ Ok ns → AllZip R ps ns
unfolding pieces_at
all_found R one finds at [] ns e = let none : [] ≡ ns = cc in subst (AllZip R []) none tt
all_found R one finds at (p ∷ ps) ns e = run_alone R (p ∷ ps) ns (run_found R (Alone R) one (single one) finds (alone_found R one finds) at p ps ns e)

-- ---- a text that is cut somewhere contains the byte

pub has_between : (c : ℕ) (text : List ℕ) → 1 < length (pieces c text) → has c text ≡ true
has_between c [] lt = absurd (omega arith)
has_between c (b ∷ bs) lt = by (position (λ x. x == c) (b ∷ bs)) refl where
  by : (o : Option ℕ) → position (λ x. x == c) (b ∷ bs) ≡ o → has c (b ∷ bs) ≡ true
  by (Some i) e = rw e refl
  by None e = absurd (omega (arith, lt, ap length (split_none (λ x. x == c) (b ∷ bs) e)))

pub has_there : (c : ℕ) (front following : List ℕ) → has c (front ++ c ∷ following) ≡ true
has_there c front following = by (position (λ x. x == c) (front ++ c ∷ following)) refl where
  by : (o : Option ℕ) → position (λ x. x == c) (front ++ c ∷ following) ≡ o → has c (front ++ c ∷ following) ≡ true
  by (Some i) e = rw e refl
  by None e =
      let none = first_none (λ x. x == c) (front ++ c ∷ following) e (length front) 0 (omega (arith, length-append front (c ∷ following))) in
      let here = rw (get_or_at front c following 0 (length front) refl) at none in
      absurd (let same : (c == c) ≡ true = grind (arith, nat_tests) in cc)

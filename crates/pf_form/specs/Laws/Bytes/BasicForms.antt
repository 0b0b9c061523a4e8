-- The laws of no byte, of a number, and of constant bytes.
use Rattle.std.proofs.{Common.{◌≡◌, ◌==◌, ◌<◌, ◌≤◌, ◌+◌, ◌*◌, ◌^◌, ◌/◌, ℕ, zero, suc, true, false, List, [], ◌∷◌, ◌++◌, length, take, drop, Ok, Err, inl, inr, refl, sym, ap, subst, ◌∙◌, arith}, Math.Nat.mod-lt, lemmas.Nat.same_from_place, lemmas.List.{length-append, length-take, drop_at, take-append-drop, append-nil}, lemmas.Bool.{eqb-true, ltb-false, le-ltb, lt-ltb}}
use Rattle.std.specs.{Prelude.nat_lt, Int.byte_at}
use Rattle.byteorder.specs.{Endian.{big_number, big_bytes, big_from}, Numbers.{big_from-cons, big_from-take, big_from-lt, big_number-reads_back, length-bytes_high_first}}
use Rattle.pf_form.specs.declared.bytes.fault.Fault.TheVariants.{Short, Bad}
use Rattle.pf_form.specs.{Bytes.BasicForms.{Bytes, Laws, number_at, number_bytes, constant_at, Differs}, Laws.Bytes.Steps.{ok_is, chosen, bad_is, eqb_same, bytes_front, byte_at_place, leaves}}

-- ---- no byte

pub nothing_laws : {A : Type 0} (only : A) → Laws A (λ bytes. Ok (only, bytes)) (λ x. []) (λ x. x ≡ only) (λ before rest. ⊥)
nothing_laws {A = A} only = record {
  again = λ x rest h. rw h refl;
  takes = λ bytes x rest h e. let g = ok_is only x bytes rest e in (sym g.0, g.1);
  short = λ x front b more h e. absurd (omega (arith, ap length e, length-append front (b ∷ more)));
  faulty = λ before rest h. absurd h;
  stops = λ bytes left h e. absurd cc;
  stays = λ before rest more h. absurd h;
}

-- ---- a number

same_bytes : (n : ℕ) (xs ys : List ℕ) → length xs ≡ n → length ys ≡ n → Bytes xs → Bytes ys → big_from 0 n xs ≡ big_from 0 n ys → xs ≡ ys
same_bytes n [] [] l m h k e = refl
same_bytes n [] (y ∷ ys) l m h k e = absurd (omega (arith, l, m))
same_bytes n (x ∷ xs) [] l m h k e = absurd (omega (arith, l, m))
same_bytes zero (x ∷ xs) (y ∷ ys) l m h k e = absurd (omega (arith, l))
same_bytes (suc n) (x ∷ xs) (y ∷ ys) l m h k e =
    let moved : x * 256 ^ n + big_from 0 n xs ≡ y * 256 ^ n + big_from 0 n ys = ap (λ (r : ℕ). x * 256 ^ n + r) (sym (big_from-cons 0 n x xs)) ∙ e ∙ ap (λ (r : ℕ). y * 256 ^ n + r) (big_from-cons 0 n y ys) in
    let same = same_from_place x (big_from 0 n xs) y (big_from 0 n ys) (256 ^ n) (big_from-lt 0 n xs (byte_at_place xs h.1)) (big_from-lt 0 n ys (byte_at_place ys k.1)) moved in
    rw (same.0, same_bytes n xs ys (omega (arith, l)) (omega (arith, m)) h.1 k.1 same.1) refl

byte_small : (i n : ℕ) → byte_at i n < 256
byte_small zero n = mod-lt n (omega arith)
byte_small (suc i) n = mod-lt (n / 256 ^ suc i) (omega arith)

pub bytes_small : (w n : ℕ) → Bytes (big_bytes w n)
bytes_small zero n = tt
bytes_small (suc w) n = (byte_small w n, bytes_small w n)

module _ (w : ℕ) where
  number_again : (n : ℕ) (rest : List ℕ) → n < 256 ^ w → number_at w (big_bytes w n ++ rest) ≡ Ok (n, rest)
  number_again n rest h =
      let enough : nat_lt (length (big_bytes w n ++ rest)) w ≡ false = le-ltb (length (big_bytes w n ++ rest)) w (omega (arith, length-append (big_bytes w n) rest, length-bytes_high_first w n)) in
      rw (enough, big_number-reads_back w n rest h, drop_at (big_bytes w n) rest w (length-bytes_high_first w n)) refl

  number_takes : (bytes : List ℕ) (n : ℕ) (rest : List ℕ) → Bytes bytes → number_at w bytes ≡ Ok (n, rest) → (n < 256 ^ w) × (bytes ≡ big_bytes w n ++ rest)
  number_takes bytes n rest h e = elim (chosen (nat_lt (length bytes) w) (Err Short) (leaves (big_number w bytes) (drop w bytes)) (Ok (n, rest)) e) [
    | inl g ↦ absurd (let wrong = g.1 in cc)
    | inr g ↦
        let enough : w ≤ length bytes = ltb-false (length bytes) w g.0 in
        let is = ok_is (big_number w bytes) n (drop w bytes) rest g.1 in
        let small : big_number w bytes < 256 ^ w = big_from-lt 0 w bytes (byte_at_place bytes h) in
        let whole : take w bytes ++ drop w bytes ≡ bytes = take-append-drop w bytes in
        let taken : Bytes (take w bytes) = bytes_front (take w bytes) (drop w bytes) (subst Bytes (sym whole) h) in
        let value : big_from 0 w (take w bytes) ≡ big_number w bytes = big_from-take 0 w w bytes (omega arith) in
        let back : big_from 0 w (big_bytes w (big_number w bytes)) ≡ big_number w bytes = ap (big_from 0 w) (sym (append-nil (big_bytes w (big_number w bytes)))) ∙ big_number-reads_back w (big_number w bytes) [] small in
        let same : take w bytes ≡ big_bytes w (big_number w bytes) = same_bytes w (take w bytes) (big_bytes w (big_number w bytes)) (omega (arith, length-take w bytes)) (length-bytes_high_first w (big_number w bytes)) taken (bytes_small w (big_number w bytes)) (value ∙ sym back) in
        (subst (λ (m : ℕ). m < 256 ^ w) is.0 small, sym whole ∙ ap (λ (a : List ℕ). a ++ drop w bytes) (same ∙ ap (big_bytes w) is.0) ∙ ap (λ (r : List ℕ). big_bytes w n ++ r) is.1)
  ]

  number_short : (n : ℕ) (front : List ℕ) (b : ℕ) (more : List ℕ) → big_bytes w n ≡ front ++ b ∷ more → number_at w front ≡ Err Short
  number_short n front b more e =
      let few : nat_lt (length front) w ≡ true = lt-ltb (length front) w (omega (arith, ap length e, length-append front (b ∷ more), length-bytes_high_first w n)) in
      rw few refl

  number_stops : (bytes : List ℕ) (left : ℕ) → number_at w bytes ≡ Err (Bad left) → ⊥
  number_stops bytes left e = elim (chosen (nat_lt (length bytes) w) (Err Short) (leaves (big_number w bytes) (drop w bytes)) (Err (Bad left)) e) [
    | inl g ↦ let wrong = g.1 in cc
    | inr g ↦ let wrong = g.1 in cc
  ]

  pub number_laws : Laws ℕ (number_at w) (number_bytes w) (λ n. n < 256 ^ w) (λ before rest. ⊥)
  unfolding number_bytes
  number_laws = record {
    again = number_again;
    takes = number_takes;
    short = λ n front b more h e. number_short n front b more e;
    faulty = λ before rest h. absurd h;
    stops = λ bytes left h e. absurd (number_stops bytes left e);
    stays = λ before rest more h. absurd h;
  }

-- ---- constant bytes

constant_again : (k rest : List ℕ) → constant_at k (k ++ rest) ≡ Ok (tt, rest)
constant_again [] rest = refl
constant_again (k ∷ ks) rest = rw (eqb_same k) (constant_again ks rest)

constant_takes : (k bytes : List ℕ) (x : Unit {0}) (rest : List ℕ) → constant_at k bytes ≡ Ok (x, rest) → bytes ≡ k ++ rest
constant_takes [] bytes x rest e = (ok_is tt x bytes rest e).1
constant_takes (k ∷ ks) [] x rest e = absurd cc
constant_takes (k ∷ ks) (b ∷ bytes) x rest e = elim (chosen (b == k) (constant_at ks bytes) (Err (Bad (length (b ∷ bytes)))) (Ok (x, rest)) e) [
  | inl g ↦ rw (eqb-true b k g.0, constant_takes ks bytes x rest g.1) refl
  | inr g ↦ absurd (let wrong = g.1 in cc)
]

constant_short : (k front : List ℕ) (b : ℕ) (more : List ℕ) → k ≡ front ++ b ∷ more → constant_at k front ≡ Err Short
constant_short [] [] b more e = absurd cc
constant_short [] (x ∷ front) b more e = absurd cc
constant_short (k ∷ ks) [] b more e = refl
constant_short (k ∷ ks) (x ∷ front) b more e =
    let same : k ≡ x = cc in
    rw (sym same, eqb_same k) (constant_short ks front b more cc)

constant_faulty : (k before rest : List ℕ) → Differs k before rest → constant_at k (before ++ rest) ≡ Err (Bad (length rest))
constant_faulty [] before rest h = absurd h
constant_faulty (k ∷ ks) [] [] h = absurd h
constant_faulty (k ∷ ks) [] (b ∷ rest) h = rw h refl
constant_faulty (k ∷ ks) (c ∷ before) rest h = rw (h.0, eqb_same k) (constant_faulty ks before rest h.1)

constant_stops : (k bytes : List ℕ) (left : ℕ) → constant_at k bytes ≡ Err (Bad left) → (before rest : List ℕ) × (bytes ≡ before ++ rest) × (length rest ≡ left) × Differs k before rest
constant_stops [] bytes left e = absurd cc
constant_stops (k ∷ ks) [] left e = absurd cc
constant_stops (k ∷ ks) (b ∷ bytes) left e = elim (chosen (b == k) (constant_at ks bytes) (Err (Bad (length (b ∷ bytes)))) (Err (Bad left)) e) [
  | inl g ↦ let s = constant_stops ks bytes left g.1 in (b ∷ s.0, s.1, ap (λ (m : List ℕ). b ∷ m) s.2, s.3, (eqb-true b k g.0, s.4))
  | inr g ↦ ([], b ∷ bytes, refl, (let same = g.1 in bad_is (length (b ∷ bytes)) left cc), g.0)
]

constant_stays : (k before rest more : List ℕ) → Differs k before rest → Differs k before (rest ++ more)
constant_stays [] before rest more h = absurd h
constant_stays (k ∷ ks) [] [] more h = absurd h
constant_stays (k ∷ ks) [] (b ∷ rest) more h = h
constant_stays (k ∷ ks) (c ∷ before) rest more h = (h.0, constant_stays ks before rest more h.1)

pub constant_laws : (k : List ℕ) → Laws (Unit {0}) (constant_at k) (λ u. k) (λ u. Unit {0}) (Differs k)
constant_laws k = record {
  again = λ x rest h. constant_again k rest;
  takes = λ bytes x rest h e. (tt, constant_takes k bytes x rest e);
  short = λ x front b more h e. constant_short k front b more e;
  faulty = constant_faulty k;
  stops = λ bytes left h e. constant_stops k bytes left e;
  stays = constant_stays k;
}

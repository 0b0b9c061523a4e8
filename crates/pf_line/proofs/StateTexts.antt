-- Texts of states and of bytes in hexadecimal.
use Rattle.std.proofs.{Common.{◌≡◌, ℕ, zero, suc, ◌+◌, ◌*◌, ◌/◌, ◌%◌, ◌<◌, ◌==◌, true, false, not, List, [], ◌∷◌, ◌++◌, length, take, get_or, Option, Result, refl, sym, ap, ◌∙◌, subst, arith, append-nil}, lemmas.Bool.and_parts, lemmas.List.{take_more, map-append}, lemmas.Simd.map-map}
use Rattle.std.specs.{Prelude.{map, slice_index, IsOk, OnOk, Ok, Err}, List.list_all}
use Rattle.std.specs.declared.io.Error.{Error}
use Rattle.hex.specs.Hex.{encode_with, encode_lower, lower_digits}
use Rattle.pf_addr.specs.declared.{addr.Addr.Addr, addr.Addr.TheVariants.{V4, V6}}
use Rattle.pf_addr.specs.{Address.network_of, Spelling.{addr_text, net_text}, Writing.Continues}
use Rattle.pf_line.specs.Reply.TextLines.{newlines, GoesOn, WroteLines}
use Rattle.pf_line.proofs.Writers.{goes_on, one_more_line}

-- ---- an address, as the network that has no other address

over-one : (n : ℕ) → n / 1 * 1 ≡ n
over-one n = omega arith

pub single_text : (a : Addr) → net_text (network_of a) ≡ addr_text a
single_text (V4 n) = append-nil _ ∙ ap (λ (m : ℕ). addr_text (V4 m)) (over-one n)
single_text (V6 n) = append-nil _ ∙ ap (λ (m : ℕ). addr_text (V6 m)) (over-one n)

-- ---- bytes in hexadecimal

no-newline-at : (t : List ℕ) → list_all (λ c. not (c == 10)) t ≡ true → (i : ℕ) → (slice_index t i == 10) ≡ false
no-newline-at [] h i = refl
no-newline-at (c ∷ t) h zero = grind (arith, and_parts, h)
no-newline-at (c ∷ t) h (suc i) = no-newline-at t (grind (arith, and_parts, h)) i

-- a success keeps its promise
pub done : {A E : Type 0} (r : Result A E) (P : Type 0) → IsOk r → OnOk r P → P
done (Ok x) P is gives = gives
done (Err e) P is gives = absurd (cc (is))

pub hex_plain : (bytes : List ℕ) → newlines (encode_lower bytes) ≡ 0
unfolding encode_with
hex_plain [] = refl
hex_plain (b ∷ bytes) = rw (no-newline-at lower_digits refl (b / 16), no-newline-at lower_digits refl (b % 16)) (hex_plain bytes)

last-byte : (bytes : List ℕ) (b : ℕ) → encode_lower (bytes ++ b ∷ []) ≡ encode_lower bytes ++ encode_lower (b ∷ [])
unfolding encode_with
last-byte [] b = refl
last-byte (a ∷ bytes) b = ap (λ (t : List ℕ). slice_index lower_digits (a / 16) ∷ slice_index lower_digits (a % 16) ∷ t) (last-byte bytes b)

pub one_more_byte : (p q s : Result (Unit {0}) Error) (old mid new : Option (List ℕ)) (bytes : List ℕ) (i : ℕ) → i < length bytes → GoesOn p old q mid (encode_lower (take i bytes)) → GoesOn q mid s new (encode_lower (get_or bytes i 0 ∷ [])) → GoesOn p old s new (encode_lower (take (i + 1) bytes))
one_more_byte p q s old mid new bytes i lt before one =
    subst (λ (text : List ℕ). GoesOn p old s new text) (sym (ap encode_lower (take_more bytes i 0 lt) ∙ last-byte (take i bytes) (get_or bytes i 0))) (goes_on before one)

-- ---- lines

last-line : {X : Type 0} (f : X → List ℕ) (xs : List X) (i : ℕ) (x : X) → i < length xs → x ≡ get_or xs i x → map f (take (i + 1) xs) ≡ map f (take i xs) ++ f x ∷ []
last-line f xs i x lt is = ap (map f) (take_more xs i x lt ∙ ap (λ y. take i xs ++ y ∷ []) (sym is)) ∙ map-append f (take i xs) (x ∷ [])

-- one more line is written
pub one_more : {X : Type 0} (f : X → List ℕ) (q s t : Result (Unit {0}) Error) (old mid more new : Option (List ℕ)) (xs : List X) (i : ℕ) (x : X) → i < length xs → x ≡ get_or xs i x → WroteLines q old mid (map f (take i xs)) → GoesOn q mid s more (f x) → Continues s more t new (10 ∷ []) → WroteLines t old new (map f (take (i + 1) xs))
one_more f q s t old mid more new xs i x lt is p w e =
    subst (WroteLines t old new) (sym (last-line f xs i x lt is)) (one_more_line q s t old mid more new (map f (take i xs)) (f x) p w e)

-- the same for a view of each item
pub one_more_of : {X Y : Type 0} (view : X → Y) (f : Y → List ℕ) (q s t : Result (Unit {0}) Error) (old mid more new : Option (List ℕ)) (xs : List X) (i : ℕ) (x : X) → i < length xs → x ≡ get_or xs i x → WroteLines q old mid (map f (map view (take i xs))) → GoesOn q mid s more (f (view x)) → Continues s more t new (10 ∷ []) → WroteLines t old new (map f (map view (take (i + 1) xs)))
one_more_of view f q s t old mid more new xs i x lt is p w e =
    subst (WroteLines t old new) (sym (map-map f view (take (i + 1) xs)))
    (one_more (λ y. f (view y)) q s t old mid more new xs i x lt is (subst (WroteLines q old mid) (map-map f view (take i xs)) p) w e)

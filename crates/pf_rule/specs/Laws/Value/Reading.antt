-- A protocol's word and the first word of a port test are read exactly where they spell one.
use Rattle.std.proofs.{Common.{◌≡◌, ℕ, ◌+◌, ◌<◌, ◌==◌, Bool, true, false, List, [], ◌∷◌, ◌++◌, length, take, drop, Option, Some, None, Result, Ok, Err, inl, inr, refl, sym, ap, ◌∙◌, subst, append_assoc, arith}, lemmas.Bool.{and_parts, lt-ltb, ltb-true}, lemmas.Bool.Decides.nat_tests, lemmas.List.{take_at, drop_at, length-append, take-append-drop}, lemmas.List.Elements.{All-append, All-from_get_or}, lemmas.Str.Parse.digit_at}
use Rattle.std.specs.{Prelude.{◌&&◌, bytes_eq, nat_lt, if◌then◌else◌, codes}, List.position}
use Rattle.pf_addr.specs.Laws.Places.{without, no_place, place_after, cut_there}
use Rattle.pf_form.specs.{Form.{Words.Word, Forms.◌>>=◌, Numbers.{IsNumber, is_digit, number_of}}, Laws.Form.{Decided.{bind_ok, word_is}, Numbers.{number_only, number_found}}}
use Rattle.pf_form.specs.declared.{form.fault.Kind.Kind, form.fault.Kind.TheVariants.{BadWord, BadProto}}
use Rattle.pf_rule.specs.declared.value.protocol.TheConstants.Protocol as protocols
use Rattle.pf_rule.specs.declared.{value.ports.Comparison.Comparison, value.ports.Comparison.TheVariants.{Equal, NotEqual, Less, AtMost, Greater, AtLeast}, value.ports.PortRange.TheVariants.{Including, Excluding, Except}, value.ports.PortTest.TheVariants.{Compared, Ranged}, value.port_words.PortStart.PortStart, value.port_words.PortStart.TheVariants.{Test, Number}}
use Rattle.pf_rule.specs.{Value.Values.{IsProtocol, protocol_names, IsNamed, SpellsProtocol, number_named, protocol_numbered, named_or, protocol_of, begins_with, port_numbered, port_of}, Value.Ports.{operator_word, IsPort, SpellsStart, split_by, operators, split_operator, joined, number_or, range_of, is_colon, start_at, start_of}}

-- a word with this front, taken apart
pub front_is : (front w : Word) → begins_with front w ≡ true → w ≡ front ++ drop (length front) w
front_is front w e = sym (take-append-drop (length front) w) ∙ ap (λ (f : Word). f ++ drop (length front) w) (word_is (take (length front) w) front e)

-- ---- a protocol

name_found : (names : List (Word × ℕ)) (w : Word) (n : ℕ) → number_named names w ≡ Some n → IsNamed names w n
name_found [] w n e = absurd cc
name_found (x ∷ xs) w n e = by (name_found xs w n) (bytes_eq w x.0) refl e where
  by : (number_named xs w ≡ Some n → IsNamed xs w n) → (t : Bool) → bytes_eq w x.0 ≡ t → (if t then Some x.1 else number_named xs w) ≡ Some n → IsNamed (x ∷ xs) w n
  by others true h e = let is : x.1 ≡ n = cc in inl (word_is w x.0 h, is)
  by others false h e = inr (others e)

numbered_found : (w : Word) (n : ℕ) → protocol_numbered (number_of 3 w) ≡ Ok n → IsNumber 3 w n × IsProtocol n
numbered_found w n e = by (number_of 3 w) refl e where
  by : (o : Option ℕ) → number_of 3 w ≡ o → protocol_numbered o ≡ Ok n → IsNumber 3 w n × IsProtocol n
  by None h e = absurd cc
  by (Some m) h e = kept (nat_lt 0 m && nat_lt m 256) refl e where
    kept : (t : Bool) → (nat_lt 0 m && nat_lt m 256) ≡ t → (if t then Ok m else Err BadProto) ≡ Ok n → IsNumber 3 w n × IsProtocol n
    kept true small e =
        let is : m ≡ n = cc in
        let within = and_parts (nat_lt 0 m) (nat_lt m 256) small in
        (number_found 3 w n (h ∙ ap (λ (k : ℕ). Some k) is), (subst (λ (k : ℕ). 0 < k) is (ltb-true 0 m within.0), subst (λ (k : ℕ). k < 256) is (ltb-true m 256 within.1)))
    kept false big e = absurd cc

pub protocol_found : (w : Word) (n : ℕ) → protocol_of w ≡ Ok n → SpellsProtocol w n
protocol_found w n e = by (number_named protocol_names w) refl e where
  by : (o : Option ℕ) → number_named protocol_names w ≡ o → named_or o (protocol_numbered (number_of 3 w)) ≡ Ok n → SpellsProtocol w n
  by (Some m) h e = let is : m ≡ n = cc in inl (name_found protocol_names w n (h ∙ ap (λ (k : ℕ). Some k) is))
  by None h e = inr (numbered_found w n e)

-- a number isn't a name
unnamed : (w : Word) (n : ℕ) → IsNumber 3 w n → number_named protocol_names w ≡ None
unnamed [] n is = refl
unnamed (d ∷ ds) n is =
    let digit = digit_at (d ∷ ds) 0 is.digits.1 (omega arith) in
    let t : (d == 116) ≡ false = grind (arith, nat_tests) in
    let u : (d == 117) ≡ false = grind (arith, nat_tests) in
    let i : (d == 105) ≡ false = grind (arith, nat_tests) in
    rw (t, u, i) refl

named_read : (w name : Word) (number n : ℕ) → protocol_of name ≡ Ok number → (w ≡ name) × (number ≡ n) → protocol_of w ≡ Ok n
named_read w name number n read is = ap protocol_of is.0 ∙ read ∙ ap (λ (k : ℕ). Ok k) is.1

pub protocol_only : (w : Word) (n : ℕ) → SpellsProtocol w n → protocol_of w ≡ Ok n
protocol_only w n (inl (inl is)) = named_read w (codes "tcp") protocols.TCP n refl is
protocol_only w n (inl (inr (inl is))) = named_read w (codes "udp") protocols.UDP n refl is
protocol_only w n (inl (inr (inr (inl is)))) = named_read w (codes "icmp") protocols.ICMP n refl is
protocol_only w n (inl (inr (inr (inr (inl is))))) = named_read w (codes "icmp6") protocols.ICMP6 n refl is
protocol_only w n (inl (inr (inr (inr (inr (inl is)))))) = named_read w (codes "ipv6-icmp") protocols.ICMP6 n refl is
protocol_only w n (inl (inr (inr (inr (inr (inr none)))))) = absurd none
protocol_only w n (inr (number, (some, few))) = rw (unnamed w n number, number_only 3 w n number, lt-ltb 0 n some, lt-ltb n 256 few) refl

-- ---- one number

pub port_read : (w : Word) (n : ℕ) → IsPort w n → port_of true w ≡ Ok n
port_read w n is = rw (number_only 5 w n is.0, lt-ltb n 65536 is.1) refl

port_found : (w : Word) (n : ℕ) → port_of true w ≡ Ok n → IsPort w n
port_found w n e = by (number_of 5 w) refl e where
  by : (o : Option ℕ) → number_of 5 w ≡ o → port_numbered true o ≡ Ok n → IsPort w n
  by None h e = absurd cc
  by (Some m) h e = kept (nat_lt m 65536) refl e where
    kept : (t : Bool) → nat_lt m 65536 ≡ t → (if t then Ok m else Err BadWord) ≡ Ok n → IsPort w n
    kept true small e =
        let is : m ≡ n = cc in
        (number_found 5 w n (h ∙ ap (λ (k : ℕ). Some k) is), subst (λ (k : ℕ). k < 65536) is (ltb-true m 65536 small))
    kept false big e = absurd cc

no_colon : (w : Word) (n : ℕ) → IsPort w n → without 58 w
no_colon w n is = All-from_get_or (λ b. (b == 58) ≡ false) w 0 (λ i le. let d = digit_at w i is.0.digits.1 le in grind (arith, nat_tests))

-- ---- two numbers

after_colon : (xs ys : List ℕ) → drop (length xs + 1) (xs ++ 58 ∷ ys) ≡ ys
after_colon xs ys =
    let joined : xs ++ 58 ∷ ys ≡ (xs ++ 58 ∷ []) ++ ys = sym (append_assoc xs (58 ∷ []) ys) in
    ap (drop (length xs + 1)) joined ∙ drop_at (xs ++ 58 ∷ []) ys (length xs + 1) (length-append xs (58 ∷ []))

range_read : (c d : Word) (a b : ℕ) → IsPort c a → IsPort d b → start_of (c ++ 58 ∷ d) ≡ Ok (Test (Ranged Including a b))
range_read c d a b p q = rw (place_after 58 c d (no_colon c a p), take_at c (58 ∷ d) (length c) refl, after_colon c d, port_read c a p, port_read d b q) refl

range_found : (w : Word) (i : ℕ) (s : PortStart) → position is_colon w ≡ Some i → range_of (take i w) (drop (i + 1) w) ≡ Ok s → SpellsStart w s
range_found w i s p e =
    let (a, first, f) = bind_ok (port_of true (take i w)) (λ a. port_of true (drop (i + 1) w) >>= λ b. Ok (Test (Ranged Including a b))) s e in
    let (b, last, g) = bind_ok (port_of true (drop (i + 1) w)) (λ b. Ok (Test (Ranged Including a b))) s f in
    let is : Test (Ranged Including a b) ≡ s = cc in
    subst (SpellsStart w) is (take i w, drop (i + 1) w, cut_there 58 w i p, port_found (take i w) a first, port_found (drop (i + 1) w) b last)

-- ---- an operator and a number

no_number : (b : ℕ) (bs : Word) → is_digit b ≡ false → port_of true (b ∷ bs) ≡ Err BadWord
no_number b bs e = grind arith

-- the operators' words
abbrev Named : List (Word × Comparison) → Type 0
Named [] = Unit {0}
Named (o ∷ os) = (o.0 ≡ operator_word o.1) × Named os

split_found : (os : List (Word × Comparison)) (w : Word) (x : Comparison × Word) → Named os → split_by os w ≡ Some x → w ≡ operator_word x.0 ++ x.1
split_found [] w x named e = absurd cc
split_found (o ∷ os) w x named e = by (split_found os w x named.1) (begins_with o.0 w) refl e where
  by : (split_by os w ≡ Some x → w ≡ operator_word x.0 ++ x.1) → (t : Bool) → begins_with o.0 w ≡ t → (if t then Some (o.1, drop (length o.0) w) else split_by os w) ≡ Some x → w ≡ operator_word x.0 ++ x.1
  by others true h e =
      let is : (o.1, drop (length o.0) w) ≡ x = cc in
      subst (λ (y : Comparison × Word). w ≡ operator_word y.0 ++ y.1) is (front_is o.0 w h ∙ ap (λ (f : Word). f ++ drop (length o.0) w) named.0)
  by others false h e = others e

joined_found : (w : Word) (s : PortStart) → joined (split_operator w) ≡ Ok s → SpellsStart w s
joined_found w s e = by (split_operator w) refl e where
  by : (o : Option (Comparison × Word)) → split_operator w ≡ o → joined o ≡ Ok s → SpellsStart w s
  by None h e = absurd cc
  by (Some x) h e =
      let (n, read, f) = bind_ok (port_of true x.1) (λ n. Ok (Test (Compared x.0 n))) s e in
      let is : Test (Compared x.0 n) ≡ s = cc in
      subst (SpellsStart w) is (x.1, split_found operators w x (refl, (refl, (refl, (refl, (refl, (refl, tt)))))) h, port_found x.1 n read)

operator_clear : (operator : Comparison) → without 58 (operator_word operator)
operator_clear Equal = grind (arith, nat_tests)
operator_clear NotEqual = grind (arith, nat_tests)
operator_clear Less = grind (arith, nat_tests)
operator_clear AtMost = grind (arith, nat_tests)
operator_clear Greater = grind (arith, nat_tests)
operator_clear AtLeast = grind (arith, nat_tests)

operator_alone : (operator : Comparison) (digits : Word) → port_of true (operator_word operator ++ digits) ≡ Err BadWord
operator_alone Equal digits = no_number 61 digits refl
operator_alone NotEqual digits = no_number 33 (61 ∷ digits) refl
operator_alone Less digits = no_number 60 digits refl
operator_alone AtMost digits = no_number 60 (61 ∷ digits) refl
operator_alone Greater digits = no_number 62 digits refl
operator_alone AtLeast digits = no_number 62 (61 ∷ digits) refl

-- a digit isn't "="
first_differs : (d : ℕ) (ds : Word) (n : ℕ) → IsPort (d ∷ ds) n → (d == 61) ≡ false
first_differs d ds n is = let digit = digit_at (d ∷ ds) 0 is.0.digits.1 (omega arith) in grind (arith, nat_tests)

split_word : (operator : Comparison) (digits : Word) (n : ℕ) → IsPort digits n → split_operator (operator_word operator ++ digits) ≡ Some (operator, digits)
split_word Equal digits n is = refl
split_word NotEqual digits n is = refl
split_word AtMost digits n is = refl
split_word AtLeast digits n is = refl
split_word Less [] n is = absurd (omega (arith, is.0.digits.0))
split_word Less (d ∷ ds) n is = rw (first_differs d ds n is) refl
split_word Greater [] n is = absurd (omega (arith, is.0.digits.0))
split_word Greater (d ∷ ds) n is = rw (first_differs d ds n is) refl

operator_read : (operator : Comparison) (digits : Word) (n : ℕ) → IsPort digits n → start_of (operator_word operator ++ digits) ≡ Ok (Test (Compared operator n))
operator_read operator digits n is =
    let clear : without 58 (operator_word operator ++ digits) = All-append (λ b. (b == 58) ≡ false) (operator_word operator) digits (operator_clear operator) (no_colon digits n is) in
    rw (no_place 58 (operator_word operator ++ digits) clear, operator_alone operator digits, split_word operator digits n is, port_read digits n is) refl

-- ---- the first word

pub start_only : (w : Word) (s : PortStart) → SpellsStart w s → start_of w ≡ Ok s
start_only w (Number n) is = rw (no_place 58 w (no_colon w n is), port_read w n is) refl
start_only w (Test (Compared operator n)) (digits, is, port) = ap start_of is ∙ operator_read operator digits n port
start_only w (Test (Ranged Including a b)) (first, last, is, p, q) = ap start_of is ∙ range_read first last a b p q
start_only w (Test (Ranged Excluding a b)) is = absurd is
start_only w (Test (Ranged Except a b)) is = absurd is

pub start_found : (w : Word) (s : PortStart) → start_of w ≡ Ok s → SpellsStart w s
start_found w s e = by (position is_colon w) refl e where
  alone : (r : Result ℕ Kind) → port_of true w ≡ r → number_or r (joined (split_operator w)) ≡ Ok s → SpellsStart w s
  alone (Ok n) h e = let is : Number n ≡ s = cc in subst (SpellsStart w) is (port_found w n h)
  alone (Err k) h e = joined_found w s e

  by : (o : Option ℕ) → position is_colon w ≡ o → start_at w o ≡ Ok s → SpellsStart w s
  by (Some i) p e = range_found w i s p e
  by None p e = alone (port_of true w) refl e

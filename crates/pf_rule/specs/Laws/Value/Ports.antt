-- The words written for a port test spell it.
use Rattle.std.proofs.{Common.{◌≡◌, ℕ, ◌<◌, true, List, [], ◌∷◌, ◌++◌, length, decimal, Option, Some, None, Ok, inl, inr, refl, arith}, lemmas.Bool.{and_parts, lt-ltb}, lemmas.Fmt.{decimal_is_IsNumeral, length-decimal-le}, lemmas.List.length-append, lemmas.List.Folds.list_all-append}
use Rattle.std.specs.{Prelude.{IfSome, nat_lt}, List.list_all}
use Rattle.pf_form.specs.{Form.Words.Word, Form.Forms.Spells, Laws.Form.Numbers.number_only}
use Rattle.pf_rule.specs.declared.{value.ports.Comparison.Comparison, value.ports.Comparison.TheVariants.{Equal, NotEqual, Less, AtMost, Greater, AtLeast}, value.ports.PortRange.TheVariants.{Including, Excluding, Except}, value.ports.PortTest.PortTest, value.ports.PortTest.TheVariants.{Compared, Ranged}, value.port_words.PortStart.TheVariants.{Test, Number}}
use Rattle.pf_rule.specs.{Value.Values.port_of, Laws.Value.Reading.{port_read, start_only}, Value.Ports.{IsPort, IsPortTest, start_of, range_end, ranged, compared, order_or_range, port_test, port, operator_word, test_words, port_words}, Value.Spacing.is_word, Value.Written.{Written, number_word}}

-- ---- one number

is_port : (n : ℕ) → n < 65536 → IsPort (decimal n) n
is_port n lt =
    let is = decimal_is_IsNumeral n (omega (arith, lt)) in
    (record { digits = is.0; few = length-decimal-le 5 n (omega arith) (omega (arith, lt)) (omega (arith, lt)); value = is.1 }, lt)

number_read : (n : ℕ) → n < 65536 → port_of true (decimal n) ≡ Ok n
number_read n lt = port_read (decimal n) n (is_port n lt)

number_good : (n : ℕ) → n < 65536 → is_word (decimal n) ≡ true
number_good n lt = number_word 5 (decimal n) n (number_only 5 (decimal n) n (is_port n lt).0)

start_alone : (n : ℕ) → n < 65536 → start_of (decimal n) ≡ Ok (Number n)
start_alone n lt = start_only (decimal n) (Number n) (is_port n lt)

-- ---- two numbers in one word

start_range : (a b : ℕ) → a < 65536 → b < 65536 → start_of (decimal a ++ 58 ∷ decimal b) ≡ Ok (Test (Ranged Including a b))
start_range a b p q = start_only (decimal a ++ 58 ∷ decimal b) (Test (Ranged Including a b)) (decimal a, decimal b, refl, is_port a p, is_port b q)

range_good : (a b : Word) → is_word a ≡ true → is_word b ≡ true → is_word (a ++ 58 ∷ b) ≡ true
range_good a b p q =
    let first = and_parts (nat_lt 0 (length a)) (list_all (nat_lt 32) a) p in
    let second = and_parts (nat_lt 0 (length b)) (list_all (nat_lt 32) b) q in
    let some : nat_lt 0 (length (a ++ 58 ∷ b)) ≡ true = lt-ltb 0 (length (a ++ 58 ∷ b)) (omega (arith, length-append a (58 ∷ b))) in
    rw (some, list_all-append (nat_lt 32) a (58 ∷ b), first.1, second.1) refl

-- ---- a test

compared_spelled : (operator : Comparison) (n : ℕ) → n < 65536 → Spells (compared operator) (Compared operator n) (decimal n ∷ [])
unfolding compared
compared_spelled operator n lt = (n, (decimal n, number_read n lt, refl), refl)

operator_spelled : (operator : Comparison) (n : ℕ) → n < 65536 → Spells port_test (Compared operator n) (operator_word operator ∷ decimal n ∷ [])
unfolding port_test order_or_range
operator_spelled Equal n lt = inl (_, compared_spelled Equal n lt, refl)
operator_spelled NotEqual n lt = inr (inl (_, compared_spelled NotEqual n lt, refl))
operator_spelled Less n lt = inr (inr (inl (_, compared_spelled Less n lt, refl)))
operator_spelled AtMost n lt = inr (inr (inr (inl (_, compared_spelled AtMost n lt, refl))))
operator_spelled Greater n lt = inr (inr (inr (inr (inl (_, compared_spelled Greater n lt, refl)))))
operator_spelled AtLeast n lt = inr (inr (inr (inr (inr (inl (_, compared_spelled AtLeast n lt, refl))))))

ranged_spelled : (t : PortTest) (ws : List Word) → Spells ranged t ws → Spells port_test t ws
unfolding port_test order_or_range
ranged_spelled t ws h = inr (inr (inr (inr (inr (inr h)))))

test_spelled : (t : PortTest) → IsPortTest t → Spells port_test t (test_words t)
unfolding ranged range_end
test_spelled (Compared operator n) is = operator_spelled operator n is
test_spelled (Ranged Including a b) is = ranged_spelled (Ranged Including a b) _ ((Test (Ranged Including a b), None), (_, [], (decimal a ++ 58 ∷ decimal b, start_range a b is.0 is.1, refl), (refl, refl), refl), refl)
test_spelled (Ranged Excluding a b) is = ranged_spelled (Ranged Excluding a b) _ ((Number a, Some (Excluding, b)), (_, _, (decimal a, start_alone a is.0, refl), inl (_, (b, (decimal b, number_read b is.1, refl), refl), refl), refl), refl)
test_spelled (Ranged Except a b) is = ranged_spelled (Ranged Except a b) _ ((Number a, Some (Except, b)), (_, _, (decimal a, start_alone a is.0, refl), inr (inl (_, (b, (decimal b, number_read b is.1, refl), refl), refl)), refl), refl)

operator_good : (operator : Comparison) → is_word (operator_word operator) ≡ true
operator_good operator = grind arith

test_good : (t : PortTest) → IsPortTest t → list_all is_word (test_words t) ≡ true
test_good (Compared operator n) is = rw (operator_good operator, number_good n is) refl
test_good (Ranged Including a b) is = rw (range_good (decimal a) (decimal b) (number_good a is.0) (number_good b is.1)) refl
test_good (Ranged Excluding a b) is = rw (number_good a is.0, number_good b is.1) refl
test_good (Ranged Except a b) is = rw (number_good a is.0, number_good b is.1) refl

pub port_written : (o : Option PortTest) → IfSome o IsPortTest → Written port o (port_words o)
unfolding port
port_written None is = record { spells = inr (refl, refl); words = refl }
port_written (Some t) is = record { spells = inl (test_words t, (t, test_spelled t is, refl), refl); words = test_good t is }

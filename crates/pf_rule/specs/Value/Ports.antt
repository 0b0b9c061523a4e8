-- Tests of ports: which ports they take, and how they are spelled (pf.conf(5), PARAMETERS and GRAMMAR).
use Rattle.std.specs.{Prelude.{ℕ, ◌+◌, ◌<◌, ◌==◌, ◌&&◌, ◌||◌, not, nat_lt, nat_le, Bool, true, false, List, [], ◌∷◌, ◌++◌, take, drop, length, codes, decimal, Option, Some, None, is_none, Result, Ok, Err, if◌then◌else◌}, List.position}
use Rattle.std.proofs.Common.{◌≡◌, refl}
use Rattle.pf_form.specs.declared.{form.fault.Kind.Kind, form.fault.Kind.TheVariants.BadWord}
use Rattle.pf_form.specs.{Form.Words.Word, Form.Forms.{Form, nothing, word, or, pair_by, making, ◌>>=◌}, Form.Numbers.IsNumber}
use Rattle.pf_rule.specs.declared.{value.values.TheConstants.PORT_DIGITS, value.ports.Comparison.Comparison, value.ports.Comparison.TheVariants.{Equal, NotEqual, Less, AtMost, Greater, AtLeast}, value.ports.PortRange.PortRange, value.ports.PortRange.TheVariants.{Including, Excluding, Except}, value.ports.PortTest.PortTest, value.ports.PortTest.TheVariants.{Compared, Ranged}, value.port_words.PortStart.PortStart, value.port_words.PortStart.TheVariants.{Test, Number}}
use Rattle.pf_rule.specs.Value.Values.{has_ports, begins_with, port_of, a_port}

-- ---- what they mean

-- how the port compares with the number
abbrev pub compares : Comparison → ℕ → ℕ → Bool
compares Equal p n = p == n
compares NotEqual p n = not (p == n)
compares Less p n = nat_lt p n
compares AtMost p n = nat_le p n
compares Greater p n = nat_lt n p
compares AtLeast p n = nat_le n p

-- where the port is by the first and the last number
abbrev pub in_range : PortRange → ℕ → ℕ → ℕ → Bool
in_range Including a b p = nat_le a p && nat_le p b
in_range Excluding a b p = nat_lt a p && nat_lt p b
in_range Except a b p = nat_lt p a || nat_lt b p

abbrev pub port_holds : PortTest → ℕ → Bool
port_holds (Compared operator n) p = compares operator p n
port_holds (Ranged range a b) p = in_range range a b p

abbrev pub has_ports_of : Option ℕ → Bool
has_ports_of None = false
has_ports_of (Some protocol) = has_ports protocol

-- Ports may be tested only with a protocol that has ports.
unfoldable pub ports_fit : Option ℕ → Option PortTest → Option PortTest → Bool
ports_fit protocol source destination = (is_none source && is_none destination) || has_ports_of protocol

-- what every test maintains: its numbers are ports
abbrev pub IsPortTest : PortTest → Type 0
IsPortTest (Compared operator n) = n < 65536
IsPortTest (Ranged range a b) = (a < 65536) × (b < 65536)

-- ---- how their first word is spelled

abbrev pub operator_word : Comparison → Word
operator_word Equal = codes "="
operator_word NotEqual = codes "!="
operator_word Less = codes "<"
operator_word AtMost = codes "<="
operator_word Greater = codes ">"
operator_word AtLeast = codes ">="

-- a port: its number in 1 to 5 decimal digits
abbrev pub IsPort : Word → ℕ → Type 0
IsPort w n = IsNumber PORT_DIGITS w n × (n < 65536)

-- The first word of a test: a number, a unary operator joined to its number, or two numbers with a colon (58) between them.
abbrev pub SpellsStart : Word → PortStart → Type 0
SpellsStart w (Number n) = IsPort w n
SpellsStart w (Test (Compared operator n)) = (digits : Word) × (w ≡ operator_word operator ++ digits) × IsPort digits n
SpellsStart w (Test (Ranged Including a b)) = (first last : Word) × (w ≡ first ++ 58 ∷ last) × IsPort first a × IsPort last b
SpellsStart w (Test (Ranged Excluding a b)) = ⊥
SpellsStart w (Test (Ranged Except a b)) = ⊥

-- ---- how it is read

-- using these operators
abbrev pub split_by : List (Word × Comparison) → Word → Option (Comparison × Word)
split_by [] w = None
split_by (o ∷ os) w = if begins_with o.0 w then Some (o.1, drop (length o.0) w) else split_by os w

abbrev pub operators : List (Word × Comparison)
operators =
    (codes "=", Equal) ∷ (codes "!=", NotEqual) ∷ (codes "<=", AtMost) ∷
    (codes "<", Less) ∷ (codes ">=", AtLeast) ∷ (codes ">", Greater) ∷ []

-- a word that begins with a unary operator: the longest such operator, and what comes after it
abbrev pub split_operator : Word → Option (Comparison × Word)
split_operator = split_by operators

-- an operator joined to its number
abbrev pub joined : Option (Comparison × Word) → Result PortStart Kind
joined None = Err BadWord
joined (Some x) = port_of true x.1 >>= λ n. Ok (Test (Compared x.0 n))

-- a number alone, or else an operator joined to one
abbrev pub number_or : Result ℕ Kind → Result PortStart Kind → Result PortStart Kind
number_or (Ok n) other = Ok (Number n)
number_or (Err kind) other = other

-- two numbers
abbrev pub range_of : Word → Word → Result PortStart Kind
range_of a b = port_of true a >>= λ first. port_of true b >>= λ last. Ok (Test (Ranged Including first last))

abbrev pub is_colon : ℕ → Bool
is_colon b = b == 58

-- given the place of its first colon
abbrev pub start_at : Word → Option ℕ → Result PortStart Kind
start_at w (Some i) = range_of (take i w) (drop (i + 1) w)
start_at w None = number_or (port_of true w) (joined (split_operator w))

-- The first word of a test: two numbers with a colon between them, a number, or a unary operator joined to its number.
abbrev pub start_of : Word → Result PortStart Kind
start_of w = start_at w (position is_colon w)

abbrev pub a_start : Form PortStart
a_start = word (record { of = start_of; sample = codes "0"; value = Number 0; takes = refl })

-- ---- how they are spelled

abbrev pub number : Form ℕ
number = a_port true

-- ["><" number | "<>" number], after a number that is a word of its own
unfoldable pub range_end : Bool → Form (Option (PortRange × ℕ))
range_end true =
    or (codes "><") (making (λ n. Some (Excluding, n)) number) (or (codes "<>") (making (λ n. Some (Except, n)) number) (nothing None))
range_end false = nothing None

abbrev pub is_number : PortStart → Bool
is_number (Number n) = true
is_number (Test t) = false

abbrev pub test_with : PortStart × Option (PortRange × ℕ) → PortTest
test_with (Number n, None) = Compared Equal n
test_with (Number n, Some x) = Ranged x.0 n x.1
test_with (Test t, end) = t

-- number | number "><" number | number "<>" number, and those in one word: number:number | operator and number
unfoldable pub ranged : Form PortTest
ranged = making test_with (pair_by a_start is_number range_end)

-- a number, after this operator
unfoldable pub compared : Comparison → Form PortTest
compared operator = making (λ n. Compared operator n) number

-- an operator of order and a number, or a test that doesn't begin with an operator as a word of its own
unfoldable pub order_or_range : Form PortTest
order_or_range =
    or (codes "<") (compared Less) (or (codes "<=") (compared AtMost)
    (or (codes ">") (compared Greater) (or (codes ">=") (compared AtLeast) ranged)))

-- an operator of equality and a number, or one of the above
unfoldable pub port_test : Form PortTest
port_test = or (codes "=") (compared Equal) (or (codes "!=") (compared NotEqual) order_or_range)

-- ["port" test]
unfoldable pub port : Form (Option PortTest)
port = or (codes "port") (making (λ t. Some t) port_test) (nothing None)

-- ---- how they are written

-- a range with its boundaries is one word, containing a colon (58)
abbrev pub test_words : PortTest → List Word
test_words (Compared operator n) = operator_word operator ∷ decimal n ∷ []
test_words (Ranged Including a b) = (decimal a ++ 58 ∷ decimal b) ∷ []
test_words (Ranged Excluding a b) = decimal a ∷ codes "><" ∷ decimal b ∷ []
test_words (Ranged Except a b) = decimal a ∷ codes "<>" ∷ decimal b ∷ []

abbrev pub port_words : Option PortTest → List Word
port_words None = []
port_words (Some t) = codes "port" ∷ test_words t

-- The words written for a test of the direction, the interface, the family or the protocol spell it.
use Rattle.std.proofs.{Common.{◌≡◌, ℕ, ◌<◌, true, false, [], ◌∷◌, length, decimal, Option, Some, None, Ok, inl, inr, refl, sym, ap, ◌∙◌, arith}, lemmas.Bool.lt-ltb, lemmas.Bool.Decides.nat_tests, lemmas.Slice.Eq.bytes_eq-Decides}
use Rattle.std.specs.{Prelude.{codes, IfSome}, Str.bytes_eq}
use Rattle.pf_addr.specs.Laws.Spelling.{IsNumber-decimal}
use Rattle.pf_form.specs.{Form.{Numbers.number_of, Words.Word}, Laws.Form.Numbers.number_only}
use Rattle.pf_addr.specs.declared.addr.Family.{Family}
use Rattle.pf_addr.proofs.NamesRead.{name_only, name_bytes}
use Rattle.pf_rule.specs.declared.{value.direction.Direction.Direction, value.interface.TheConstants.INTERFACE_LIMIT}
use Rattle.pf_rule.specs.{Value.Values.{IsInterfaceName, IsProtocol, protocol_names, number_named, protocol_of}, Value.Tests.{direction, interface, family, protocol, direction_words, interface_words, family_words, protocol_word, protocol_words}, Value.Spacing.is_word, Value.Written.{Written, number_word}}

pub direction_written : (d : Option Direction) → Written direction d (direction_words d)
unfolding direction
direction_written d = record { spells = grind arith; words = grind arith }

pub family_written : (f : Option Family) → Written family f (family_words f)
unfolding family
family_written f = record { spells = grind arith; words = grind arith }

-- ---- interfaces

name_word : (w : Word) → IsInterfaceName w → is_word w ≡ true
name_word w is = rw (lt-ltb 0 (length w) is.some, name_bytes INTERFACE_LIMIT w is) refl

pub interface_written : (i : Option Word) → IfSome i IsInterfaceName → Written interface i (interface_words i)
unfolding interface
interface_written i is = record { spells = grind (arith, name_only); words = grind (arith, name_word) }

-- ---- protocols

same_bytes : (a b : Word) → bytes_eq a b ≡ true → a ≡ b
same_bytes a b = (bytes_eq-Decides a b).0

other_bytes : (a b : Word) → (a ≡ b → ⊥) → bytes_eq a b ≡ false
other_bytes a b differ = grind (arith, same_bytes)

number_read : (n : ℕ) → n < 256 → number_of 3 (decimal n) ≡ Some n
number_read n lt = number_only 3 (decimal n) n (IsNumber-decimal 255 n (omega arith) (omega arith)).number

-- no name is a number
unnamed : (w : Word) (n : ℕ) → number_of 3 w ≡ Some n → number_named protocol_names w ≡ None
unnamed w n is =
    let not = λ (v : Word) (none : number_of 3 v ≡ None). other_bytes w v (λ e. let bad : Some n ≡ None = sym is ∙ ap (number_of 3) e ∙ none in cc) in
    rw (not (codes "tcp") refl, not (codes "udp") refl, not (codes "icmp") refl, not (codes "icmp6") refl, not (codes "ipv6-icmp") refl) refl

protocol_read : (n : ℕ) (number : number_of 3 (decimal n) ≡ Some n) (none : number_named protocol_names (decimal n) ≡ None) → IsProtocol n → protocol_of (protocol_word n) ≡ Ok n
protocol_read n number none is = grind (arith, nat_tests)

protocol_good : (n : ℕ) → is_word (decimal n) ≡ true → is_word (protocol_word n) ≡ true
protocol_good n is = grind (arith, nat_tests)

-- what is written for a protocol is a word of a line
pub protocol_is_word : (n : ℕ) → n < 256 → is_word (protocol_word n) ≡ true
protocol_is_word n lt = protocol_good n (number_word 3 (decimal n) n (number_read n lt))

pub protocol_written : (o : Option ℕ) → IfSome o IsProtocol → Written protocol o (protocol_words o)
unfolding protocol
protocol_written None is = record { spells = inr (refl, refl); words = refl }
protocol_written (Some n) is =
    let number = number_read n is.1 in
    let read = protocol_read n number (unnamed (decimal n) n number) is in
    record { spells = inl (protocol_word n ∷ [], (n, (protocol_word n, read, refl), refl), refl); words = rw (protocol_is_word n is.1) refl }

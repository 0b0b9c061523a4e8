-- Words that spell a value and can be in a text.
use Rattle.std.proofs.{Common.{◌≡◌, ℕ, Bool, true, List, ◌++◌, length, Some, refl, arith}, lemmas.Bool.and_parts, lemmas.Bool.Decides.nat_tests, lemmas.List.Folds.list_all-append, lemmas.List.Sums.{AllPass-from_list_all, list_all-from_AllPass}}
use Rattle.std.specs.{Prelude.nat_lt, List.{list_all, slice_index_or}}
use Rattle.pf_form.specs.{Form.Numbers.{is_digit, number_of}, Form.Words.Word, Form.Forms.{Form, pair, Spells}}
use Rattle.pf_rule.specs.Value.Spacing.{is_word}

-- words that spell a value, each of which is a word of a line
pub record Written {A : Type 0} (f : Form A) (x : A) (ws : List Word) : Type 0 where
  pub spells : Spells f x ws
  pub words : list_all is_word ws ≡ true

pub all_words : {A B : Type 0} {f : Form A} {g : Form B} {x : A} {y : B} {a b : List Word} → Written f x a → Written g y b →
    list_all is_word (a ++ b) ≡ true
all_words p q = rw (list_all-append, p.words, q.words) refl

pub both : {A B : Type 0} {f : Form A} {g : Form B} {x : A} {y : B} {a b : List Word} → Written f x a → Written g y b →
    Written (pair f g) (x, y) (a ++ b)
both {a = a} {b = b} p q = record { spells = (a, b, p.spells, q.spells, refl); words = all_words p q }

-- ---- words of a line

-- a word is one if each of its bytes passes a test that only bytes above a space pass
pub tested_word : (test : ℕ → Bool) → ((b : ℕ) → test b ≡ true → nat_lt 32 b ≡ true) → (w : Word) → nat_lt 0 (length w) ≡ true →
    list_all test w ≡ true → is_word w ≡ true
tested_word test each w some all = rw (
  some,
  list_all-from_AllPass (nat_lt 32) w
      (λ k d lt. each (slice_index_or w k d) (AllPass-from_list_all test w all k d lt)),
) refl

digit_above_space : (b : ℕ) → is_digit b ≡ true → nat_lt 32 b ≡ true
digit_above_space b e = grind (arith, nat_tests)

pub number_word : (most : ℕ) (w : Word) (n : ℕ) → number_of most w ≡ Some n → is_word w ≡ true
number_word most w n is = grind (arith, nat_tests, and_parts, tested_word is_digit digit_above_space w)

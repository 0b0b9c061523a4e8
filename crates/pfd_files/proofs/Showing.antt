-- Lemmas on what is shown of a disk.
use Rattle.std.proofs.Common.{◌≡◌, ℕ, List, length, ◌++◌, codes, refl, subst, arith, Option, Result, Ok, Err}
use Rattle.std.proofs.lemmas.List.{take_all}
use Rattle.std.specs.Io.KnownBytes.{Appends, Keeps}
use Rattle.std.specs.declared.io.Error.{Error}
use Rattle.pf_addr.specs.Writing.{Appends-kept, Writes}
use Rattle.pf_core.specs.Durable.Changes.{PlainDurable, main_sum}
use Rattle.pfd_files.specs.Showing.{number_line, shown_text, sum_line}

-- the lines with what is kept are its text
pub reported : (d : PlainDurable) (epoch rulesets tables states tick : ℕ) (sum : List ℕ) → epoch ≡ d.epoch → sum ≡ main_sum d → rulesets ≡ length d.config.rulesets
    → tables ≡ length d.config.tables → states ≡ length d.states → tick ≡ d.tick
    → number_line (codes "epoch ") epoch ++ (sum_line sum ++ (number_line (codes "rulesets ") rulesets
    ++ (number_line (codes "tables ") tables ++ (number_line (codes "states ") states ++ number_line (codes "tick ") tick)))) ≡ shown_text d
reported d epoch rulesets tables states tick sum a b c e f g = rw (a, b, c, e, f, g) refl

-- the same for an equal result and an equal text
pub as_reported : (r q : Result (Unit {0}) Error) (old new : Option (List ℕ)) (a b : List ℕ) → r ≡ q → a ≡ b → Writes r old new a → Writes q old new b
as_reported r q old new a b same is w =
    subst (λ (t : List ℕ). Writes q old new t) is (subst (λ (s : Result (Unit {0}) Error). Writes s old new a) same w)

-- a flush after a text leaves it as it is
pub flushed : (r : Result (Unit {0}) Error) (old mid new : Option (List ℕ)) (text : List ℕ) → Appends old mid text → Keeps mid new → Writes r old new text
flushed (Ok u) old mid new text a k = Appends-kept old mid new text a k
flushed (Err e) old mid new text a k = (length text, rw (take_all (length text) text (omega arith)) (Appends-kept old mid new text a k))

-- Lines, and what a text is made of: parts without a newline.
use Rattle.std.specs.Prelude.{◌≡◌, ℕ, suc, ◌==◌, List, [], ◌∷◌, ◌++◌, length, if◌then◌else◌, Option, Result}
use Rattle.std.specs.declared.io.Error.{Error}
use Rattle.pf_addr.specs.Writing.{Wrote, Continues}

-- how many newlines (10) a text has
abbrev pub newlines : List ℕ → ℕ
newlines [] = 0
newlines (b ∷ bs) = if b == 10 then suc (newlines bs) else newlines bs

-- a newline (10) ends each line
abbrev pub lines_text : List (List ℕ) → List ℕ
lines_text [] = []
lines_text (l ∷ ls) = l ++ 10 ∷ lines_text ls

-- A text of this many lines: it ends in a newline, and has this many.
pub record HasLines (n : ℕ) (text : List ℕ) : Type 0 where
  pub front : List ℕ
  pub ends : text ≡ front ++ 10 ∷ []
  pub count : newlines text ≡ n

-- After what was written so far this text is written, which has no newline.
pub record GoesOn {A B : Type 0} (so_far : Result A Error) (mid : Option (List ℕ)) (r : Result B Error)
    (new : Option (List ℕ)) (text : List ℕ) : Type 0 where
  pub written : Continues so_far mid r new text
  pub one_line : newlines text ≡ 0

-- These lines are written, and none has a newline within.
pub record WroteLines (r : Result (Unit {0}) Error) (old new : Option (List ℕ)) (lines : List (List ℕ)) : Type 0 where
  pub text : Wrote r old new (lines_text lines)
  pub count : newlines (lines_text lines) ≡ length lines

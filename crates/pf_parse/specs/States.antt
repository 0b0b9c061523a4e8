-- What is known between two tokens of a file.
use Rattle.std.specs.Prelude.{ℕ, Bool, List}
use Rattle.pf_tokens.specs.declared.{place.Place.Place, token.Token.Token}
use Rattle.pf_parse.specs.declared.{fault.At.At, fault.Remark.Remark, parser.Mode.Mode, parser.Rank.Rank, tree.Tree.Tree}

pub record State : Type 0 where
  -- the tokens that are left; behind them there is nothing but newlines, at this place
  pub left : List Token
  pub end_place : Place
  -- how the file is read, and whether its rules are the main ruleset's
  pub mode : Mode
  pub is_main : Bool
  -- how far the order of lines has come, and whether it matters
  pub rank : Rank
  pub is_ordered : Bool
  -- the number of the innermost braces that are open, and how many are
  pub within : ℕ
  pub depth : ℕ
  -- what was found so far
  pub tree : Tree
  pub notes : List (At Remark)

-- The signs of an address's prefixes, as two numbers have them.
use Rattle.std.specs.{Prelude.{◌≡◌, ℕ, ◌==◌, ◌%◌, ◌^◌, ◌<◌, Bool, true, false, cond, Option, Some, None, MatchOption}, Int.bit_at}
use Rattle.pf_trie.specs.declared.{found.Found.{Found}, signs.Signs.{Signs}}

abbrev pub is_set : ℕ → ℕ → Bool
is_set n k = bit_at n k == 1

-- the sign of the prefix that leaves so many bits free
abbrev pub sign_of : Signs → ℕ → Option Bool
sign_of signs k = cond (is_set signs.plain k) (Some false) (cond (is_set signs.negated k) (Some true) None)

-- those of the prefixes that leave fewer bits free
abbrev pub below_of : ℕ → Signs → Signs
below_of most signs = record { plain = signs.plain % 2 ^ most; negated = signs.negated % 2 ^ most }

-- this sign is there, and none of a prefix that leaves fewer bits free
pub record IsFirst (signs : Signs) (found : Found) : Type 0 where
  pub within : found.free < 128
  pub sign : sign_of signs found.free ≡ Some found.sign
  pub first : (k : ℕ) → k < found.free → sign_of signs k ≡ None

abbrev pub IsShortest : Signs → Option Found → Type 0
IsShortest signs found = MatchOption found ((k : ℕ) → sign_of signs k ≡ None) (IsFirst signs)

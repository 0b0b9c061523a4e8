-- Which calls a fuse lets fail.
use Rattle.std.specs.Prelude.{ℕ, zero, suc, Bool, true, false, if◌then◌else◌, ◌+◌, min}
use Rattle.pf_disk.specs.declared.{fuse.Fuse.Fuse, fuse.Fuse.TheVariants.{Whole, After, Once, Torn}}

-- the next call fails
abbrev pub blows : Fuse → Bool
blows Whole = false
blows (After zero) = true
blows (After (suc k)) = false
blows (Once zero) = true
blows (Once (suc k)) = false
blows (Torn zero) = true
blows (Torn (suc k)) = false

-- the next call fails, and tears what it writes
abbrev pub tears : Fuse → Bool
tears Whole = false
tears (After k) = false
tears (Once k) = false
tears (Torn zero) = true
tears (Torn (suc k)) = false

-- the fuse after a call, of whichever kind
abbrev pub burnt : Fuse → Fuse
burnt Whole = Whole
burnt (After zero) = After zero
burnt (After (suc k)) = After k
burnt (Once zero) = Whole
burnt (Once (suc k)) = Once k
burnt (Torn zero) = Whole
burnt (Torn (suc k)) = Torn k

-- one more refusal, if the next call fails
abbrev pub counted : Fuse → ℕ → ℕ
counted fuse refused = if blows fuse then refused + 1 else refused

-- one more call that was passed on, if the next call passes; the count stays at its last value
abbrev pub passed_on : Fuse → ℕ → ℕ
passed_on fuse passed = if blows fuse then passed else min (passed + 1) 18446744073709551615

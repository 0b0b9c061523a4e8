-- A row's numbers without the zeros at their ends, and with them again.
use Rattle.std.proofs.{Common.{◌≡◌, ℕ, ◌*◌, ◌/◌, ◌%◌, ◌^◌, ◌<◌, arith}}
use Rattle.pf_trie.specs.declared.narrow.TheConstants.{LEFT_OUT}

pub whole : (a : ℕ) → a < 2 ^ 128 → a % 2 ^ LEFT_OUT ≡ 0 → a / 2 ^ LEFT_OUT % 2 ^ 32 * 2 ^ LEFT_OUT ≡ a
whole a fits zeros = omega (arith, fits, zeros)

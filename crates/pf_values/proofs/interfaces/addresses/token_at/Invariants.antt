use Rattle.std.proofs.Common.{◌≡◌, ℕ, map, take}
use Rattle.pf_tokens.specs.Places.{at}
use Rattle.pf_values.proofs.interfaces.addresses.token_at.Given as goal

abbrev pub invariant-loop-byte : goal.invariant-loop-byte
invariant-loop-byte l = l.text ≡ map (λ (b : ℕ). at b l.place) (take l.byte-index l.bytes)

-- Runs from the front of a text on.
use Rattle.std.proofs.Common.{◌≡◌, ℕ, ◌≤◌, Bool, List, length, take, ap, arith}
use Rattle.std.proofs.lemmas.List.{Folds.length-prefix_len, Sums.prefix_len-le-length}
use Rattle.pf_tokens.specs.declared.{place.Placed.Placed, lexing.Run.Run}
use Rattle.pf_tokens.specs.Lexing.{goes_on, run_of}

-- as many elements as a run has are the run
pub take_run : (r : Run) (cs : List Placed) → take (length (run_of r cs)) cs ≡ run_of r cs
take_run r cs = ap (λ (n : ℕ). take n cs) (length-prefix_len (λ (c : Placed). goes_on r c.byte) cs)

pub run_bound : (r : Run) (cs : List Placed) → length (run_of r cs) ≤ length cs
run_bound r cs =
    let p : Placed → Bool = λ (c : Placed). goes_on r c.byte in
    omega (arith, length-prefix_len p cs, prefix_len-le-length p cs)

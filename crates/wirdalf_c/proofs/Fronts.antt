-- What finds room of a text.
use Rattle.std.proofs.Common.{◌≡◌, ℕ, List, ◌++◌, length, take, min, ◌∙◌, ap, arith}
use Rattle.std.proofs.Math.ListN.{set}
use Rattle.std.proofs.Math.Nat.{min-le_right}
use Rattle.std.proofs.lemmas.List.{length-take-le, take-set, take_at, take_min}

pub front_reported : (most : ℕ) (text copied rest : List ℕ) (n : ℕ) → n ≡ min most (length text) → copied ≡ take n text
    → take n (set (copied ++ rest) n 0) ≡ take most text
front_reported most text copied rest n is after =
    let few = min-le_right most (length text) in
    let long : length copied ≡ n = ap length after ∙ length-take-le n text (omega (arith, few, is)) in
    take-set (copied ++ rest) n 0 ∙ take_at copied rest n long ∙ after ∙ ap (λ (k : ℕ). take k text) is ∙ take_min most text

-- How many cases hold, and how many don't.
use Rattle.std.proofs.Common.{◌≡◌, ℕ, ◌+◌, ◌-◌, ◌^◌, ◌<◌, ◌≤◌, Bool, true, false, List, [], ◌∷◌, length, refl, arith, min, cond, ap₂, ◌∙◌}
use Rattle.std.proofs.Math.Nat.{min-eq_left}
use Rattle.std.proofs.lemmas.List.Sums.{sum_by-cons}
use Rattle.std.specs.Prelude.{count_by, sum_by}
use Rattle.pfd_conf.specs.Case.Cases.{same}
use Rattle.pfd_conf.specs.declared.{outcomes.Outcome.Outcome, outcomes.Tried.Tried}
use Rattle.pfd_conf.specs.Reports.{has, counted, tally, case_count}

-- a case holds or doesn't
one : (b : Bool) → cond (same true b) 1 0 + cond (same false b) 1 0 ≡ 1
one true = refl
one false = refl

of_file : (os : List Outcome) → count_by (has true) os + count_by (has false) os ≡ length os
of_file [] = refl
of_file (o ∷ os) =
    let here : cond (same true o.holds) 1 0 + cond (same false o.holds) 1 0 ≡ 1 = one o.holds in
    let rest : count_by (has true) os + count_by (has false) os ≡ length os = of_file os in
    let holding : count_by (has true) (o ∷ os) ≡ cond (same true o.holds) 1 0 + count_by (has true) os =
    sum_by-cons (λ (p : Outcome). cond (has true p) 1 0) o os in
    let failing : count_by (has false) (o ∷ os) ≡ cond (same false o.holds) 1 0 + count_by (has false) os =
    sum_by-cons (λ (p : Outcome). cond (has false p) 1 0) o os in
    omega (arith, here, rest, holding, failing)

of_files : (ts : List Tried) →
    sum_by (λ (t : Tried). count_by (has true) t.outcomes) ts + sum_by (λ (t : Tried). count_by (has false) t.outcomes) ts ≡ case_count ts
of_files [] = refl
of_files (t ∷ ts) =
    let here : count_by (has true) t.outcomes + count_by (has false) t.outcomes ≡ length t.outcomes = of_file t.outcomes in
    let rest = of_files ts in
    let holding = sum_by-cons (λ (u : Tried). count_by (has true) u.outcomes) t ts in
    let failing = sum_by-cons (λ (u : Tried). count_by (has false) u.outcomes) t ts in
    let cases = sum_by-cons (λ (u : Tried). length u.outcomes) t ts in
    omega (arith, here, rest, holding, failing, cases)

pub all_counted : (ts : List Tried) → case_count ts < 2 ^ 64 → (tally ts).passed + (tally ts).failed ≡ case_count ts
all_counted ts few =
    let passed : ℕ = sum_by (λ (t : Tried). count_by (has true) t.outcomes) ts in
    let failed : ℕ = sum_by (λ (t : Tried). count_by (has false) t.outcomes) ts in
    let all : passed + failed ≡ case_count ts = of_files ts in
    let first : min passed (2 ^ 64 - 1) ≡ passed = min-eq_left (omega (arith, all, few)) in
    let second : min failed (2 ^ 64 - 1) ≡ failed = min-eq_left (omega (arith, all, few)) in
    ap₂ (λ (a b : ℕ). a + b) first second ∙ all

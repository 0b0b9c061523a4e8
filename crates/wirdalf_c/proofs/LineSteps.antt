-- Lines one after the other.
use Rattle.std.proofs.Common.{◌≡◌, ℕ, ◌+◌, ◌<◌, List, [], ◌∷◌, length, get_or, drop, Result, Ok, Err, inl, inr, refl, sym, ap, ◌∙◌, arith, drop-cons, add-one}
use Rattle.std.proofs.lemmas.List.{drop_all}
use Rattle.pf_core.specs.{Cores.PlainCore, Durable.Changes.PlainDurable}
use Rattle.wirdalf_c.specs.declared.lines.{LineRefusal.LineRefusal, LineFault.LineFault}
use Rattle.wirdalf_c.specs.Lines.{Comes, Runs, fault_at}

-- the line at a place, and those after it
from_place : (lines : List (List ℕ)) (n : ℕ) (line : List ℕ) → (n < length lines) × (line ≡ get_or lines n line) → drop n lines ≡ line ∷ drop (n + 1) lines
from_place lines n line at =
    let less : n < length lines = at.0 in
    let e : drop n lines ≡ get_or lines n line ∷ drop (n + 1) lines = rw add-one (drop-cons lines n line less) in
    e ∙ ap (λ (l : List ℕ). l ∷ drop (n + 1) lines) (sym at.1)

-- what the lines behind so many come to, all lines come to
abbrev pub Leads : PlainCore → List (List ℕ) → PlainCore → ℕ → Type 0
Leads begin lines w n = (r : Result PlainDurable LineFault) → Runs w (n + 1) (drop n lines) r → Runs begin 1 lines r

pub one_more : (begin : PlainCore) (lines : List (List ℕ)) (w v : PlainCore) (n : ℕ) (line : List ℕ) → (n < length lines) × (line ≡ get_or lines n line)
    → Comes w line (Ok v) → Leads begin lines w n → Leads begin lines v (n + 1)
one_more begin lines w v n line at comes so_far = λ r rest. so_far r (rw (from_place lines n line at) (inl (v, comes, rest)))

pub stopped : (begin : PlainCore) (lines : List (List ℕ)) (w : PlainCore) (n : ℕ) (line : List ℕ) (why : LineRefusal)
    → (n < length lines) × (line ≡ get_or lines n line) → Comes w line (Err why) → Leads begin lines w n → Runs begin 1 lines (Err (fault_at (n + 1) why))
stopped begin lines w n line why at comes so_far =
    so_far (Err (fault_at (n + 1) why)) (rw (from_place lines n line at) (inr (why, comes, refl)))

pub ended : (begin : PlainCore) (lines : List (List ℕ)) (w : PlainCore) (n : ℕ) → n ≡ length lines → Leads begin lines w n → Runs begin 1 lines (Ok w.durable)
ended begin lines w n end so_far =
    let none : drop n lines ≡ [] = drop_all n lines (omega arith) in so_far (Ok w.durable) (rw none refl)

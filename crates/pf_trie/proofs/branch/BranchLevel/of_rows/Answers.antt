use Rattle.std.proofs.Common.{◌≡◌, ◌+◌, ◌-◌, ◌/◌, ◌^◌, ℕ, List, ap, sym, ◌∙◌, subst, arith}
use Rattle.pf_trie.specs.declared.{rows.Row.{Row}, signs.Signs.{Signs}}
use Rattle.pf_trie.specs.{Rows.AreRows, Forks.IsForkOf, Agreeing.of_slot}
use Rattle.pf_trie.proofs.ForkSlots.{fork_above}
use Rattle.pf_trie.proofs.branch.BranchLevel.of_rows.Goals as goal

pub returns-then-fit_page : goal.returns-then-fit_page
returns-then-fit_page g c = λ s are.
    let front = c.args.address / 2 ^ c.args.top in
    c.of_page.ensures s c.args.top front (subst (λ (v : List Row). AreRows s c.args.top front v) (sym c.in_ok-of.ensures) are)

pub returns : goal.returns
returns g c = λ s are.
    let a = c.args.address in
    let top = c.args.top in
    let at = top - 4 in
    let whole : at + 4 ≡ top = let deep = c.if-top-lt-SLOT_BITS.false in omega (arith, deep) in
    let front_is : a / 2 ^ top ≡ a / 2 ^ at / 16 = ap (λ (k : ℕ). a / 2 ^ k) (sym whole) ∙ of_slot at a in
    let rows = subst (λ (n : ℕ). AreRows s (at + 4) n c.args.rows) front_is (subst (λ (k : ℕ). AreRows s k (a / 2 ^ top) c.args.rows) (sym whole) are) in
    subst (λ (v : List (Signs × g.row.T.Denot)). IsForkOf g.T.Level.holds s top (a / 2 ^ top) v) (sym c.in_ok-new.ensures.ok)
    (fork_above g.T.Level.holds s top at a c.in_ok-fork.fork whole (c.in_ok-fork.ensures s rows))

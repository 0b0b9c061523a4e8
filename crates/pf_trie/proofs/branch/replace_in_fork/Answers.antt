use Rattle.std.proofs.Common.{◌≡◌, ◌/◌, ◌^◌, List, sym, subst}
use Rattle.std.specs.Arc.{arc_value}
use Rattle.pf_trie.specs.declared.signs.Signs.{Signs}
use Rattle.pf_trie.specs.{Prefixes.with_sign, Forks.{IsFork, SameFork}}
use Rattle.pf_trie.proofs.ForkSlots.{fork_same}
use Rattle.pf_trie.proofs.branch.replace_in_fork.Goals as goal

pub returns : goal.returns
returns g c = λ s less is.
    let at = c.args.at in
    let front = c.args.prefix.address / 2 ^ at / 16 in
    let there : c.deref.result.now ≡ arc_value c.args.fork.now = cc in
    let same = subst (λ (v : List (Signs × g.row.T.Denot)). SameFork g.T.Level.holds v c.in_ok-copy.copy) there c.in_ok-copy.ensures in
    let own = fork_same g.T.Level.holds s at front (arc_value c.args.fork.now) c.in_ok-copy.copy same is in
    subst (λ (v : List (Signs × g.row.T.Denot)). IsFork g.T.Level.holds (with_sign s c.args.prefix c.args.sign) at front v)
    (sym c.in_ok-fork.ensures.ok) (c.in_ok-replace.ensures s less own)

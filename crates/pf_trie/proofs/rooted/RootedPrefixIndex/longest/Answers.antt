use Rattle.std.proofs.Common.{sym, ◌∙◌}
use Rattle.pf_trie.proofs.Roots.{level_at, whole_none}
use Rattle.pf_trie.proofs.rooted.RootedPrefixIndex.longest.Goals as goal

pub returns-in_err-self-in-None : goal.returns-in_err-self-in-None
returns-in_err-self-in-None g c = λ s is.
    rw c.from_residual.ensures (whole_none s c.args.address c.ranges.address.fits
    (c.in-None.ensures s (level_at g.L.Level.holds g.L.Level.agrees s c.args.address c.args.self.now.all c.args.self.now.level c.ranges.address.fits is))
    (sym is.all ∙ c.in_err-self-in-None.was))

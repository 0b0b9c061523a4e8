use Rattle.std.proofs.Common.{None, sym, subst}
use Rattle.pf_trie.specs.{Prefixes.with_sign, Rows.AreRows}
use Rattle.pf_trie.proofs.indexed.Indexed.cleared.Goals as goal

pub returns : goal.returns
returns c = λ s top front are less in_front.
    let rows = subst (AreRows s top front) (sym c.self.view_is) are in
    subst (AreRows (with_sign s c.args.prefix None) top front) (sym c.by.ensures) (c.in_ok-rows.ensures s top front rows less in_front)

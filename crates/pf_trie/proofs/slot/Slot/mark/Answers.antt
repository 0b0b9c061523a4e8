use Rattle.std.proofs.Common.{sym, subst}
use Rattle.pf_trie.specs.declared.signs.Signs.{Signs}
use Rattle.pf_trie.specs.Forks.{IsSlot}
use Rattle.pf_trie.proofs.ForkSlots.{slot_outside, slot_inside}
use Rattle.pf_trie.proofs.slot.Slot.mark.Goals as goal

pub returns-then-front-prefix : goal.returns-then-front-prefix
returns-then-front-prefix g c = λ s lt is.
    slot_outside g.T.Level.holds g.T.Level.agrees s c.args.prefix c.args.sign c.args.at c.args.front c.args.self.now.0 c.args.self.now.1
    c.requires.wide lt is c.if-front-prefix.true

pub returns : goal.returns
returns g c = λ s lt is.
    slot_inside g.T.Level.holds g.T.Level.agrees s c.args.prefix c.args.sign c.args.at c.args.front c.self.inside.wide c.self.inside.below
    c.requires.wide lt (subst (λ (x : Signs × g.row.T.Denot). IsSlot g.T.Level.holds s c.args.at c.args.front x) (sym c.self.view_is) is)
    c.with-self-inside.result c.if-front-prefix.false c.with-self-inside.ensures

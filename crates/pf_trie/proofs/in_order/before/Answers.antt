use Rattle.std.proofs.Common.{arith}
use Rattle.pf_trie.proofs.in_order.before.Goals as goal

pub returns-then-address-eq0-clause-before : goal.returns-then-address-eq0-clause-before
returns-then-address-eq0-clause-before c = λ order k d low high. absurd (omega (arith, high))

pub returns-then-address-eq0-clause-beyond : goal.returns-then-address-eq0-clause-beyond
returns-then-address-eq0-clause-beyond c = λ order k d low high. omega arith

pub returns-clause-before : goal.returns-clause-before
returns-clause-before c = λ order k d low high.
    let is = c.up_to.ensures.before order k d low high in
    omega (arith, is, c.if-address-eq0.false)

pub returns-clause-beyond : goal.returns-clause-beyond
returns-clause-beyond c = λ order k d low high.
    let is = c.up_to.ensures.beyond order k d low high in
    omega (arith, is)

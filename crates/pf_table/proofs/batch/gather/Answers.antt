use Rattle.std.proofs.Common.{◌≡◌, not, ap, ◌∙◌, sym, true, false}
use Rattle.std.specs.Prelude.{option_map}
use Rattle.pf_table.specs.declared.refusal.TableRefusal.TheVariants.{Conflict}
use Rattle.pf_table.specs.{Tables.sign_of, Edits.is_sign}
use Rattle.pf_table.proofs.Batches.{gathering_nothing, gathers_next, gathers_no_more, gathered_all}
use Rattle.pf_table.proofs.batch.gather.Goals as goal

pub loop-at-init : goal.loop-at-init
loop-at-init c = rw c.empty-named.ensures (gathering_nothing c.args.entries.now)

pub returns-then-is_sign-clause-refused : goal.returns-then-is_sign-clause-refused
returns-then-is_sign-clause-refused c =
    let x = c.index-entries-at.result in
    let there = c.sign_of-there.ensures ∙ ap (λ n. sign_of n c.loop-at.named) c.net.ensures.value in
    let other : is_sign (not x.1) (sign_of x.0 c.loop-at.named) ≡ true =
    sym (c.is_sign.ensures ∙ (λ i. is_sign (not (c.is_negated.ensures i)) (there i))) ∙ c.if-is_sign.true in
    λ _. ap (option_map Conflict) (gathers_no_more c.args.entries.now c.loop-at.at c.loop-at.named x c.loop-at.invariant
    c.loop-at-test.true c.index-entries-at.is other)

pub loop-at-preserved : goal.loop-at-preserved
loop-at-preserved c =
    let x = c.index-entries-at.result in
    let there = c.sign_of-there.ensures ∙ ap (λ n. sign_of n c.loop-at.named) c.net.ensures.value in
    let none : is_sign (not x.1) (sign_of x.0 c.loop-at.named) ≡ false =
    sym (c.is_sign.ensures ∙ (λ i. is_sign (not (c.is_negated.ensures i)) (there i))) ∙ c.if-is_sign.false in
    rw c.in_ok-named.ensures.value (gathers_next c.args.entries.now c.loop-at.at c.loop-at.named x c.loop-at.invariant c.loop-at-test.true
    c.index-entries-at.is c.in_ok-named.ensures.network none)

pub returns-clause-refused : goal.returns-clause-refused
returns-clause-refused c =
    ap (option_map Conflict) (gathered_all c.args.entries.now c.loop-at.at c.loop-at.named c.loop-at.invariant c.loop-at-test.false).none

use Rattle.std.proofs.Common.{◌≡◌, ◌++◌, ◌∷◌, [], ◌∙◌, ap, sym, not, true, false}
use Rattle.std.specs.Prelude.{option_map}
use Rattle.pf_table.specs.declared.refusal.TableRefusal.TheVariants.{Conflict}
use Rattle.pf_table.specs.{Tables.sign_of, Edits.{is_sign, addition}, Noted.first_sign}
use Rattle.pf_table.proofs.Batches.{IsNext, adding_nothing, adding_next, adding_stops, all_added}
use Rattle.pf_table.proofs.change.add_all.Goals as goal

pub loop-at-init : goal.loop-at-init
loop-at-init c = rw c.empty-noted.ensures (adding_nothing c.args.table.now c.args.list.now c.in_ok-after.after c.in_ok-answers.answers.items
    c.in_ok-after.ensures c.in_ok-answers.ensures.items)

pub returns-then-is_sign-clause-refused : goal.returns-then-is_sign-clause-refused
returns-then-is_sign-clause-refused c =
    let x = c.index-list-at.result in
    let there = c.sign_of-there.result in
    let first = c.first_sign-first.result in
    let next : IsNext c.args.table.now c.args.list.now c.loop-at.at c.loop-at.after c.loop-at.noted x there first = record {
      low = c.loop-at-test.true;
      at = c.index-list-at.is;
      is_there = c.sign_of-there.ensures ∙ ap (λ n. sign_of n c.loop-at.after) c.net.ensures.value;
      is_first = c.first_sign-first.ensures ∙ ap (λ n. first_sign (sign_of n c.args.table.now) (sign_of n c.loop-at.noted) there) c.net-in-loop-at.ensures.value;
    } in
    let other : is_sign (not x.1) first ≡ true = sym (c.is_sign.ensures ∙ ap (λ s. is_sign (not s) first) c.is_negated.ensures) ∙ c.if-is_sign.true in
    λ _. ap (option_map Conflict) (adding_stops c.args.table.now c.args.list.now c.loop-at.at c.loop-at.after c.loop-at.noted c.loop-at.answers.items
    x there first c.loop-at.invariant next other)

pub loop-at-preserved : goal.loop-at-preserved
loop-at-preserved c =
    let x = c.index-list-at.result in
    let there = c.sign_of-there.result in
    let first = c.first_sign-first.result in
    let next : IsNext c.args.table.now c.args.list.now c.loop-at.at c.loop-at.after c.loop-at.noted x there first = record {
      low = c.loop-at-test.true;
      at = c.index-list-at.is;
      is_there = c.sign_of-there.ensures ∙ ap (λ n. sign_of n c.loop-at.after) c.net.ensures.value;
      is_first = c.first_sign-first.ensures ∙ ap (λ n. first_sign (sign_of n c.args.table.now) (sign_of n c.loop-at.noted) there) c.net-in-loop-at.ensures.value;
    } in
    let none : is_sign (not x.1) first ≡ false = sym (c.is_sign.ensures ∙ ap (λ s. is_sign (not s) first) c.is_negated.ensures) ∙ c.if-is_sign.false in
    let reported = c.addition.ensures ∙ ap (addition there) c.is_negated-in-loop-at.ensures in
    let answers = c.push_reserved.ensures.items ∙ (λ i. c.reserve.ensures.items i ++ reported i ∷ []) in
    rw (c.in_ok-after-2.ensures.value, c.in_ok-noted.ensures, answers) (adding_next c.args.table.now c.args.list.now c.loop-at.at c.loop-at.after
    c.loop-at.noted c.loop-at.answers.items x there first c.loop-at.invariant next c.in_ok-after-2.ensures.network none)

pub returns-clause-refused : goal.returns-clause-refused
returns-clause-refused c = ap (option_map Conflict) (all_added c.args.table.now c.args.list.now c.loop-at.at c.loop-at.after c.loop-at.noted
    c.loop-at.answers.items c.loop-at.invariant c.loop-at-test.false).none

pub returns-clause-after : goal.returns-clause-after
returns-clause-after c = (all_added c.args.table.now c.args.list.now c.loop-at.at c.loop-at.after c.loop-at.noted
    c.loop-at.answers.items c.loop-at.invariant c.loop-at-test.false).leaves

pub returns-clause-answers : goal.returns-clause-answers
returns-clause-answers c = (all_added c.args.table.now c.args.list.now c.loop-at.at c.loop-at.after c.loop-at.noted
    c.loop-at.answers.items c.loop-at.invariant c.loop-at-test.false).reported

pub returns-clause-networks : goal.returns-clause-networks
returns-clause-networks c = (all_added c.args.table.now c.args.list.now c.loop-at.at c.loop-at.after c.loop-at.noted
    c.loop-at.answers.items c.loop-at.invariant c.loop-at-test.false).networks

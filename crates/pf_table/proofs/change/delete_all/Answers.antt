use Rattle.std.proofs.Common.{◌++◌, ◌∙◌, ap, refl}
use Rattle.pf_table.specs.{Tables.sign_of, Edits.{deleted, deletion, deletions, is_sign, without_entry}}
use Rattle.pf_table.proofs.Batches.{dels_next, dels_end, one_less}
use Rattle.pf_table.proofs.change.delete_all.Goals as goal

pub loop-entry-init : goal.loop-entry-init
unfolding deleted
loop-entry-init c = record { so_far = refl; reported = ap (λ l. l ++ deletions c.args.entries c.args.list.now) c.in_ok-answers.ensures.items }

pub loop-entry-preserved : goal.loop-entry-preserved
loop-entry-preserved c =
    let so_far = c.loop-entry.invariant.so_far in
    let x = c.entry-item.result in
    let there = c.is_sign.ensures
    ∙ ap (λ o. is_sign c.is_negated.result o) (c.sign_of-there.ensures ∙ ap (λ n. sign_of n c.loop-entry.after) c.net.ensures.value)
    ∙ ap (λ b. is_sign b (sign_of x.0 c.loop-entry.after)) c.is_negated.ensures in
    let answer = c.deletion.ensures ∙ ap deletion there in
    record {
      so_far = c.in_ok-after.ensures ∙ ap (λ l. without_entry l x) so_far
          ∙ one_less c.args.entries c.args.list.now c.loop-entry.entry-index x c.loop-entry-test.true c.entry-item.is;
      reported = rw (c.in_ok-push.ensures.items, answer) (dels_next c.loop-entry.answers.items c.args.entries c.loop-entry.after
          c.args.list.now c.loop-entry.entry-index x so_far c.loop-entry-test.true c.entry-item.is) ∙ c.loop-entry.invariant.reported;
    }

pub returns-clause-answers : goal.returns-clause-answers
returns-clause-answers c =
    dels_end c.loop-entry.answers.items c.args.entries c.args.list.now c.loop-entry.entry-index c.loop-entry-test.false
    ∙ c.loop-entry.invariant.reported

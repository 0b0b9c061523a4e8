use Rattle.std.proofs.Common.{sym, ap, ◌∙◌, ◌++◌, ◌∷◌, []}
use Rattle.pf_form.specs.{Form.Words.texts, Form.Forms.any_by}
use Rattle.pf_form.proofs.Collecting.{after, first_read, first_fault, further_fault, one_further, all_read}
use Rattle.pf_form.proofs.form.reading.each.Goals as goal

pub loop-rest-init : goal.loop-rest-init
loop-rest-init g c = λ at shrinks reads.
    first_read g.row.T.Denot at shrinks (texts c.args.words.now) c.in_ok-first.first (texts c.read.new.arg2.now) (reads _ _ _ c.in_ok-first.ensures)
    ∙ ap (λ xs. after xs (any_by at (texts c.read.new.arg2.now))) (sym (c.in_ok-push.ensures.items ∙ ap (λ xs. xs ++ c.in_ok-first.first ∷ []) c.new-items.ensures.items))

pub loop-rest-preserved : goal.loop-rest-preserved
loop-rest-preserved g c = λ at shrinks reads.
    one_further g.row.T.Denot at shrinks (texts c.args.words.now) c.loop-rest.items.items c.push-in-loop-rest.new.self.items c.in_ok-next.next (texts c.loop-rest.rest.now) (texts c.read-in-loop-rest.new.arg2.now) (c.loop-rest.invariant at shrinks reads) (reads _ _ _ c.in_ok-next.ensures) c.in_ok-push-2.ensures.items

pub returns-in_err-first : goal.returns-in_err-first
returns-in_err-first g c = λ at shrinks reads.
    first_fault g.row.T.Denot at shrinks (λ v. v.items) c.from_residual.result (texts c.args.words.now) c.in_err-first.field-0.0 c.from_residual.ensures.1 (reads _ _ _ c.in_err-first.ensures)

pub returns-in_err-next : goal.returns-in_err-next
returns-in_err-next g c = λ at shrinks reads.
    further_fault g.row.T.Denot at shrinks (λ v. v.items) c.from_residual-in_err-next.result (texts c.args.words.now) c.loop-rest.items.items c.loop-rest.rest.now c.in_err-next.field-0.0 (c.loop-rest.invariant at shrinks reads) (sym c.is_empty.ensures ∙ c.loop-rest-test.true) c.from_residual-in_err-next.ensures.1 (reads _ _ _ c.in_err-next.ensures)

pub returns : goal.returns
returns g c = λ at shrinks reads. all_read g.row.T.Denot at shrinks (texts c.args.words.now) c.loop-rest.items.items c.loop-rest.rest.now (c.loop-rest.invariant at shrinks reads) (sym c.is_empty.ensures ∙ c.loop-rest-test.false)

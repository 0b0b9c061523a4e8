use Rattle.std.proofs.{Common.{◌≡◌, ◌∙◌, [], Ok, ap, sym, List}, lemmas.Result.err_from_is_err_and}
use Rattle.pf_tokens.specs.declared.token.Token.{Token}
use Rattle.pf_tokens.specs.Flat.{with_parts, put_each, put_line}
use Rattle.pf_tokens.proofs.{Stopping.leaves_stop, Uses.{put_line-step, put_line-fault}}
use Rattle.pf_tokens.proofs.flat.put_line.Goals as goal

pub loop-token-preserved : goal.loop-token-preserved
loop-token-preserved c =
    let parts : with_parts c.args.macros.now c.token-item.result [] ≡ Ok c.replace.new.out = ap (λ (ts : List Token). with_parts c.args.macros.now c.token-item.result ts) (sym c.new-parts.ensures) ∙ c.in_ok-replace.ensures in
    let same : c.as_slice.result.now ≡ c.replace.new.out = cc in
    c.loop-token.invariant
    ∙ put_line-step c.args.macros.now c.args.line.now c.loop-token.token-index c.token-item.result c.replace.new.out (c.loop-token.opened, c.loop-token.tokens) _ c.loop-token-test.true c.token-item.is parts
    (ap (λ (ts : List Token). put_each ts (c.loop-token.opened, c.loop-token.tokens)) (sym same) ∙ c.in_ok-put_each.ensures)

pub returns-in_err-replace : goal.returns-in_err-replace
returns-in_err-replace c =
    let p = err_from_is_err_and c.from_residual.result c.from_residual.ensures.1 in
    rw (p.1, p.2)
    (leaves_stop (Unit {0}) (Unit {0}) c.in_err-replace.field-0.0 _ _ _ (put_line c.args.macros.now c.args.line.now (c.args.opened.now, c.args.tokens.now)) c.in_err-replace.ensures
    (λ d is. c.loop-token.invariant ∙ put_line-fault c.args.macros.now c.args.line.now c.loop-token.token-index c.token-item.result (c.loop-token.opened, c.loop-token.tokens) d c.loop-token-test.true c.token-item.is
    (ap (λ (ts : List Token). with_parts c.args.macros.now c.token-item.result ts) (sym c.new-parts.ensures) ∙ is)))

use Rattle.std.proofs.Common.{arith, ◌∙◌}
use Rattle.pf_tokens.specs.Flat.{replaced}
use Rattle.pf_tokens.proofs.{Stopping.gives_left, Uses.{replaced-step, replaced-fault}}
use Rattle.std.proofs.lemmas.Result.{err_from_is_err_and}
use Rattle.pf_tokens.proofs.flat.replaced.Goals as goal

pub loop-token-preserved : goal.loop-token-preserved
loop-token-preserved c =
    c.loop-token.invariant ∙ replaced-step c.args.macros.now c.args.tokens.now c.loop-token.token-index c.token-item.result c.loop-token.out _ (omega arith) c.token-item.is c.in_ok-replace.ensures

pub returns-in_err-replace : goal.returns-in_err-replace
returns-in_err-replace c =
    let p = err_from_is_err_and c.from_residual.result c.from_residual.ensures.1 in
    rw (p.1, p.2)
    (gives_left (Unit {0}) c.in_err-replace.field-0.0 _ _ (replaced c.args.macros.now c.args.tokens.now) c.in_err-replace.ensures
    (λ d is. c.loop-token.invariant ∙ replaced-fault c.args.macros.now c.args.tokens.now c.loop-token.token-index c.token-item.result c.loop-token.out d (omega arith) c.token-item.is is))

use Rattle.std.proofs.{Common.{arith, sym, ap, ◌∙◌, ◌+◌, List}, lemmas.{List.{take_rest, length-drop}, Result.err_from_is_err_and}}
use Rattle.pf_tokens.specs.declared.place.Placed.{Placed}
use Rattle.pf_tokens.specs.Lexing.{lex}
use Rattle.pf_tokens.proofs.{Stopping.{stopped_by, gives_left}, Tokens.{lex-step, lex-fault, lex-past, lex-last, counted-step}}
use Rattle.pf_tokens.proofs.lexing.lex.Goals as goal

pub returns-in_err-front-clause-tokens : goal.returns-in_err-front-clause-tokens
returns-in_err-front-clause-tokens c =
    let bytes = c.as_slice-bytes.result.now in
    let at = c.loop-at.at in
    stopped_by c.from_residual.result c.in_err-front.field-0.0 _ (lex c.args.source c.args.words_read.now 0 c.args.text.now) c.from_residual.ensures.1 c.in_err-front.ensures.front
    (λ d is. ap (λ (cs : List Placed). lex c.args.source c.args.words_read.now 0 cs) (sym c.as_slice-bytes.ensures) ∙ c.loop-at.invariant.is ∙ lex-fault c.args.source c.loop-at.words_read bytes _ at _ c.loop-at-test.true (take_rest bytes (at + 1)) c.loop-at.tokens d is)

pub returns-in_err-put_some-clause-tokens : goal.returns-in_err-put_some-clause-tokens
returns-in_err-put_some-clause-tokens c =
    let bytes = c.as_slice-bytes.result.now in
    let at = c.loop-at.at in
    let p = err_from_is_err_and c.from_residual-in_err-put_some.result c.from_residual-in_err-put_some.ensures.1 in
    rw (p.1, p.2)
    (gives_left (Unit {0}) c.in_err-put_some.field-0.0 _ _ (lex c.args.source c.args.words_read.now 0 c.args.text.now) c.in_err-put_some.ensures.counted
    (λ d past. ap (λ (cs : List Placed). lex c.args.source c.args.words_read.now 0 cs) (sym c.as_slice-bytes.ensures) ∙ c.loop-at.invariant.is ∙ lex-past c.args.source c.loop-at.words_read bytes _ at _ c.loop-at-test.true (take_rest bytes (at + 1)) c.loop-at.tokens _ d c.in_ok-front.ensures.front past))

pub loop-at-preserved : goal.loop-at-preserved
loop-at-preserved c =
    let bytes = c.as_slice-bytes.result.now in
    let at = c.loop-at.at in
    record {
      within = omega (arith, simp (take_rest, length-drop) at c.in_ok-front.ensures.bound, c.loop-at-test.true);
      is = c.loop-at.invariant.is ∙ lex-step c.args.source c.loop-at.words_read bytes _ at _ c.loop-at-test.true (take_rest bytes (at + 1)) _ c.loop-at.tokens _ _ c.in_ok-front.ensures.front c.in_ok-put_some.ensures.counted c.in_ok-put_some.ensures.put;
      counted = counted-step c.args.words_read.now c.loop-at.words_read _ c.loop-at.tokens _ _ c.loop-at.invariant.counted c.in_ok-put_some.ensures.counted c.in_ok-put_some.ensures.put;
    }

pub returns-clause-tokens : goal.returns-clause-tokens
returns-clause-tokens c =
    ap (λ (cs : List Placed). lex c.args.source c.args.words_read.now 0 cs) (sym c.as_slice-bytes.ensures) ∙ c.loop-at.invariant.is ∙ lex-last c.args.source c.loop-at.words_read c.as_slice-bytes.result.now c.loop-at.at c.loop-at.tokens c.loop-at-test.false

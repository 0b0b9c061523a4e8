use Rattle.std.proofs.{Common.{◌+◌, ◌∷◌, List, take, sym, ap, ◌∙◌}, lemmas.List.take_rest}
use Rattle.pf_tokens.specs.{declared.token.Token.Token, Flat.lines}
use Rattle.pf_tokens.proofs.Lines.{first_line_is}
use Rattle.pf_tokens.proofs.flat.first_line.Goals as goal

pub returns-then-is_newline-clause-line : goal.returns-then-is_newline-clause-line
returns-then-is_newline-clause-line c =
    let tokens = c.args.tokens.now in
    let end = c.loop-end.end in
    let newline = c.index-tokens-end.result in
    first_line_is tokens end newline c.loop-end-test.true c.index-tokens-end.is c.loop-end.invariant (sym c.is_newline.ensures ∙ c.if-is_newline.true)
    ∙ ap (λ (following : List Token). (take end tokens, newline) ∷ lines following) (sym (take_rest tokens (end + 1)))

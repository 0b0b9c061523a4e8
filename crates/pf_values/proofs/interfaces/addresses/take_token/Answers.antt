use Rattle.std.proofs.Common.{◌++◌, ◌+◌, ◌≤◌, ◌≡◌, ◌∙◌, drop, List, ℕ, ap, sym, arith, subst}
use Rattle.pf_tokens.specs.declared.token.Token.{Token}
use Rattle.pf_values.specs.declared.interfaces.addresses.Front.{Front}
use Rattle.pf_values.specs.Interfaces.Addresses.{known_from}
use Rattle.pf_values.proofs.InterfacesSteps.{token_skipped, front_taken, front_deep}
use Rattle.pf_values.proofs.interfaces.addresses.take_token.Goals as goal

pub returns-then-reading-gt0-clause-goes : goal.returns-then-reading-gt0-clause-goes
returns-then-reading-gt0-clause-goes c =
    ap (λ (ts : List Token). c.args.known.now ++ ts)
    (token_skipped c.args.interfaces.now c.args.reading.more c.args.reading.context c.args.tokens.now c.requires.some (omega arith))

pub returns-clause-goes : goal.returns-clause-goes
returns-clause-goes c =
    let none : c.args.reading.more ≡ 0 = omega arith in
    let is = c.args.interfaces.now in
    let f : Front = c.in_ok-front.front in
    ap (λ (n : ℕ). c.args.known.now ++ known_from is n c.args.reading.context c.args.tokens.now) none
    ∙ front_taken is c.args.reading.context c.args.tokens.now _ _ c.in_ok-mention.mention f c.args.known.now c.requires.some
    c.index-tokens-0.is c.in_ok-mention.ensures c.in_ok-front.ensures
    ∙ ap (λ (ts : List Token). ts ++ known_from is f.more f.context (drop 1 c.args.tokens.now)) (sym c.in_ok-append.ensures)

pub returns-clause-deep : goal.returns-clause-deep
returns-clause-deep c =
    subst (λ (f : Front). f.context.deep ≤ c.args.reading.context.deep + 1) (sym c.in_ok-front.ensures)
    (front_deep c.args.reading.context _ c.in_ok-mention.mention)

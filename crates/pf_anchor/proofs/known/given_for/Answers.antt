use Rattle.std.proofs.Common.{true, false, sym, ap, ◌∙◌}
use Rattle.pf_addr.specs.Path.Nested.{path_within}
use Rattle.pf_anchor.proofs.GivenAt.{given_nowhere, given_from}
use Rattle.pf_anchor.proofs.known.given_for.Goals as goal

pub returns-in_default : goal.returns-in_default
returns-in_default c =
    sym (given_nowhere c.args.path.now c.args.reference.now c.args.known.now (sym (ap (path_within c.args.path.now) c.names.ensures.value) ∙ sym c.joined-reached.ensures ∙ c.in_default.is))

pub returns-then-is_wildcard : goal.returns-then-is_wildcard
returns-then-is_wildcard c =
    let at = sym (ap (path_within c.args.path.now) c.names.ensures.value) ∙ sym c.joined-reached.ensures ∙ c.in-Some.is in
    c.given_below.ensures ∙ sym (given_from c.args.path.now c.args.reference.now c.in-Some.base true c.args.known.now at (sym c.is_wildcard.ensures ∙ c.if-is_wildcard.true))

pub returns-else-is_wildcard : goal.returns-else-is_wildcard
returns-else-is_wildcard c =
    let at = sym (ap (path_within c.args.path.now) c.names.ensures.value) ∙ sym c.joined-reached.ensures ∙ c.in-Some.is in
    c.given_at.ensures ∙ sym (given_from c.args.path.now c.args.reference.now c.in-Some.base false c.args.known.now at (sym c.is_wildcard.ensures ∙ c.if-is_wildcard.false))

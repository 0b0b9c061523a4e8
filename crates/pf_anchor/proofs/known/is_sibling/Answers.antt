use Rattle.std.proofs.Common.{sym, ap, ◌∙◌}
use Rattle.pf_addr.specs.Path.Nested.{is_child}
use Rattle.pf_anchor.proofs.Siblings.{front_is, sibling_is, no_sibling}
use Rattle.pf_anchor.proofs.known.is_sibling.Goals as goal

pub returns-in-Some : goal.returns-in-Some
returns-in-Some c = λ p is.
    let start = c.name_start-start in
    let child = ap (is_child p) c.as_bytes-bytes.ensures.value ∙ is in
    let own = front_is p c.as_bytes-bytes.result.now start.result child start.ensures.slash start.ensures.none start.ensures.within in
    c.is_single.ensures ∙ sym (ap (is_child p) (sym c.as_bytes.ensures.value) ∙ sibling_is p _ c.as_bytes.result.now c.in-Some.name.now own c.in-Some.ensures)

pub returns-in-None : goal.returns-in-None
returns-in-None c = λ p is.
    let start = c.name_start-start in
    let child = ap (is_child p) c.as_bytes-bytes.ensures.value ∙ is in
    let own = front_is p c.as_bytes-bytes.result.now start.result child start.ensures.slash start.ensures.none start.ensures.within in
    sym (ap (is_child p) (sym c.as_bytes.ensures.value) ∙ no_sibling p _ c.as_bytes.result.now own c.in-None.ensures)

use Rattle.std.proofs.Common.{sym, ◌∙◌}
use Rattle.pf_addr.proofs.Nesting.{child_found, not_within, no_slash_after}
use Rattle.pf_addr.proofs.path.path.Path.is_child_of.Goals as goal

pub returns-in_default-clause-value : goal.returns-in_default-clause-value
returns-in_default-clause-value c =
    let some = rw c.as_bytes-outer.ensures.value at (sym c.is_empty.ensures ∙ c.if-is_empty.false) in
    sym (not_within c.args.parent.now c.args.self.now some (rw (c.as_bytes-bytes.ensures.value, c.as_bytes-outer.ensures.value) at c.in_default.ensures))

pub returns-in_default-rest_after-clause-value : goal.returns-in_default-rest_after-clause-value
returns-in_default-rest_after-clause-value c =
    let some = rw c.as_bytes-outer.ensures.value at (sym c.is_empty.ensures ∙ c.if-is_empty.false) in
    sym (no_slash_after c.args.parent.now c.args.self.now c.in-Some.rest.now some (rw (c.as_bytes-bytes.ensures.value, c.as_bytes-outer.ensures.value) at c.in-Some.ensures) c.in_default-rest_after.ensures)

pub returns-clause-value : goal.returns-clause-value
returns-clause-value c =
    let some = rw c.as_bytes-outer.ensures.value at (sym c.is_empty.ensures ∙ c.if-is_empty.false) in
    c.is_single-2.ensures
    ∙ sym (child_found c.args.parent.now c.args.self.now c.in-Some.rest.now c.in-Some-rest_after.name.now some (rw (c.as_bytes-bytes.ensures.value, c.as_bytes-outer.ensures.value) at c.in-Some.ensures) c.in-Some-rest_after.ensures)

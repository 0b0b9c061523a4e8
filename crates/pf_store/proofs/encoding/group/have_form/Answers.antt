use Rattle.std.proofs.Common.{◌≡◌, ◌&&◌, Bool, true, sym, ◌∙◌}
use Rattle.std.specs.List.{list_all}
use Rattle.pf_store.specs.Groups.{has_form, is_group}
use Rattle.pf_store.specs.declared.encoding.recorded.Recorded.TheVariants.{Made as made}
use Rattle.pf_store.proofs.RecordedForms.{formed_as}
use Rattle.pf_store.proofs.encoding.group.have_form.Goals as goal

of_both : (a b r : Bool) → a ≡ true → r ≡ b → r ≡ (a && b)
of_both a b r e is = rw e is

pub returns-then-is_group : goal.returns-then-is_group
returns-then-is_group g c =
    let cs = c.args.changes.now in
    of_both (is_group cs) (list_all (λ x. has_form (made (g.C.AsChange.as_plain x))) cs) _ (sym c.is_group.ensures ∙ c.if-is_group.true) c.all_have_form.ensures
    ∙ formed_as g.C.AsChange.as_plain cs

use Rattle.std.proofs.Common.{map, refl, ◌∙◌, ap, subst, Ok, Err}
use Rattle.std.proofs.lemmas.Bool.{and_parts}
use Rattle.std.specs.{Prelude.{Result, OnOk}, List.list_all}
use Rattle.pf_form.specs.{Bytes.Forms.{Fits, Value, list, onto, writes}, Laws.Bytes.Onto.onto_is}
use Rattle.pf_store.specs.Groups.{ChangeShape, group_form, has_form, is_group, made_all, plain_record}
use Rattle.pf_store.specs.declared.encoding.recorded.Recorded.TheVariants.{Made as made}
use Rattle.pf_store.proofs.{Allowing.allowed_as, RecordedForms.{as_made, formed_as, spelled}}
use Rattle.pf_store.proofs.encoding.group.push_group.Goals as goal

-- from two facts about a result to a third
on_both : {T E : Type 0} (r : Result T E) (P Q R : Type 0) → (P → Q → R) → OnOk r P → OnOk r Q → OnOk r R
on_both (Ok x) P Q R f p q = f p q
on_both (Err e) P Q R f p q = tt

pub push_changes-requires : goal.push_changes-requires
push_changes-requires g c =
    let cs = c.args.changes.now in
    let both = and_parts (is_group cs) (list_all (λ x. has_form (made (g.C.AsChange.as_plain x))) cs) (formed_as g.C.AsChange.as_plain cs ∙ c.requires.formed) in
    record { many = both.0; formed = both.1; allowed = allowed_as g.C.AsChange.as_plain c.args.version cs ∙ c.requires.allowed }

-- what was pushed spells the group
pub returns : goal.returns
returns g c =
    let form = group_form c.args.version in
    let rs = made_all (map g.C.AsChange.as_plain c.args.changes.now) in
    let bytes = writes form (map plain_record rs) in
    let same = as_made g.C.AsChange.as_plain c.args.changes.now in
    let old = c.args.out.now.items in
    on_both c.push_changes.result _ _ _
    (λ is fits. (
      bytes,
      is ∙ ap (λ (vs : Value (list ChangeShape)). onto form vs old) same ∙ onto_is form (map plain_record rs) old,
      spelled c.args.version rs bytes c.changes_are_their_data.ensures (record { fits = subst (λ (vs : Value (list ChangeShape)). Fits form vs) same fits; written = refl }),
    ))
    c.push_changes.ensures.written c.push_changes.ensures.fits

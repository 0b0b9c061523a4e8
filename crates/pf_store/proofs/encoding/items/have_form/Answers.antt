use Rattle.std.proofs.Common.{◌≡◌, ◌&&◌, Bool, true, sym, ◌∙◌}
use Rattle.std.specs.List.{list_all}
use Rattle.pf_store.specs.Groups.{is_commit, has_item_form}
use Rattle.pf_store.proofs.encoding.items.have_form.Goals as goal

of_both : (a b r : Bool) → a ≡ true → r ≡ b → r ≡ (a && b)
of_both a b r e is = rw e is

pub returns-then-is_commit : goal.returns-then-is_commit
returns-then-is_commit c =
    let items = c.args.items.now in
    of_both (is_commit items) (list_all has_item_form items) _ (sym c.is_commit.ensures ∙ c.if-is_commit.true) c.all_have_form.ensures

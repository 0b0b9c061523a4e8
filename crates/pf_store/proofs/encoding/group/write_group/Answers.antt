use Rattle.std.proofs.Common.{◌≡◌, ◌++◌, ℕ, List, length, map, sym, ◌∙◌, ap, subst}
use Rattle.pf_store.specs.Groups.{made_all, IsRecorded}
use Rattle.pf_store.proofs.Sized.{payload_long}
use Rattle.pf_store.proofs.encoding.group.write_group.Given.{Over}
use Rattle.pf_store.proofs.encoding.group.write_group.Goals as goal

-- nothing else was written
alone : (g : Over) (c : goal.In_ok-push_group g) → c.push_group.new.out.items ≡ c.in_ok-push_group.ensures.0
alone g c = c.in_ok-push_group.ensures.1 ∙ ap (λ (l : List ℕ). l ++ c.in_ok-push_group.ensures.0) c.new-out.ensures.items

pub returns-clause-written : goal.returns-clause-written
returns-clause-written g c =
    subst (λ (l : List ℕ). IsRecorded c.args.version (made_all (map g.C.AsChange.as_plain c.args.changes.now)) l) (sym (alone g c)) c.in_ok-push_group.ensures.2

pub returns-clause-length : goal.returns-clause-length
returns-clause-length g c =
    let pushed = c.in_ok-push_group.ensures in
    ap length (alone g c) ∙ payload_long c.args.version (made_all (map g.C.AsChange.as_plain c.args.changes.now)) pushed.0 pushed.2

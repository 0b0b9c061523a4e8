use Rattle.std.proofs.Common.{◌≡◌, ◌++◌, ◌∙◌, ℕ, List, [], length, ap, subst, sym}
use Rattle.pf_store.specs.Durables.{IsDurable}
use Rattle.pf_store.proofs.Sized.{snapshot_long}
use Rattle.pf_store.proofs.snapshots.durable.write_durable.Goals as goal

-- nothing came before it
alone : (front snapshot bytes : List ℕ) → front ≡ [] → bytes ≡ front ++ snapshot → snapshot ≡ bytes
alone front snapshot bytes none is = sym (is ∙ ap (λ (l : List ℕ). l ++ snapshot) none)

pub returns-clause-written : goal.returns-clause-written
returns-clause-written c =
    let it = c.in_ok-push_snapshot.ensures in
    subst (IsDurable c.args.version c.args.durable.now) (alone _ _ _ c.in_ok-out.ensures.items it.appended) it.written

pub returns-clause-length : goal.returns-clause-length
returns-clause-length c =
    let it = c.in_ok-push_snapshot.ensures in
    ap length (sym (alone _ _ _ c.in_ok-out.ensures.items it.appended)) ∙ snapshot_long c.args.version c.args.durable.now it.snapshot it.written

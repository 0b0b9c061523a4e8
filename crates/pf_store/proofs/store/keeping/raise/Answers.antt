use Rattle.std.proofs.Common.{◌≡◌, ◌+◌, ℕ, [], ◌∷◌, subst, arith}
use Rattle.pf_store.specs.Groups.{IsRecordOf}
use Rattle.pf_store.specs.declared.encoding.recorded.Recorded.TheVariants.{Opens as opens}
use Rattle.pf_store.proofs.store.keeping.raise.Goals as goal

pub returns-clause-made : goal.returns-clause-made
returns-clause-made c version =
    let next : c.in-Some.epoch ≡ c.args.durable.now.epoch + 1 = omega (arith, c.in-Some.ensures, c.epoch.ensures) in
    subst (λ (n : ℕ). IsRecordOf version (opens n ∷ []) c.in_ok-record.record) next (c.in_ok-record.ensures.made version)

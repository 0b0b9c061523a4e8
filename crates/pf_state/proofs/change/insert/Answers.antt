use Rattle.std.proofs.Common.{◌≡◌, ◌⊎◌, inl, inr, true, sym, ap, ◌∙◌}
use Rattle.pf_state.specs.{declared.{step.Insertion.Insertion, step.Insertion.TheVariants.Replaced, step.Insertion.TheVariants.New}, Steps.has_effect}
use Rattle.pf_state.proofs.Indexed.{is_free}
use Rattle.pf_state.proofs.change.insert.Goals as goal

effect : (j : Insertion) → (j ≡ Replaced) ⊎ (j ≡ New) → has_effect j ≡ true
effect j (inl is) = ap has_effect is
effect j (inr is) = ap has_effect is

pub with-requires : goal.with-requires
with-requires c =
    is_free c.args.states c.args.new.now c.requires.names (ap has_effect (sym c.judge-judged.ensures) ∙ effect c.judge-judged.result c.in-Replaced.is)

use Rattle.std.proofs.{Common.{◌≡◌, ◌<◌, ℕ, zero, suc, true, List, [], ◌∷◌, length, map, take, get_or, subst, sym, add-one, arith}, lemmas.List.Sums.{AllPass-from_list_all}}
use Rattle.std.specs.List.{AllByRecursion}
use Rattle.pf_form.specs.Bytes.Forms.{Fits}
use Rattle.pf_rule.specs.{Rules.PlainRule, Sum.Layouts.{rule_layout, plain_rule, allows}}
use Rattle.pf_rule.proofs.RuleBytes.{rule_fits}
use Rattle.pf_rule.proofs.sum.layout.rules_fit.Goals as goal

-- what holds of the elements so far and of the next holds of one more
one_more : {X Y : Type 0} (P : Y → Type 0) (f : X → Y) (xs : List X) (i : ℕ) (d : X) → i < length xs → AllByRecursion P (map f (take i xs)) → P (f (get_or xs i d)) → AllByRecursion P (map f (take (suc i) xs))
one_more P f [] i d lt all this = absurd (omega (arith, lt))
one_more P f (x ∷ xs) zero d lt all this = (this, tt)
one_more P f (x ∷ xs) (suc i) d lt all this = (all.0, one_more P f xs i d (omega (arith, lt)) all.1 this)

pub loop-rule-preserved : goal.loop-rule-preserved
loop-rule-preserved c =
    let each = AllPass-from_list_all (allows c.args.version) c.args.rules.now c.requires c.loop-rule.rule-index c.rule-item.result c.loop-rule-test.true in
    let allowed = subst (λ (r : PlainRule). allows c.args.version r ≡ true) (sym c.rule-item.is) each in
    let fits : Fits (rule_layout c.args.version) (plain_rule c.rule-item.result) = rule_fits c.args.version c.rule-item.result c.effect-effect.ensures.kept allowed in
    let next = subst (λ (r : PlainRule). Fits (rule_layout c.args.version) (plain_rule r)) c.rule-item.is fits in
    rw add-one (one_more (Fits (rule_layout c.args.version)) plain_rule c.args.rules.now c.loop-rule.rule-index c.rule-item.result c.loop-rule-test.true c.loop-rule.invariant next)

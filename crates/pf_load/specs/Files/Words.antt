-- What laws say of the words of rules: pf_rule takes them for a rule's (pf.conf(5), GRAMMAR).
use Rattle.std.specs.Prelude.{◌≡◌, List, All, Err}
use Rattle.pf_lists.specs.{Product.Word, Multiplied.multiplied}
use Rattle.pf_lists.specs.declared.rules.Mistake.TheVariants.{NoRule}
use Rattle.pf_parse.specs.declared.{tree.Product.Product, tree.Tree.Tree, tree.Written.Written}

-- Lists aren't refused since the words of a way are no rule.
abbrev pub AreRules : List (List (List Word)) → Type 0
AreRules lists = multiplied lists ≡ Err NoRule → ⊥

-- This holds of each rule of a file, also of those that stand for skipped interfaces.
pub record HasRulesAlone (tree : Tree) : Type 0 where
  pub rules : All (λ (w : Written). AreRules w.product.lists) tree.rules
  pub skips : All (λ (w : Product). AreRules w.lists) tree.skips

use Rattle.std.proofs.Common.{◌≡◌, drop}
use Rattle.pf_sources.specs.Steps.{each}
use Rattle.pf_conf.specs.Rulesets.{with_product}
use Rattle.pf_conf.proofs.rulesets.add_products.Given as goal

abbrev pub invariant-loop-product : goal.invariant-loop-product
invariant-loop-product l = each with_product l.products l.fn.rules ≡ each with_product (drop l.product-index l.products) l.rules

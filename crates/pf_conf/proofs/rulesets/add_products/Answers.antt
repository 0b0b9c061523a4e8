use Rattle.std.proofs.lemmas.Result.{err_from_is_err_and}
use Rattle.pf_conf.specs.Rulesets.{with_product}
use Rattle.pf_sources.proofs.Steps.{each_on, each_stops, each_ends}
use Rattle.pf_conf.proofs.rulesets.add_products.Goals as goal

pub loop-product-preserved : goal.loop-product-preserved
loop-product-preserved c =
    each_on with_product c.args.products.now c.loop-product.product-index c.product-item.result c.loop-product.rules _ _ c.loop-product.invariant c.loop-product-test.true c.product-item.is c.in_ok-add_product.ensures

pub returns-in_err-add_product : goal.returns-in_err-add_product
returns-in_err-add_product c =
    let p = err_from_is_err_and c.from_residual.result c.from_residual.ensures.1 in
    rw (p.1, p.2)
    (each_stops with_product c.args.products.now c.loop-product.product-index c.product-item.result c.loop-product.rules _ _ c.in_err-add_product.field-0.0 _ c.loop-product.invariant c.loop-product-test.true c.product-item.is c.in_err-add_product.ensures)

pub returns : goal.returns
returns c = each_ends with_product c.args.products.now c.loop-product.product-index c.loop-product.rules _ c.loop-product.invariant c.loop-product-test.false

use Rattle.std.proofs.Common.{rules, tests}
use Rattle.std.proofs.lemmas.Iterator.{Search.any_from_yields_List, Splits.YieldsList-from_slice_split}
use Rattle.pf_addr.specs.Path.Paths.{is_slash}
use Rattle.pf_parse.specs.Anchors.{is_reserved}
use Rattle.pf_parse.proofs.anchors.is_reserved.Goals as goal

pub returns : goal.returns
returns c =
    any_from_yields_List is_reserved _ _ _ c.any.ensures.ran
    (YieldsList-from_slice_split _ is_slash c.args.name.now c.split.ensures.rest c.split.ensures.done c.split.ensures.closure (λ x b q k. search (rules, tests)))
    (λ x b q k. search (rules, tests))

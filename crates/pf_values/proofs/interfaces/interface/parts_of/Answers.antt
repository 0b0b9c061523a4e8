use Rattle.std.proofs.{Common.{◌==◌, rules, tests}, lemmas.Iterator.Consumers.map_from_collect, lemmas.Iterator.Splits.YieldsList-from_slice_split}
use Rattle.pf_values.proofs.interfaces.interface.parts_of.Goals as goal

pub returns : goal.returns
returns c =
    map_from_collect _ c.collect.ensures.ran
    (YieldsList-from_slice_split _ (λ b. b == 44) c.args.text.now c.split.ensures.rest c.split.ensures.done c.split.ensures.closure
    (λ x b q k. search (rules, tests)))

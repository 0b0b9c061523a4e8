use Rattle.std.proofs.{Common.{length, rules, tests}, lemmas.Iterator.Consumers.{map_from_collect, YieldsList-from_filter, YieldsList-at}, lemmas.Iterator.Splits.YieldsList-from_slice_split}
use Rattle.std.specs.Prelude.{nat_lt}
use Rattle.pf_form.specs.Form.Words.{is_blank}
use Rattle.pf_form.proofs.form.splitting.words.Goals as goal

pub returns : goal.returns
returns c = map_from_collect _ c.collect.ensures.ran (YieldsList-from_filter _ (λ w. nat_lt 0 (length w)) (YieldsList-at c.filter.ensures.source (YieldsList-from_slice_split _ is_blank c.args.line.now c.split.ensures.rest c.split.ensures.done c.split.ensures.closure (λ x b q k. search (rules, tests)))) c.filter.ensures.closure (λ x b q k. search (rules, tests)))

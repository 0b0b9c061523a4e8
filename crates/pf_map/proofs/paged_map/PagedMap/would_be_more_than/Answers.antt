use Rattle.std.proofs.{Common.arith, lemmas.Grind.common_steps, lemmas.Bool.Decides.nat_tests}
use Rattle.pf_map.proofs.Maps.{all_grow}
use Rattle.pf_map.proofs.paged_map.PagedMap.would_be_more_than.Goals as goal

pub returns-then-not-is_more_than : goal.returns-then-not-is_more_than
returns-then-not-is_more_than g c = grind (arith, nat_tests, common_steps, all_grow g.K.Key.order g.V.Content.kept c.args.changes.now c.args.self.now)

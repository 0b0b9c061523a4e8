use Rattle.std.proofs.Common.{T, sym, subst, ◌∙◌}
use Rattle.std.specs.FinMap.{is_sorted}
use Rattle.pf_map.proofs.Gathered.{map_same}
use Rattle.pf_map.proofs.pairs.Pairs.of.Goals as goal

pub of-requires : goal.of-requires
of-requires g c = subst (λ l. T (is_sorted g.K.Key.order l)) (sym (map_same c.args.entries.now)) c.requires

pub returns : goal.returns
returns g c = c.in_ok-of.ensures ∙ map_same c.args.entries.now

use Rattle.std.proofs.Common.{sym, subst, ◌∙◌}
use Rattle.pf_anchor.specs.Rulesets.{IsMap}
use Rattle.pf_map.proofs.ListMaps.{is_kept_map}
use Rattle.pf_anchor.proofs.config.Config.of.Goals as goal

pub of-requires : goal.of-requires
of-requires c = is_kept_map c.as_slice.result.now (subst IsMap (sym (c.as_slice.ensures.value ∙ c.in_ok-rulesets.ensures)) c.requires.rulesets)

pub of-requires-2 : goal.of-requires-2
of-requires-2 c = is_kept_map c.args.tables.now c.requires.tables

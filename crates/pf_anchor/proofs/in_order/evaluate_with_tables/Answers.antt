use Rattle.pf_anchor.proofs.TablesAnswered.{all_answered}
use Rattle.pf_anchor.proofs.in_order.evaluate_with_tables.Goals as goal

pub evaluate_in-requires : goal.evaluate_in-requires
evaluate_in-requires c =
    record { map = c.requires; tables = all_answered c.args.packet.now c.args.config.now.tables _ c.table_at-first.ensures.map.sorted c.in_ok-count.ensures.1 }

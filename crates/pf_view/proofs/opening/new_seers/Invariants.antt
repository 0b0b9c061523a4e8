use Rattle.std.proofs.Common.{◌≡◌, ◌≤◌, All, vec_len, vec_capacity}
use Rattle.std.specs.Arc.{arc_value}
use Rattle.pf_view.specs.Seers.{IsNewSeer, JudgesBy}
use Rattle.pf_view.proofs.opening.new_seers.Given as goal

abbrev pub invariant-loop : goal.invariant-loop
invariant-loop g l = record {
  count : vec_len l.all ≡ l.counter;
  room : l.seers ≤ vec_capacity l.all;
  new : All IsNewSeer l.all.items;
  copies : All (JudgesBy (arc_value l.factory.board).shared.table_id) l.all.items;
}

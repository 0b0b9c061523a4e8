use Rattle.std.proofs.Common.{◌≡◌, take}
use Rattle.std.specs.Prelude.{All}
use Rattle.pf_session.proofs.Renewed.{IsKnown}
use Rattle.pf_session.proofs.renewing.cover_all.Given as goal

abbrev pub invariant-loop-seer : goal.invariant-loop-seer
invariant-loop-seer g l = record {
  same : l.closed ≡ l.fn.closed;
  known : All (IsKnown l.fn.closed) (take l.seer-index l.seers);
}

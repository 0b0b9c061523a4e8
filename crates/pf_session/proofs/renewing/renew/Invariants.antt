use Rattle.std.proofs.Common.{◌≡◌, take}
use Rattle.std.specs.Prelude.{All}
use Rattle.pf_book.specs.Books.{world_book}
use Rattle.pf_session.proofs.Renewed.{IsCovered}
use Rattle.pf_session.proofs.renewing.renew.Given as goal

abbrev pub invariant-loop-seer : goal.invariant-loop-seer
invariant-loop-seer g l = record {
  same : l.book ≡ l.fn.book;
  covered : All (IsCovered (world_book l.fn.book)) (take l.seer-index l.seers);
}

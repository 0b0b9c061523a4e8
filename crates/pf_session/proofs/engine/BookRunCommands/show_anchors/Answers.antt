use Rattle.std.proofs.Common.{◌≡◌, ℕ, List, Result, Ok, Err, refl}
use Rattle.std.specs.Prelude.{IfOk, IfSome, Vec}
use Rattle.std.specs.declared.alloc.{AllocError.AllocError, Global.Global}
use Rattle.pf_book.specs.{Anchors.{anchors_below, listed_in}, Books.world_book}
use Rattle.pf_session.specs.Anchors.{listed_text}
use Rattle.pf_session.proofs.engine.BookRunCommands.show_anchors.Goals as goal

are-listed : (paths : List (List ℕ)) (r : Result (Vec (List ℕ) Global) AllocError) → IfOk r (λ v. v.items ≡ paths) → IfSome (listed_in r) (λ them. them ≡ paths)
are-listed paths (Ok v) are = are
are-listed paths (Err e) are = tt

pub returns : goal.returns
returns g c =
    let r = c.anchors_below.result in
    let paths = anchors_below (world_book c.args.self.now) c.args.path.now in (
      listed_text (listed_in r),
      record { listed = listed_in r; are = are-listed paths r c.anchors_below.ensures; reported = refl; same = refl },
      c.tell_anchors.ensures,
    )

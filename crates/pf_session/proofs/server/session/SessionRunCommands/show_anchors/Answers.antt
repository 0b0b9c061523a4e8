use Rattle.std.proofs.Common.{refl}
use Rattle.pf_book.specs.Anchors.{listed_in}
use Rattle.pf_session.specs.Anchors.{listed_text}
use Rattle.pf_session.proofs.Sitting.{same-still}
use Rattle.pf_session.proofs.server.session.SessionRunCommands.show_anchors.Goals as goal

pub returns : goal.returns
returns g c =
    let listed = listed_in c.anchors_below-listed.result in (
      listed_text listed,
      record {
        same = same-still c.args.self.now;
        runs = record { listed = listed; says = rw c.as_ref.ensures.value at c.anchors_below-listed.ensures; reported = refl; same = refl };
      },
      c.tell_anchors.ensures,
    )

use Rattle.std.proofs.Common.{◌≡◌, true}
use Rattle.pf_snap.specs.Looked.{content_of}
use Rattle.pf_store.proofs.{WithinLimits.made_within, Refusing.unopened}
use Rattle.pf_store.proofs.store.keeping.Store.peek.Goals as goal

pub returns-in-Ok-replay-clause-within : goal.returns-in-Ok-replay-clause-within
returns-in-Ok-replay-clause-within g c = made_within (content_of c.in-Ok.looked) c.in-Ok-replay.durable c.in-Ok-replay.ensures.made

pub returns-in-Ok-clause-refused : goal.returns-in-Ok-clause-refused
returns-in-Ok-clause-refused g c =
    let l = c.in-Ok.looked in
    let found = c.in-Ok.ensures.found in
    unopened (g.D.Disk.seen c.args.disk.now) l.at l.other (content_of l) (l.broken ≡ true) c.in-Err-replay.fault found.size found.places found.counts found.early found.front found.whole c.in-Ok.ensures.broken c.in-Err-replay.ensures.refused

pub returns-in-Ok-replay-clause-held : goal.returns-in-Ok-replay-clause-held
returns-in-Ok-replay-clause-held g c =
    let l = c.in-Ok.looked in (
      record {
        content = content_of l;
        bank = record { at = l.at; other = l.other; holds = c.in-Ok.ensures.holds c.in-Ok-replay.ensures.whole };
        makes = c.in-Ok-replay.ensures.made;
      },
      c.in-Ok.ensures.found.early,
    )

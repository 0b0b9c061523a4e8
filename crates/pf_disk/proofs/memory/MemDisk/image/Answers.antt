use Rattle.pf_disk.proofs.Filling.{filled_image, own_bytes}
use Rattle.pf_disk.specs.{Calls.state_at, Memory.{first_of, events_of}}
use Rattle.pf_disk.proofs.memory.MemDisk.image.Goals as goal

pub returns-clause-filled : goal.returns-clause-filled
returns-clause-filled c = c.in_ok-image.ensures (state_at (first_of c.args.self.now) (events_of c.args.self.now) c.args.moment) c.in_ok-replay.ensures.shows

pub returns-clause-image : goal.returns-clause-image
returns-clause-image c =
    let s = state_at (first_of c.args.self.now) (events_of c.args.self.now) c.args.moment in
    filled_image c.args.fill s c.in_ok-image.image.items (c.in_ok-image.ensures s c.in_ok-replay.ensures.shows)

pub returns-clause-each_image : goal.returns-clause-each_image
returns-clause-each_image c =
    let s = state_at (first_of c.args.self.now) (events_of c.args.self.now) c.args.moment in
    own_bytes c.args.fill s c.in_ok-image.image.items (c.in_ok-image.ensures s c.in_ok-replay.ensures.shows)

pub returns-clause-left : goal.returns-clause-left
returns-clause-left c t lt =
    let s = state_at (first_of c.args.self.now) (events_of c.args.self.now) c.args.moment in
    (c.args.moment, lt, filled_image c.args.fill s c.in_ok-image.image.items (c.in_ok-image.ensures s c.in_ok-replay.ensures.shows))

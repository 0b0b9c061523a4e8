use Rattle.std.proofs.Common.{◌≡◌, ◌+◌, suc, ap, ◌∙◌, arith}
use Rattle.std.specs.List.{insert}
use Rattle.pf_map.specs.MapParts.{joined}
use Rattle.pf_map.proofs.MapParts.{around, one_inserted}
use Rattle.pf_map.proofs.level.keep.Goals as goal

pub returns-in-One-clause-value : goal.returns-in-One-clause-value
returns-in-One-clause-value g c = rw c.in-One.is (around c.args.slots.now.items c.args.place)

pub returns-in_ok-insert-in-Two-clause-value : goal.returns-in_ok-insert-in-Two-clause-value
returns-in_ok-insert-in-Two-clause-value g c =
    let items = c.args.slots.now.items in
    let following = g.P.Part.entries c.in-Two.following in
    let next : c.args.place + 1 ≡ suc c.args.place = omega arith in
    rw (c.in-Two.is, c.in_ok-insert-in-Two.ensures.items, c.new.ensures)
    (ap (λ z. joined (insert items z following)) next ∙ one_inserted items c.args.place following c.requires)

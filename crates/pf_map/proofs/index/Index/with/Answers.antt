use Rattle.std.proofs.Common.{◌≡◌, false, List, ap, ◌∙◌}
use Rattle.std.specs.FinMap.{find}
use Rattle.pf_map.specs.Indexes.{is_clash}
use Rattle.pf_map.proofs.Maps.{is_there}
use Rattle.pf_map.proofs.Indexes.{held, freed, put_in}
use Rattle.pf_map.proofs.index.Index.with.Goals as goal

pub with_new-requires : goal.with_new-requires
with_new-requires g c =
    let new = c.args.new.now in
    let old = held (λ e. e.now) new.0 c.get-old.result (find g.N.Key.order new.0 c.self.inside.names) (rw c.key.ensures at c.get-old.ensures.entry) in
    let free : is_clash g.N.Key.order g.F.Key.order g.V.Flowed.flow c.self.inside.names new ≡ false = ap (λ (es : List (g.row.N.Denot × g.row.V.Denot)). is_clash g.N.Key.order g.F.Key.order g.V.Flowed.flow es new) c.self.view_is ∙ c.requires in
    rw (c.in_ok-new.ensures, c.in_ok-kept.ensures, old)
    (freed g.met.N.Key.total g.met.N.Key.alike g.met.F.Key.total c.self.inside.names c.self.inside.flows c.self.invariant new.0 new.1 free)

pub with_known-requires : goal.with_known-requires
with_known-requires g c =
    let new = c.args.new.now in
    c.is_some-had.ensures ∙ is_there (λ e. e.now) new.0 c.get-old.result (find g.N.Key.order new.0 c.self.inside.names) (rw c.key.ensures at c.get-old.ensures.entry)

pub invariant_of-result : goal.invariant_of-result
invariant_of-result g c =
    let new = c.args.new.now in
    let old = held (λ e. e.now) new.0 c.get-old.result (find g.N.Key.order new.0 c.self.inside.names) (rw c.key.ensures at c.get-old.ensures.entry) in
    let free : is_clash g.N.Key.order g.F.Key.order g.V.Flowed.flow c.self.inside.names new ≡ false = ap (λ (es : List (g.row.N.Denot × g.row.V.Denot)). is_clash g.N.Key.order g.F.Key.order g.V.Flowed.flow es new) c.self.view_is ∙ c.requires in
    rw (c.in_ok-names.ensures, c.in_ok-flows.ensures, c.in_ok-new.ensures, c.in_ok-kept.ensures, old)
    (put_in g.met.N.Key.total g.met.N.Key.alike g.met.F.Key.total c.self.inside.names c.self.inside.flows c.self.invariant new.0 new.1 free)

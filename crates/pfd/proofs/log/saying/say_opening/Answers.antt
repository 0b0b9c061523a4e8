use Rattle.pf_addr.specs.Writing.{after_nothing}
use Rattle.pfd.specs.Log.{opening_line}
use Rattle.pfd.proofs.LogLines.{in_room}
use Rattle.pfd.proofs.log.saying.say_opening.Goals as goal

pub returns : goal.returns
returns g c =
    let line = opening_line c.args.epoch c.args.is_renewal in
    c.say_line.ensures line (in_room c.write_opening-made.result c.clear.new.self.items c.write_opening-made.new.out.items c.as_slice.result.now line
    c.clear.ensures.items c.as_slice.ensures.value (after_nothing tt c.write_opening-made.ensures).0)

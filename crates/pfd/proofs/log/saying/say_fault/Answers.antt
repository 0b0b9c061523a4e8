use Rattle.pf_addr.specs.Writing.{after_nothing}
use Rattle.pfd.specs.Log.{fault_line}
use Rattle.pfd.proofs.LogLines.{in_room}
use Rattle.pfd.proofs.log.saying.say_fault.Goals as goal

pub returns : goal.returns
returns g c =
    let line = fault_line c.args.session c.args.fault in
    c.say_line.ensures line (in_room c.write_fault-made.result c.clear.new.self.items c.write_fault-made.new.out.items c.as_slice.result.now line
    c.clear.ensures.items c.as_slice.ensures.value (after_nothing tt c.write_fault-made.ensures).0)

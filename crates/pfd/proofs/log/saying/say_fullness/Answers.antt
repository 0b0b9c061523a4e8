use Rattle.pfd.specs.Fullness.{fullness_text}
use Rattle.pfd.proofs.LogLines.{in_room}
use Rattle.pfd.proofs.log.saying.say_fullness.Goals as goal

pub returns : goal.returns
returns g c =
    let line = fullness_text c.args.hundredths in
    c.say_line.ensures line (in_room c.write_fullness-made.result c.clear.new.self.items c.write_fullness-made.new.writer.items c.as_slice.result.now line
    c.clear.ensures.items c.as_slice.ensures.value c.write_fullness-made.ensures)

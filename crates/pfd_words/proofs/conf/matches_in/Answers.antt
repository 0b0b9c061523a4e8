use Rattle.std.proofs.Common.{codes, refl, List, Option, Some}
use Rattle.clap.specs.Words.{Row, Text, found_of, rows_of}
use Rattle.pfd_words.proofs.ConfTasks.{asks}
use Rattle.pfd_words.proofs.conf.matches_in.Goals as goal

pub returns : goal.returns
returns c =
    let name = codes "explain" in
    let asked = c.asked.ensures in
    asks (Some (name, rows_of (found_of c.args.found.now))) _ c.asked.result
    (asked.path name) (asked.lenient name) (asked.interfaces name) asked.question
    (refl, c.requires, c.in_ok-packet.ensures)

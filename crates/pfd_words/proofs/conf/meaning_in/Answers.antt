use Rattle.std.proofs.Common.{codes, refl, List, Option, Some}
use Rattle.clap.specs.Words.{Row, Text, found_of, rows_of}
use Rattle.pfd_words.proofs.ConfTasks.{asks}
use Rattle.pfd_words.proofs.conf.meaning_in.Goals as goal

pub returns : goal.returns
returns c =
    let name = codes "check" in
    let asked = c.asked.ensures in
    asks (Some (name, rows_of (found_of c.args.found.now))) _ c.asked.result
    (asked.path name) (asked.lenient name) (asked.interfaces name) asked.question
    (refl, c.text_if_any-anchor.ensures)

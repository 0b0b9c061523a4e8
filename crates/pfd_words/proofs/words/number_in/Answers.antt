use Rattle.clap.specs.Words.{found_of, one_of, rows_of}
use Rattle.pfd_words.proofs.Asking.{number_read}
use Rattle.pfd_words.proofs.words.number_in.Goals as goal

pub returns : goal.returns
returns c = rw c.unwrap_or.ensures (number_read c.args.default (one_of c.args.option.now (rows_of (found_of c.args.found.now))) c.number_if_any.result c.number_if_any.ensures)

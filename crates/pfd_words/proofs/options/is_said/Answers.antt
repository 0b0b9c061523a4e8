use Rattle.clap.specs.Words.{found_of, one_of, rows_of}
use Rattle.clap.proofs.WalkLemmas.{one_text-rows}
use Rattle.pfd_words.proofs.Asking.{flag_read}
use Rattle.pfd_words.proofs.options.is_said.Goals as goal

pub returns : goal.returns
returns c =
    let f = found_of c.args.found.now in
    flag_read _ (one_of c.args.option.now (rows_of f)) c.get_flag.result c.get_flag.ensures.none c.get_flag.ensures.value c.get_flag.ensures.other (one_text-rows f c.args.option.now)

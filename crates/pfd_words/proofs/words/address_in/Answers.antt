use Rattle.std.proofs.Common.{rules, codes, ◌∙◌}
use Rattle.clap.specs.Words.{found_of}
use Rattle.clap.proofs.WalkLemmas.{first_value-rows}
use Rattle.pfd_words.proofs.Asking.{text_read}
use Rattle.pfd_words.proofs.words.address_in.Goals as goal

pub returns : goal.returns
returns c =
    rw c.unwrap_or.ensures
    (text_read c.get_str.result _ (codes "/var/run/pfd/pfd.sock") _ (search rules)
    (c.get_str.ensures ∙ first_value-rows (found_of c.args.found.now) c.args.word.now))

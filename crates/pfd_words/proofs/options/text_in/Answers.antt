use Rattle.std.proofs.Common.{rules, ◌∙◌}
use Rattle.clap.specs.Words.{found_of}
use Rattle.clap.proofs.WalkLemmas.{first_value-rows}
use Rattle.pfd_words.proofs.Asking.{path_read}
use Rattle.pfd_words.proofs.options.text_in.Goals as goal

pub returns : goal.returns
returns c = rw c.unwrap_or.ensures (path_read c.get_str.result _ _ (search rules) (c.get_str.ensures ∙ first_value-rows (found_of c.args.found.now) c.args.option.now))

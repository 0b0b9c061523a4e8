use Rattle.pf_tokens.proofs.MacroFree.{read_file_free}
use Rattle.pf_tokens.proofs.laws.no_macro_is_left.Goals as goal

pub returns : goal.returns
returns c = read_file_free

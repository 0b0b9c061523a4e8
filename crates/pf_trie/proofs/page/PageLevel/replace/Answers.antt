use Rattle.std.proofs.Common.{◌/◌, ◌^◌, refl}
use Rattle.std.proofs.lemmas.Result.{IfOk-weaker}
use Rattle.pf_trie.proofs.page.PageLevel.replace.Goals as goal

pub returns : goal.returns
returns c = IfOk-weaker c.edit.result _ _ (λ _ is s lt are. is s c.args._top (c.args.prefix.address / 2 ^ c.args._top) are lt refl) c.edit.ensures

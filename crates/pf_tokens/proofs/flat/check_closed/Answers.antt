use Rattle.pf_tokens.proofs.Uses.{all_closed-open}
use Rattle.pf_tokens.proofs.flat.check_closed.Goals as goal

pub returns-in-len1-up : goal.returns-in-len1-up
returns-in-len1-up c = rw c.refusal.ensures (all_closed-open c.args.opened.now _ c.in-len1-up.len_at_least)

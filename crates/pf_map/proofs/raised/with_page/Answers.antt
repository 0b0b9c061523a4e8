use Rattle.pf_map.specs.MapParts.{joined}
use Rattle.pf_map.proofs.MapParts.{one_pushed}
use Rattle.pf_map.proofs.raised.with_page.Goals as goal

pub returns : goal.returns
returns g c = rw (c.in_ok-push.ensures.items, c.new.ensures, c.in_ok-of.ensures) (one_pushed c.args.pages.items (joined c.args.page.items))

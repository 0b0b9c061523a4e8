use Rattle.std.proofs.Common.{Some}
use Rattle.pf_addr.specs.Writing.{after_nothing}
use Rattle.pf_form.specs.Form.Words.{texts}
use Rattle.pfd_conf.specs.Reports.{difference_text}
use Rattle.pfd_conf.proofs.Texts.{all_at_ok}
use Rattle.pfd_conf.proofs.firewall.Origins.message_of.Goals as goal

pub returns : goal.returns
returns c =
    let w = after_nothing tt c.write_difference.ensures in
    rw c.if-outcome.false
    (rw c.new-message.ensures.items at
    (all_at_ok c.write_difference.result _ (Some c.new-message.result.items) (Some c.write_difference.new.out.items)
    (difference_text c.args.self.now (texts c.args.words.now) c.args.outcome.now) c.in_ok-written.ensures.ok w.0))

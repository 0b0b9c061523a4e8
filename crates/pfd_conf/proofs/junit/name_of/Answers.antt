use Rattle.std.proofs.Common.{Some}
use Rattle.pf_addr.specs.Writing.{Continues-then, after_nothing}
use Rattle.pf_form.specs.Form.Words.{texts}
use Rattle.pfd_conf.specs.Junit.{name_text}
use Rattle.pfd_conf.proofs.Texts.{all_at_ok}
use Rattle.pfd_conf.proofs.junit.name_of.Goals as goal

pub returns : goal.returns
returns c =
    let w =
    after_nothing tt
    (Continues-then (Continues-then (Continues-then c.write_more-so_far.ensures c.write_more_number-so_far.ensures)
    c.write_more-so_far-2.ensures) c.write_spaced.ensures) in
    rw c.new-name.ensures.items at
    (all_at_ok c.write_spaced.result _ (Some c.new-name.result.items) (Some c.write_spaced.new.out.items)
    (name_text c.args.line (texts c.args.words.now)) c.in_ok-written.ensures.ok w.0)

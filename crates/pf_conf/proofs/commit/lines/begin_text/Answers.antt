use Rattle.pf_conf.specs.Commit.Lines.{begin_line}
use Rattle.pf_conf.proofs.CommitTexts.{made}
use Rattle.pf_conf.proofs.commit.lines.begin_text.Goals as goal

pub returns-in-Ok : goal.returns-in-Ok
returns-in-Ok c =
    made c.write_begin.result c.in-Ok.field-0 c.new-text.result.items c.write_begin.new.out.items (begin_line c.args.names.now) c.new-text.ensures.items c.write_begin.ensures c.in-Ok.is

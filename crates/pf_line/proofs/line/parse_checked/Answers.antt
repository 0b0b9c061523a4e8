use Rattle.pf_line.proofs.Lines.{too_long}
use Rattle.pf_line.proofs.line.parse_checked.Goals as goal

pub returns-then-line-gt-LINE_LIMIT : goal.returns-then-line-gt-LINE_LIMIT
returns-then-line-gt-LINE_LIMIT c = too_long c.args.line.now c.if-line-gt-LINE_LIMIT.true

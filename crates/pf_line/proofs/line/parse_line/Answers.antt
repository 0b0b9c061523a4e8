use Rattle.pf_line.proofs.Lines.{is_exact, is_bad, is_quiet, is_found, is_only, is_refused}
use Rattle.pf_line.proofs.line.parse_line.Goals as goal

pub returns : goal.returns
returns c =
    let line = c.args.line.now in
    let r = c.parse_checked.result in
    let h = c.parse_checked.ensures in
    record { bad = is_bad line r h; silent = is_quiet line r h; found = is_found line r h; only = is_only line r h; refused = is_refused line r h; exact = is_exact line r h }

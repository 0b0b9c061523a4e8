use Rattle.pf_line.proofs.JudgeLines.{judge_exact, judge_refused}
use Rattle.pf_line.proofs.judge_line.parse_judge.Goals as goal

pub returns : goal.returns
returns c = record { exact = judge_exact c.args.line.now c.parse_judge_checked.result c.parse_judge_checked.ensures; refused = judge_refused c.args.line.now c.parse_judge_checked.result c.parse_judge_checked.ensures }

use Rattle.std.proofs.{Common.{take, sym, arith}, lemmas.List.length-take-le}
use Rattle.pf_line.proofs.{JudgeLines.judge_answered, Lines.bad_bytes}
use Rattle.pf_line.proofs.judge_line.parse_judge_checked.Goals as goal

pub returns-in-Ok : goal.returns-in-Ok
returns-in-Ok c =
    let words = take c.in-Ok.count c.cut.new.places in
    judge_answered c.args.line.now words c.in-Ok.count c.parse_judge_words.result (omega (arith, c.if-line-gt-LINE_LIMIT.false)) c.in-Ok.ensures.cut.1 c.in-Ok.ensures.cut.0
    (sym (length-take-le c.in-Ok.count c.cut.new.places c.in-Ok.ensures.room)) c.parse_judge_words.ensures.loud c.parse_judge_words.ensures.said

pub returns-in-Err-BadByte : goal.returns-in-Err-BadByte
returns-in-Err-BadByte c = bad_bytes c.args.line.now (rw c.in-Err-BadByte.field-0-is at c.in-Err-BadByte.ensures.cut)

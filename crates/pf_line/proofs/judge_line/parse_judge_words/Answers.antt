use Rattle.std.proofs.Common.{sym, subst}
use Rattle.std.specs.Prelude.{codes, Result, List}
use Rattle.pf_form.specs.Form.Words.{Word, texts}
use Rattle.pf_form.specs.declared.form.fault.Kind.{Kind}
use Rattle.pf_line.specs.{Grammar.Spoken, Lines.{asked, said, Parses}}
use Rattle.pf_line.proofs.JudgeLines.{taken, judge_said, judge_speaks}
use Rattle.pf_line.proofs.judge_line.parse_judge_words.Goals as goal

pub returns-then-takes : goal.returns-then-takes
returns-then-takes c =
    let first = taken (codes "judge") (texts c.args.words.now) (texts c.takes.new.words.now) c.takes.result c.takes.ensures c.if-takes.true in
    record {
      loud = judge_speaks (texts c.args.words.now) (texts c.takes.new.words.now) first;
      said = subst (λ (q : Result Spoken (Kind × List Word)). Parses (asked c.parse_packet_words.result) (said c.args.count q)) (sym (judge_said (texts c.args.words.now) (texts c.takes.new.words.now) first)) c.parse_packet_words.ensures;
    }

use Rattle.std.proofs.Common.{◌∙◌, inr}
use Rattle.pf_session.proofs.Pausing.{whole-cut}
use Rattle.pf_session.proofs.line_engine.engine.end_lines.Goals as goal

pub returns-in-Ok-clause-leaves : goal.returns-in-Ok-clause-leaves
returns-in-Ok-clause-leaves g c = λ input start held unread end s. record {
  lines = s.so_far.lines;
  rest = s.so_far.rest;
  cut = whole-cut g.A.AnswerLine.Takes c.requires s;
  ends = (c.in-Ok.ensures s.so_far.lines s.so_far.rest start held (c.kept.ensures.kept ∙ s.so_far.kept_is) s.so_far.answered, end);
}

pub returns-in-Err-clause-leaves : goal.returns-in-Err-clause-leaves
returns-in-Err-clause-leaves g c = λ input start held unread end s. record {
  lines = s.so_far.lines;
  rest = s.so_far.rest;
  cut = whole-cut g.A.AnswerLine.Takes c.requires s;
  ends = inr (c.in-Err.ensures s.so_far.lines s.so_far.rest start held (c.kept.ensures.kept ∙ s.so_far.kept_is) s.so_far.answered, end);
}

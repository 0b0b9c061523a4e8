use Rattle.pf_session.proofs.telling.answer_any.Goals as goal

pub returns : goal.returns
returns g c = c.answer_said.ensures c.args.line.now c.parse_line.ensures.exact c.parse_line.ensures.refused

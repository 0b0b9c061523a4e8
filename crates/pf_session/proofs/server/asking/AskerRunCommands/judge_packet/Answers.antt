use Rattle.pf_session.proofs.server.asking.AskerRunCommands.judge_packet.Goals as goal

pub returns : goal.returns
returns g c = let (text, judged, written) = c.judge.ensures.judged in (text, record { same = c.judge.ensures.same; runs = judged }, written)

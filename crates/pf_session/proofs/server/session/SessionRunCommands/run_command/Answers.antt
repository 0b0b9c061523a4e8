use Rattle.pf_session.proofs.server.session.SessionRunCommands.run_command.Goals as goal

pub returns : goal.returns
returns g c = let (text, runs, written) = c.obey.ensures.runs in (text, record { same = c.obey.ensures.same; runs = runs }, written)

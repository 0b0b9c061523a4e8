use Rattle.pf_session.proofs.server.asking.AskerRunCommands.run_command.Goals as goal

pub returns : goal.returns
returns g c = let (text, asks, written) = c.hear.ensures.asks in (text, record { same = c.hear.ensures.same; runs = asks }, written)

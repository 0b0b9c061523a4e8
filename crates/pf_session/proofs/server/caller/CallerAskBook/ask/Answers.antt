use Rattle.pf_session.proofs.server.caller.CallerAskBook.ask.Goals as goal

pub returns : goal.returns
returns g c = rw c.into_command.ensures at c.run.ensures

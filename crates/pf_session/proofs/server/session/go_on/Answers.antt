use Rattle.pf_session.proofs.server.session.go_on.Goals as goal

pub returns-clause-part : goal.returns-clause-part
returns-clause-part g c = (c.go_on_by.new.last, c.go_on_by.ensures.part)

use Rattle.pf_session.proofs.server.asking.go_on_asking.Goals as goal

pub returns-clause-part : goal.returns-clause-part
returns-clause-part g c = (c.go_on_asking_by.new.last, c.go_on_asking_by.ensures.part)

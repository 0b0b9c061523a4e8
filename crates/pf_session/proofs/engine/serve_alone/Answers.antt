use Rattle.pf_session.proofs.Limits.{ends-setting}
use Rattle.pf_session.proofs.engine.serve_alone.Goals as goal

pub returns-clause-setting : goal.returns-clause-setting
returns-clause-setting g c = ends-setting g.D.Disk.fault_count c.answer_reader-served.result _ _ _ _ c.args.book.now c.answer_reader-served.new.answerer _ _ c.answer_reader-served.ensures.ends

use Rattle.pfd.specs.Log.{fault_word, session_text}
use Rattle.pfd.proofs.LogLines.{and_then}
use Rattle.pfd.proofs.log.line.write_fault.Goals as goal

pub returns : goal.returns
returns g c =
    and_then (session_text c.args.session) c.fault_word.result.now (fault_word c.args.fault) c.write_session-so_far.ensures c.write_more.ensures c.fault_word.ensures

use Rattle.wirdalf_c.proofs.LineWords.{request_done, request_refused, refused_comes, silent_comes}
use Rattle.wirdalf_c.proofs.lines.do_line.Goals as goal

pub returns-in-Ok-None-clause-done : goal.returns-in-Ok-None-clause-done
returns-in-Ok-None-clause-done c = silent_comes c.args.core.now c.args.line.now c.parse_line.result (cc) c.parse_line.ensures.exact

pub returns-in-Ok-Some-clause-done : goal.returns-in-Ok-Some-clause-done
returns-in-Ok-Some-clause-done c =
    request_done c.args.core.now c.do_request.new.core c.args.line.now c.parse_line.result c.in-Ok-Some.request c.do_request.result (cc) c.parse_line.ensures.exact c.do_request.ensures.done

pub returns-in-Ok-Some-clause-refused : goal.returns-in-Ok-Some-clause-refused
returns-in-Ok-Some-clause-refused c =
    request_refused c.args.core.now c.args.line.now c.parse_line.result c.in-Ok-Some.request c.do_request.result (cc) c.parse_line.ensures.exact c.do_request.ensures.refused

pub returns-in-Err-clause-refused : goal.returns-in-Err-clause-refused
returns-in-Err-clause-refused c =
    refused_comes c.args.core.now c.args.line.now c.parse_line.result c.in-Err.refusal c.line_refusal.result (cc) c.parse_line.ensures.exact c.line_refusal.ensures.memory c.line_refusal.ensures.refused

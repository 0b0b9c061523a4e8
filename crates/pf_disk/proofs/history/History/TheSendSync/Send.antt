-- It has no bytes and owns nothing, so any thread may have it.
use denote.Param.Send.{IsSend}
use Rattle.pf_disk.specs.contracts.history.History.{the_row}

pub send : IsSend the_row
send = record { owned = λ d vs. ((λ vss. (tt, ((λ uss. (tt, tt)), tt))), tt); leaving = λ k f vs. tt }

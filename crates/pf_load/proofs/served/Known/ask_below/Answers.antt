use Rattle.std.proofs.Common.{Err}
use Rattle.pf_load.specs.Served.{Asked, Anchors, asked_text}
use Rattle.pf_conf.proofs.CommitTexts.{sent_whole}
use Rattle.pf_load.proofs.Asked.{asks_one}
use Rattle.pf_load.proofs.served.Known.ask_below.Goals as goal

pub returns-in-Ok : goal.returns-in-Ok
returns-in-Ok g c =
    let anchors : Asked = Anchors c.args.path.now in
    let old = g.W.Write.contents c.args.server.now in
    let new = g.W.Write.contents c.ask_list.new.server in
    asks_one c.add_anchors.result old new anchors (sent_whole c.add_anchors.result old new (asked_text anchors) c.in-Ok.ensures)

pub returns-in-Err : goal.returns-in-Err
returns-in-Err g c =
    let anchors : Asked = Anchors c.args.path.now in
    asks_one {A = Unit {0}} (Err c.wild.result) (g.W.Write.contents c.args.server.now) (g.W.Write.contents c.ask_list.new.server) anchors
    c.in-Err.ensures

pub returns-in-Err-2 : goal.returns-in-Err-2
returns-in-Err-2 g c =
    let anchors : Asked = Anchors c.args.path.now in
    asks_one {A = Unit {0}} (Err c.in-Err.fault) (g.W.Write.contents c.args.server.now) (g.W.Write.contents c.ask_list.new.server) anchors
    c.in-Err.ensures

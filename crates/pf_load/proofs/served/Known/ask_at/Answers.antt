use Rattle.std.proofs.Common.{Ok}
use Rattle.pf_load.specs.Served.{Asked, Rules, Tables, asked_text}
use Rattle.pf_conf.proofs.CommitTexts.{sent_front, sent_whole, whole_front}
use Rattle.pf_load.proofs.Asked.{asks_one, asks_then}
use Rattle.pf_load.proofs.served.Known.ask_at.Goals as goal

pub returns-in_err-rules : goal.returns-in_err-rules
returns-in_err-rules g c =
    let rules : Asked = Rules c.args.path.now in
    let old = g.W.Write.contents c.args.server.now in
    let mid = g.W.Write.contents c.ask_list.new.server in
    asks_one c.from_residual.result old mid rules
    (sent_front c.from_residual.result _ old mid (asked_text rules) c.from_residual.ensures.1 c.in_err-rules.ensures)

pub returns-in_err-add_rules : goal.returns-in_err-add_rules
returns-in_err-add_rules g c =
    let rules : Asked = Rules c.args.path.now in
    let old = g.W.Write.contents c.args.server.now in
    let mid = g.W.Write.contents c.ask_list.new.server in
    let r = c.from_residual-in_err-add_rules.result in
    asks_one r old mid rules (sent_front r _ old mid (asked_text rules) c.from_residual-in_err-add_rules.ensures.1
    (whole_front old mid (asked_text rules) c.in_ok-rules.ensures))

pub returns-in_err-tables : goal.returns-in_err-tables
returns-in_err-tables g c =
    let rules : Asked = Rules c.args.path.now in
    let tables : Asked = Tables c.args.path.now in
    let old = g.W.Write.contents c.args.server.now in
    let mid = g.W.Write.contents c.ask_list.new.server in
    let new = g.W.Write.contents c.ask_list-2.new.server in
    let r = c.from_residual-in_err-tables.result in
    asks_then {A = Unit {0}} tt r old mid new (asks_one {A = Unit {0}} {E = Unit {0}} (Ok tt) old mid rules c.in_ok-rules.ensures)
    (asks_one r mid new tables (sent_front r _ mid new (asked_text tables) c.from_residual-in_err-tables.ensures.1 c.in_err-tables.ensures))

pub returns : goal.returns
returns g c =
    let rules : Asked = Rules c.args.path.now in
    let tables : Asked = Tables c.args.path.now in
    let old = g.W.Write.contents c.args.server.now in
    let mid = g.W.Write.contents c.ask_list.new.server in
    let new = g.W.Write.contents c.ask_list-2.new.server in
    asks_then {A = Unit {0}} tt c.add_tables.result old mid new
    (asks_one {A = Unit {0}} {E = Unit {0}} (Ok tt) old mid rules c.in_ok-rules.ensures)
    (asks_one c.add_tables.result mid new tables (sent_whole c.add_tables.result mid new (asked_text tables) c.in_ok-tables.ensures))

use Rattle.std.proofs.Common.{◌≡◌, ◌∙◌}
use Rattle.pf_session.specs.Server.Streams.{asked}
use Rattle.pf_session.proofs.Streaming.{piece-fed}
use Rattle.pf_session.proofs.server.stream.Follower.take.Goals as goal

pub returns : goal.returns
returns g c =
    let asks : c.deref.result.now ≡ asked c.in-Ok.field-0.messages.items = c.deref.ensures.value ∙ c.in-Ok-commands_of.ensures in
    piece-fed g.J.Naming.base g.J.Chapter.setting c.run_fed.result c.args.piece.now c.in-Ok.field-0.messages.items c.in-Ok.field-0.fault c.args.peer.now c.feed.new.self c.requires c.in-Ok.ensures.read
    (c.run_fed.ensures c.in-Ok.field-0.messages.items asks)

use Rattle.std.proofs.{Common.{take, refl, sym}, lemmas.List.length-take-le}
use Rattle.pf_line.proofs.Lines.{bad_bytes, said_cut}
use Rattle.pf_line.proofs.line.parse_short.Goals as goal

pub returns-in-Ok : goal.returns-in-Ok
returns-in-Ok c =
    let words = take c.in-Ok.count c.cut.new.places in
    said_cut c.args.line.now words words c.in-Ok.count c.parse_words.result c.requires.loud c.requires.short c.in-Ok.ensures.cut.0 c.in-Ok.ensures.cut.1 refl
    (sym (length-take-le c.in-Ok.count c.cut.new.places c.in-Ok.ensures.room)) c.parse_words.ensures

pub returns-in-Err-BadByte : goal.returns-in-Err-BadByte
returns-in-Err-BadByte c = bad_bytes c.args.line.now (rw c.in-Err-BadByte.field-0-is at c.in-Err-BadByte.ensures.cut)

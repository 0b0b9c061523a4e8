use Rattle.std.proofs.Common.{◌≡◌, length, arith}
use Rattle.pf_line.proofs.Lines.{bad_bytes, said_cut}
use Rattle.pf_line.proofs.line.parse_long.Goals as goal

pub returns-in-Ok : goal.returns-in-Ok
returns-in-Ok c =
    let count : c.len.result ≡ length c.deref.result.now = omega (arith, c.len.ensures, c.deref.ensures.len) in
    said_cut c.args.line.now c.in-Ok.words.items c.deref.result.now c.len.result c.parse_words.result c.requires.loud c.requires.short c.in-Ok.ensures.0 c.in-Ok.ensures.1 c.deref.ensures.value count c.parse_words.ensures

pub returns-in-Err-BadByte : goal.returns-in-Err-BadByte
returns-in-Err-BadByte c = bad_bytes c.args.line.now (rw c.in-Err-BadByte.field-0-is at c.in-Err-BadByte.ensures)

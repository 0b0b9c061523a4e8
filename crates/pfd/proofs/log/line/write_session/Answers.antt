use Rattle.std.proofs.Common.{rules, ◌≡◌, ap, codes, decimal}
use Rattle.pfd.proofs.LogLines.{and_then}
use Rattle.pfd.proofs.log.line.write_session.Goals as goal

pub returns : goal.returns
returns g c =
    let same : c.from.result ≡ c.args.session = search rules in
    and_then (codes "pfd: session ") (decimal c.from.result) (decimal c.args.session) c.write_more-so_far.ensures c.write_more_number.ensures (ap decimal same)

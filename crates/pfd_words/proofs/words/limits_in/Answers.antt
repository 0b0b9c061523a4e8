use Rattle.std.proofs.Common.{rules, codes, Some}
use Rattle.clap.specs.Words.{found_of, one_of, rows_of}
use Rattle.pfd_words.specs.declared.words.TheConstants.{MOST_RENEWAL, RENEWAL, RENEWAL_BYTES}
use Rattle.pfd_words.specs.Words.{SaysNumber}
use Rattle.pfd_words.proofs.Asking.{renewed}
use Rattle.pfd_words.proofs.words.limits_in.Goals as goal

pub returns-clause-says : goal.returns-clause-says
returns-clause-says c =
    let rows = rows_of (found_of c.args.found.now) in
    let changes : SaysNumber 1 MOST_RENEWAL RENEWAL (one_of (codes "renew") rows) c.clamp-changes.result = search rules in
    let bytes : SaysNumber 1 4294967295 RENEWAL_BYTES (one_of (codes "renew-bytes") rows) c.clamp-bytes.result = search rules in
    renewed (Some (codes "serve", rows)) (one_of (codes "history") rows) _ c.in_default.ensures (changes, bytes)

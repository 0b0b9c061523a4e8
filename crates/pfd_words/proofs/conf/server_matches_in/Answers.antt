use Rattle.std.proofs.Common.{ap, codes, inr, is_some, refl}
use Rattle.pfd_words.proofs.conf.server_matches_in.Goals as goal

pub returns-in-Some-clause-refused : goal.returns-in-Some-clause-refused
returns-in-Some-clause-refused c =
    inr (c.in_ok-without_file.ensures, ap is_some c.requires, c.in-Some.ensures.said (codes "explain") refl)

pub returns-clause-asked : goal.returns-clause-asked
returns-clause-asked c = record {
  word = refl;
  from = c.requires;
  alone = c.in_default.ensures.unsaid (codes "explain");
  packet = c.in_ok-packet.ensures (codes "explain");
}

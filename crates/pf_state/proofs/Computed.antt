-- The bytes of the example message, computed, and what is read from them.
use Rattle.std.proofs.Common.{◌≡◌, lit≤, refl}
use Rattle.pf_rule.specs.Bytes.{number_at}
use Rattle.pf_state.specs.{Layouts.Flows.{direction_form, family_form, protocol_form, ports_form, flow_form}, Peer.Records.{insert_form, insert_of}, Peer.Groups.{content, group_at}, Peer.Messages.IsMessage, Peer.Written.message_bytes}
use Rattle.pf_state.specs.Laws.Messages as example

pub example_written : message_bytes example.message ≡ example.bytes
example_written = refl

pub example_read : IsMessage example.bytes example.message
unfolding number_at insert_of insert_form flow_form direction_form family_form protocol_form ports_form content group_at
example_read = record {
  whole = record { version = refl; zero = refl; measured = refl; enough = lit≤ tt };
  checksum = refl;
  groups = ((λ e. cc), _, refl, ((λ e. cc), _, refl, ((λ e. cc), _, refl, refl)));
}

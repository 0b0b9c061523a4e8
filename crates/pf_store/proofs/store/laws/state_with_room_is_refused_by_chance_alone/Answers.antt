use Rattle.std.specs.Prelude.{length}
use Rattle.pf_snap.specs.Banks.{bank_size}
use Rattle.pf_store.proofs.{OlderBanks.own_roomy, Refusing.{by_chance, roomy_is_not_full}, Sized.raised_roomy}
use Rattle.pf_store.proofs.store.laws.state_with_room_is_refused_by_chance_alone.Goals as goal

pub returns-clause-chance : goal.returns-clause-chance
returns-clause-chance c image fault d held early low room refused = by_chance image fault d held early low room refused

pub returns-clause-room : goal.returns-clause-room
returns-clause-room c image d roomy full = roomy_is_not_full image d roomy full

pub returns-clause-own : goal.returns-clause-own
returns-clause-own c image d held room = own_roomy held.content (bank_size (length image)) d held.makes room

pub returns-clause-next : goal.returns-clause-next
returns-clause-next c size d roomy = raised_roomy size d roomy

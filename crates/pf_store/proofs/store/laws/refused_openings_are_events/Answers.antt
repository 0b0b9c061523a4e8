use Rattle.pf_store.proofs.Refusals.{refusal_event, refusal_world}
use Rattle.pf_store.proofs.store.laws.refused_openings_are_events.Goals as goal

pub returns-clause-event : goal.returns-clause-event
returns-clause-event c seen image unsynced d is held = refusal_event seen image unsynced d is held

pub returns-clause-world : goal.returns-clause-world
returns-clause-world c first world seen image unsynced before d legal comes holds is held = refusal_world first world seen image unsynced before d legal comes holds is held

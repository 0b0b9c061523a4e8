use Rattle.pf_core.proofs.{Epochs.{raises_the_epoch, voids_tickets}, Folds.gives_the_fold, Given.gives_all, Groups.{keeps_acknowledged, keeps_whole}, Showing.{keeps_seen, keeps_learnt}}
use Rattle.pf_core.proofs.laws.worlds.Goals as goal

pub returns : goal.returns
returns c = record { void = voids_tickets; whole = keeps_whole; given = gives_all; fold = gives_the_fold; acknowledged = keeps_acknowledged; seen = keeps_seen; learnt = keeps_learnt; epochs = raises_the_epoch }

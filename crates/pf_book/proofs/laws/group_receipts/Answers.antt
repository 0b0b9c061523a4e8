use Rattle.std.proofs.Common.{◌≡◌, ◌⊎◌, List, map, Some, refl, subst}
use Rattle.pf_core.specs.{declared.reply.Reply.Reply, Worlds.as_stored}
use Rattle.pf_book.specs.Groups.{Answered}
use Rattle.pf_book.proofs.GroupTurns.{after-last, are-due, numbers, turns}
use Rattle.pf_book.proofs.laws.group_receipts.Goals as goal

pub returns-clause-after : goal.returns-clause-after
returns-clause-after d base setting commands answers last a = after-last base setting commands answers (Some last) a last refl

pub returns-clause-in_turn : goal.returns-clause-in_turn
returns-clause-in_turn d base setting commands answers last a = turns base setting commands answers last a

pub returns-clause-numbered : goal.returns-clause-numbered
returns-clause-numbered d base setting commands answers last a = numbers base setting commands answers last a

pub returns-clause-alone : goal.returns-clause-alone
returns-clause-alone d base setting commands answers last a =
    subst (λ (due : List Reply). (map (λ (x : Answered). x.0) answers ≡ due) ⊎ (map (λ (x : Answered). x.0) answers ≡ map as_stored due)) a.in_turn.replies (are-due base setting commands answers last a.group)

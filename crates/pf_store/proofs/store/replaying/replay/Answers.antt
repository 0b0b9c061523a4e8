use Rattle.std.proofs.Common.{◌≡◌, inl, ℕ, List, true, subst}
use Rattle.pf_snap.specs.Looked.{content_of}
use Rattle.pf_store.specs.Openings.{MakesNone, BreaksInSnapshot}
use Rattle.pf_store.proofs.Refusing.{breaks_off}
use Rattle.pf_store.proofs.store.replaying.replay.Goals as goal

pub returns-in-Err-clause-refused : goal.returns-in-Err-clause-refused
returns-in-Err-clause-refused c =
    let l = c.args.looked.now in
    breaks_off c.in-Err.fault (BreaksInSnapshot l.version l.at c.deref.result.now) (MakesNone (l.broken ≡ true) l.at (content_of l))
    (λ n none. inl (subst (λ (s : List ℕ). BreaksInSnapshot l.version l.at s n) c.deref.ensures.value none)) c.in-Err.ensures.refused

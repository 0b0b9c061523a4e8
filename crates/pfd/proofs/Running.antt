-- What was done where the words were `run` alone.
use Rattle.std.proofs.Common.{◌≡◌, ◌∙◌, ap, inl, inr, refl, subst, ℕ, List, Option, Result, Ok, Err}
use Rattle.pfd_words.specs.declared.words.{Task.Task, TheConstants.HISTORY_LIMIT}
use Rattle.pfd_words.specs.Words.{plain_run}
use Rattle.pf_session.specs.declared.line_engine.fault.EngineFault.{EngineFault}
use Rattle.pfd_files.specs.declared.fault.Fault.{Fault}
use Rattle.pfd.specs.Program.{IsDone, IsProgramRun, ended, status_of}

one_status : (r : Result (Unit {0}) EngineFault) → status_of (ended r) ≡ status_of r
one_status (Ok u) = refl
one_status (Err e) = refl

pub ran : {M F : Type 0} (memory : M → ℕ) (seen : F → List ℕ) (file : F → ℕ) (task : Task) (end : Result (Unit {0}) Fault) (unread still_unread held held' : Option (List ℕ)) → task ≡ plain_run
    → IsDone memory seen file task end unread still_unread held held' → IsProgramRun memory HISTORY_LIMIT (status_of end) unread still_unread held held'
ran memory seen file task end unread still_unread held held' is done =
    let as_run : IsDone memory seen file plain_run end unread still_unread held held' =
    subst (λ (t : Task). IsDone memory seen file t end unread still_unread held held') is done in
    elim as_run [
      | inl (session, is_end, served) ↦ inl (session, ap status_of is_end ∙ one_status session, served)
      | inr (fault, is_end, hinders, unread_still, held_still) ↦ inr (ap status_of is_end, unread_still, held_still)
    ]

-- What is left of a Book.
use Rattle.std.proofs.{Common.{ℕ, ◌≤◌, List, length, take, ap, arith}, lemmas.List.{length-append, length-take, take-append-drop}}
use mathlib.Core.List.{IsPrefix}
use Rattle.pf_core.specs.Durable.Changes.{PlainChange}
use Rattle.pf_view.proofs.Prefixes.{prefix_shorter}

-- a front with no more changes than were acknowledged is one of those
pub within-acked : (front log : List PlainChange) (acked : ℕ) → IsPrefix front log → length front ≤ acked → IsPrefix front (take acked log)
within-acked front log acked begins few =
    let short : length front ≤ length log = omega (arith, ap length begins.1, length-append front begins.0) in
    prefix_shorter front (take acked log) log begins (_, take-append-drop acked log) (omega (arith, length-take acked log, short, few))

use Rattle.std.proofs.Common.{◌≡◌, length}
use Rattle.pf_form.specs.{Form.Words.texts, Form.Forms.{Reader, any_by, one_or_more_by}, Form.Readers.{IsReadBy, Shrinks}}
use Rattle.pf_form.proofs.Collecting.{after}
use Rattle.pf_form.proofs.form.reading.each.Given as goal

abbrev pub invariant-loop-rest : goal.invariant-loop-rest
invariant-loop-rest g l = (at : Reader _) → Shrinks at → IsReadBy (goal.R-post g l.fn.read) at → one_or_more_by at (texts l.words) ≡ after l.items.items (any_by at (texts l.rest))

abbrev pub decreases-loop-rest : goal.decreases-loop-rest
decreases-loop-rest g l = length l.rest

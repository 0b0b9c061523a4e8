-- Lemmas on the lines of a log.
use Rattle.std.proofs.Common.{◌≡◌, ◌++◌, ℕ, List, [], Option, Some, Result, Ok, Err, subst, sym}
use Rattle.std.specs.declared.io.Error.{Error}
use Rattle.pf_addr.specs.Writing.{Continues, Continues-then, Writes, WritesFront}
use Rattle.pf_session.proofs.Flushing.{whole_front}

-- a part that is another text, as an equation says, after what was written so far
pub and_then : {q r s : Result (Unit {0}) Error} {old mid new : Option (List ℕ)} (front text is : List ℕ)
    → Continues q old r mid front → Continues r mid s new text → text ≡ is → Continues q old s new (front ++ is)
and_then {q = q} {s = s} {old = old} {new = new} front text is first second same =
    subst (λ (t : List ℕ). Continues q old s new (front ++ t)) same (Continues-then first second)

front_of : (r : Result (Unit {0}) Error) (old new : Option (List ℕ)) (text : List ℕ) → Writes r old new text → WritesFront old new text
front_of (Ok u) old new text w = whole_front old new text w
front_of (Err e) old new text w = w

-- a line that was made in an empty room, and then said
pub said : (made r : Result (Unit {0}) Error) (u : Unit {0}) (room text : List ℕ) (old new : Option (List ℕ)) → made ≡ Ok u
    → Writes made (Some []) (Some room) text → Writes r old new room → WritesFront old new text
said made r u room text old new is made_it wrote =
    let same : room ≡ text = subst (λ (m : Result (Unit {0}) Error). Writes m (Some []) (Some room) text) is made_it in
    subst (λ (t : List ℕ). WritesFront old new t) same (front_of r old new room wrote)

-- it was made in a room that was emptied, and is what the room shows
pub in_room : (made : Result (Unit {0}) Error) (before after shown text : List ℕ) → before ≡ [] → shown ≡ after
    → Writes made (Some before) (Some after) text → Writes made (Some []) (Some shown) text
in_room made before after shown text none same w =
    subst (λ (x : List ℕ). Writes made (Some []) (Some x) text) (sym same) (subst (λ (b : List ℕ). Writes made (Some b) (Some after) text) none w)

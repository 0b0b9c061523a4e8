-- The laws of every form, by induction over forms.
use Rattle.std.proofs.Common.{◌≡◌, Bool, true, false, List}
use Rattle.std.specs.Prelude.{◌&&◌, not}
use Rattle.pf_form.specs.{Form.Words.Word, Form.Forms.{Form, nothing, word, key, or, pair, pair_by, any_number, making, Spells, Faults, reads, empties, begins, Follow, plus, follow, may_follow, is_decided, either}, Laws.Form.Decided.{Clear, clear_both, both, or_left, or_right, is_not, Lawful, weaken}, Laws.Form.Words.{nothing_laws, word_laws, key_laws, or_laws}, Laws.Form.Pairs.{both_laws, made_laws}, Laws.Form.Lists.items_laws}

at_flag : (t : Bool → Bool) (b : Bool) → t b ≡ true → either t ≡ true
at_flag t true e = or_left (t true) (t false) e
at_flag t false e = or_right (t true) (t false) e

follow_flag : (t : Bool → Follow) (b : Bool) (ws : List Word) → Clear (plus (t true) (t false)) ws → Clear (t b) ws
follow_flag t true ws h = (clear_both (t true) (t false) ws h).0
follow_flag t false ws h = (clear_both (t true) (t false) ws h).1

-- Where one word of look-ahead decides, the form's reader reads its grammar.
pub lawful : {A : Type 0} (f : Form A) → is_decided f ≡ true → Lawful f
lawful (nothing none) d = nothing_laws none
lawful (word test) d = word_laws test
lawful (key k f) d = key_laws k f (lawful f d)
lawful (or k f g) d =
    let d' = both (is_decided f) (is_decided g && not (begins g k)) d in
    let d'' = both (is_decided g) (not (begins g k)) d'.1 in
    or_laws k f g (key_laws k f (lawful f d'.0)) (lawful g d''.0) (is_not (begins g k) d''.1)
lawful (pair {A = A} {B = B} f g) d =
    let d' = both (is_decided f) (is_decided g && may_follow (follow f) (begins g)) d in
    let d'' = both (is_decided g) (may_follow (follow f) (begins g)) d'.1 in
    let second = lawful g d''.0 in
    both_laws A B (Spells f) (λ x. Spells g) (Faults f) (λ x. Faults g) (empties f) (empties g) (begins f) (begins g) (follow f) (follow g) (reads f) (λ x. reads g) (lawful f d'.0) (λ x. second) d''.1
lawful (pair_by {A = A} {B = B} f flag g) d =
    let next = λ (w : Word). either (λ b. begins (g b) w) in
    let d' = both (is_decided f) ((is_decided (g true) && is_decided (g false)) && may_follow (follow f) next) d in
    let d'' = both (is_decided (g true) && is_decided (g false)) (may_follow (follow f) next) d'.1 in
    let of_g = both (is_decided (g true)) (is_decided (g false)) d''.0 in
    let second : (b : Bool) → Lawful (g b) = elim [ true ↦ lawful (g true) of_g.0 | false ↦ lawful (g false) of_g.1 ] in
    both_laws A B (Spells f) (λ x. Spells (g (flag x))) (Faults f) (λ x. Faults (g (flag x))) (empties f) (either (λ b. empties (g b))) (begins f) next (follow f) (plus (follow (g true)) (follow (g false))) (reads f) (λ x. reads (g (flag x)))
    (lawful f d'.0)
    (λ x. weaken B (Spells (g (flag x))) (Faults (g (flag x))) (empties (g (flag x))) (either (λ b. empties (g b))) (begins (g (flag x))) next (follow (g (flag x))) (plus (follow (g true)) (follow (g false))) (reads (g (flag x)))
    (λ e. at_flag (λ b. empties (g b)) (flag x) e)
    (λ w e. at_flag (λ b. begins (g b) w) (flag x) e)
    (λ ws c. follow_flag (λ b. follow (g b)) (flag x) ws c)
    (second (flag x)))
    d''.1
lawful (any_number f) d =
    let d' = both (is_decided f) (not (empties f) && may_follow (follow f) (begins f)) d in
    let d'' = both (not (empties f)) (may_follow (follow f) (begins f)) d'.1 in
    items_laws f (lawful f d'.0) (is_not (empties f) d''.0) d''.1
lawful (making make f) d = made_laws make f (lawful f d)

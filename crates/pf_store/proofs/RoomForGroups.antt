-- A group fits exactly if its record finds room, and what can be wanted has bytes then.
use Rattle.std.proofs.{Common.{◌≡◌, ℕ, ◌+◌, ◌^◌, ◌<◌, ◌≤◌, Bool, true, List, [], ◌∷◌, length, refl, ◌∙◌, arith}, lemmas.{List.length-map, Bool.Decides.nat_tests}}
use Rattle.std.specs.{Prelude.{◌↔◌, ◌&&◌, nat_le, nat_lt}, List.list_all}
use Rattle.pf_core.specs.Durable.Changes.{PlainDurable, PlainChange, commits, adds, deletes, sets, acts, removes, expires}
use Rattle.pf_state.specs.{declared.step.StateStep.{StateStep, TheVariants.Insert, TheVariants.Delete, TheVariants.Clear}, Layouts.{States.{held_form, name_form, state_form}, Steps.step_form}}
use Rattle.pf_table.specs.Entries.{PlainEntry}
use Rattle.pf_store.specs.{Groups.{can_be_wanted, change_form, has_form, is_group, made_all}, Lengths.{edit_length, payload_length, recorded_length, snapshot_length, step_length, total}, Rooms.group_fits, Stores.{FindsRoom, HasRoom}}
use Rattle.pf_store.proofs.Sized.{edit_long, steps_long}
use Rattle.pf_snap.specs.declared.header.TheConstants.{BANK_HEADER}
use Rattle.pf_store.specs.declared.encoding.recorded.Recorded.TheVariants as recorded
use Rattle.std.proofs.lemmas.Bool.{and_parts, and_from}

below : (a b : ℕ) → nat_le a b ≡ true → a ≤ b
below a b is = grind (arith, nat_tests, is)

is-below : (a b : ℕ) → a ≤ b → nat_le a b ≡ true
is-below a b le = grind (arith, nat_tests, le)

-- the two tests
abbrev then : ℕ → PlainDurable → Bool
then size next = nat_le (BANK_HEADER + snapshot_length next + 64) size

abbrev room_left : ℕ → PlainDurable → List PlainChange → Bool
room_left size before es = nat_le (BANK_HEADER + snapshot_length before + (payload_length (made_all es) + 6)) size

finds : (size : ℕ) (before next : PlainDurable) (es : List PlainChange) → (then size next && room_left size before es) ≡ true → HasRoom size before next (payload_length (made_all es))
finds size before next es is =
    let both = and_parts (then size next) (room_left size before es) is in
    record {
      then = below (BANK_HEADER + snapshot_length next + 64) size both.0;
      room_left = below (BANK_HEADER + snapshot_length before + (payload_length (made_all es) + 6)) size both.1;
    }

fits : (size : ℕ) (before next : PlainDurable) (es : List PlainChange) → HasRoom size before next (payload_length (made_all es)) → (then size next && room_left size before es) ≡ true
fits size before next es room =
    and_from (then size next) (room_left size before es) (is-below (BANK_HEADER + snapshot_length next + 64) size room.then)
    (is-below (BANK_HEADER + snapshot_length before + (payload_length (made_all es) + 6)) size room.room_left)

pub group-fits : (size : ℕ) (before next : PlainDurable) (es : List PlainChange) → (group_fits size before next es ≡ true) ↔ HasRoom size before next (payload_length (made_all es))
unfolding group_fits
group-fits size before next es = (finds size before next es, fits size before next es)

-- ---- what can be wanted has bytes if a bank has room for them

is_short : {A : Type 0} (xs : List A) → length xs < 2 ^ 32 → nat_lt (length xs) (2 ^ 32) ≡ true
is_short xs few = grind (arith, nat_tests, few)

short_steps : (xs : List StateStep) → length xs ≤ total step_length xs
unfolding step_form state_form held_form name_form
short_steps [] = omega arith
short_steps (Insert s ∷ xs) = omega (arith, short_steps xs)
short_steps (Delete n ∷ xs) = omega (arith, short_steps xs)
short_steps (Clear k ∷ xs) = omega (arith, short_steps xs)

short_edit : (p name : List ℕ) (xs : List PlainEntry) → edit_length p name xs < 2 ^ 32 → nat_lt (length xs) (2 ^ 32) ≡ true
short_edit p name xs low = is_short xs (omega (arith, edit_long p name xs, low))

has_bytes : (e : PlainChange) → can_be_wanted e ≡ true → recorded_length (recorded.Made e) < 2 ^ 32 → has_form (recorded.Made e) ≡ true
unfolding change_form
has_bytes (commits items) can low = can
has_bytes (adds p name xs) can low = short_edit p name xs (omega (arith, low))
has_bytes (deletes p name xs) can low = short_edit p name xs (omega (arith, low))
has_bytes (sets p name xs) can low = short_edit p name xs (omega (arith, low))
has_bytes (acts steps) can low = is_short steps (omega (arith, steps_long steps, short_steps steps, low))
has_bytes (removes name) can low = refl
has_bytes (expires tick) can low = refl

all_have_bytes : (es : List PlainChange) → list_all can_be_wanted es ≡ true → total recorded_length (made_all es) < 2 ^ 32 → list_all has_form (made_all es) ≡ true
all_have_bytes [] can low = refl
all_have_bytes (e ∷ es) can low =
    let both = and_parts (can_be_wanted e) (list_all can_be_wanted es) can in
    and_from (has_form (recorded.Made e)) (list_all has_form (made_all es)) (has_bytes e both.0 (omega (arith, low))) (all_have_bytes es both.1 (omega (arith, low)))

pub finds_room : (size : ℕ) (before next : PlainDurable) (es : List PlainChange) → size < 2 ^ 32 → is_group es ≡ true → list_all can_be_wanted es ≡ true
    → HasRoom size before next (payload_length (made_all es)) → FindsRoom size before next es
finds_room size before next es small group can room = record {
  formed = and_from (is_group (made_all es)) (list_all has_form (made_all es)) (many es ∙ group) (all_have_bytes es can (omega (arith, room.room_left, small)));
  room = room;
}
  where
    many : (es : List PlainChange) → is_group (made_all es) ≡ is_group es
    many es = rw (length-map es recorded.Made) refl

-- What is written is read again.
use Rattle.std.proofs.{Common.{◌≡◌, ◌≢◌, ◌*◌, ◌<◌, ◌≤◌, ℕ, true, false, List, [], ◌∷◌, ◌++◌, length, Option, Some, Ok, refl, sym, ap, ◌∙◌, subst, append_assoc, length-append, arith}, lemmas.List.{take_at, drop_at}, lemmas.Bool.Decides.nat_tests}
use Rattle.std.specs.{Prelude.nat_lt, List.flat_map}
use Rattle.byteorder.specs.{Numbers.big_number-reads_back, Endian.big_bytes}
use Rattle.pf_rule.specs.{Bytes.{number_at, addr_bytes-length}}
use Rattle.pf_state.specs.{declared.{peer.message.Group.Group, peer.message.Group.TheVariants.Inserts, peer.message.Group.TheVariants.Deletes, peer.message.Group.TheVariants.Clears, peer.message.Message.Message, peer.record.TheConstants.RECORD_LENGTH, peer.record.Delete.Delete, peer.record.Clear.Clear}, Peer.Records.{PlainInsert, IsInsert, insert_of, delete_of, clear_of, insert_bytes, delete_bytes, clear_bytes}, Peer.Groups.{records_of, content, is_action, group_at, AreGroups}, Peer.Messages.IsMessage, Peer.Written.{Each, IsDelete, IsClear, IsGroup, group_bytes, groups_bytes, message_length, message_bytes, CanBeWritten}}
use Rattle.pf_state.proofs.{Appended.{few_inserts, few_deletes, few_clears}, Inserts.insert_again}

-- ---- records

-- a written record is read back as that record, and is as long as a record is
record Again {A : Type 0} (reading : List ℕ → Option A) (writing : A → List ℕ) (x : A) : Type 0 where
  read : reading (writing x) ≡ Some x
  long : length (writing x) ≡ RECORD_LENGTH

delete_again : (d : Delete) → IsDelete d → Again delete_of delete_bytes d
unfolding number_at
delete_again d is = record { read = rw (big_number-reads_back 8 d.id _ is.0, big_number-reads_back 4 d.creator _ is.1) refl; long = refl }

clear_again : (c : Clear) → IsClear c → Again clear_of clear_bytes c
unfolding number_at
clear_again c is = record { read = rw (big_number-reads_back 4 c.creator _ is) refl; long = refl }

pub insert_long : (i : PlainInsert) → length (insert_bytes i) ≡ 64
insert_long i = omega (arith, addr_bytes-length i.source, addr_bytes-length i.destination, length-append {A = ℕ})

insert_read : (i : PlainInsert) → IsInsert i → Again insert_of insert_bytes i
insert_read i is = record { read = insert_again i is; long = insert_long i }

records_again : {A : Type 0} (reading : List ℕ → Option A) (writing : A → List ℕ) (P : A → Type 0) → ((x : A) → P x → Again reading writing x) → (xs : List A) (rest : List ℕ)
    → Each P xs → records_of reading (length xs) (flat_map writing xs ++ rest) ≡ Ok xs
records_again reading writing P again [] rest each = refl
records_again reading writing P again (x ∷ xs) rest each =
    let one = again x each.0 in
    let split = append_assoc (writing x) (flat_map writing xs) rest in
    rw (split, take_at (writing x) (flat_map writing xs ++ rest) RECORD_LENGTH one.long, drop_at (writing x) (flat_map writing xs ++ rest) RECORD_LENGTH one.long, one.read, records_again reading writing P again xs rest each.1) refl

-- they take this many bytes
records_long : {A : Type 0} (reading : List ℕ → Option A) (writing : A → List ℕ) (P : A → Type 0) → ((x : A) → P x → Again reading writing x) → (xs : List A) → Each P xs
    → length (flat_map writing xs) ≡ RECORD_LENGTH * length xs
records_long reading writing P again [] each = refl
records_long reading writing P again (x ∷ xs) each =
    omega (arith, (again x each.0).long, records_long reading writing P again xs each.1, length-append (writing x) (flat_map writing xs))

-- ---- groups

not_below : (m n : ℕ) → n ≤ m → nat_lt m n ≡ false
not_below m n le = grind (arith, nat_tests)

count_again : (a n : ℕ) (rest : List ℕ) → n < 65536 → number_at 2 2 (a ∷ 0 ∷ (big_bytes 2 n ++ rest)) ≡ n
unfolding number_at
count_again a n rest lt = big_number-reads_back 2 n rest lt

one_again : (a n : ℕ) (records rest : List ℕ) (g : Group) → n < 65536 → is_action a ≡ true → length records ≡ RECORD_LENGTH * n → content a n (records ++ rest) ≡ Ok g
    → group_at (a ∷ 0 ∷ (big_bytes 2 n ++ (records ++ rest))) ≡ Ok (g, rest)
unfolding group_at
one_again a n records rest g lt action long says =
    let enough : nat_lt (length (a ∷ 0 ∷ (big_bytes 2 n ++ (records ++ rest)))) 4 ≡ false = not_below (length (a ∷ 0 ∷ (big_bytes 2 n ++ (records ++ rest)))) 4 (omega arith) in
    let all : nat_lt (length (records ++ rest)) (RECORD_LENGTH * n) ≡ false = not_below (length (records ++ rest)) (RECORD_LENGTH * n) (omega (arith, long, length-append records rest)) in
    rw (enough, action, count_again a n (records ++ rest) lt, all, says, drop_at records rest (RECORD_LENGTH * n) long) refl

group_again : (g : Group) (rest : List ℕ) → IsGroup g → length (group_bytes g) < 65536 → group_at (group_bytes g ++ rest) ≡ Ok (g, rest)
unfolding content
group_again (Inserts xs) rest is fits =
    one_again 1 (length xs) (flat_map insert_bytes xs) rest (Inserts xs) (few_inserts (Inserts xs) xs refl fits) refl (records_long insert_of insert_bytes IsInsert insert_read xs is)
    (rw (records_again insert_of insert_bytes IsInsert insert_read xs rest is) refl)
group_again (Deletes xs) rest is fits =
    one_again 6 (length xs) (flat_map delete_bytes xs) rest (Deletes xs) (few_deletes (Deletes xs) xs refl fits) refl (records_long delete_of delete_bytes IsDelete delete_again xs is)
    (rw (records_again delete_of delete_bytes IsDelete delete_again xs rest is) refl)
group_again (Clears xs) rest is fits =
    one_again 0 (length xs) (flat_map clear_bytes xs) rest (Clears xs) (few_clears (Clears xs) xs refl fits) refl (records_long clear_of clear_bytes IsClear clear_again xs is)
    (rw (records_again clear_of clear_bytes IsClear clear_again xs rest is) refl)

some_bytes : (g : Group) (rest : List ℕ) → group_bytes g ++ rest ≢ []
some_bytes (Inserts xs) rest e = absurd (omega (arith, ap (λ (l : List ℕ). length l) e))
some_bytes (Deletes xs) rest e = absurd (omega (arith, ap (λ (l : List ℕ). length l) e))
some_bytes (Clears xs) rest e = absurd (omega (arith, ap (λ (l : List ℕ). length l) e))

groups_again : (gs : List Group) → Each IsGroup gs → length (groups_bytes gs) < 65536 → AreGroups (groups_bytes gs) gs
groups_again [] each fits = refl
groups_again (g ∷ gs) each fits =
    let long = length-append (group_bytes g) (groups_bytes gs) in
    (some_bytes g (groups_bytes gs), groups_bytes gs, group_again g (groups_bytes gs) each.0 (omega (arith, fits, long)), groups_again gs each.1 (omega (arith, fits, long)))

-- ---- the message

pub message_again : (m : Message) → CanBeWritten m → IsMessage (message_bytes m) m
unfolding number_at
message_again m can =
    let body = length-append m.checksum (groups_bytes m.groups) in
    record {
      whole = record {
        version = refl;
        zero = refl;
        measured = big_number-reads_back 2 (message_length m) (m.checksum ++ groups_bytes m.groups) can.fits ∙ omega (arith, body, can.checksum);
        enough = omega (arith, body, can.checksum);
      };
      checksum = sym (take_at m.checksum (groups_bytes m.groups) 16 can.checksum);
      groups = subst (λ (l : List ℕ). AreGroups l m.groups) (sym (drop_at m.checksum (groups_bytes m.groups) 16 can.checksum)) (groups_again m.groups can.groups (omega (arith, can.fits)));
    }

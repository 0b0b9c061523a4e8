-- What is written in turn stands in order.
use Rattle.std.proofs.{Common.{◌≡◌, ◌+◌, ◌<◌, ◌≤◌, ℕ, zero, suc, List, [], ◌∷◌, length, take, get_or, subst, ap, length-append, arith}, lemmas.List.take_all, lemmas.List.Elements.{All-head, All-tail, All-more}}
use Rattle.std.specs.List.{All, flat_map}
use Rattle.pf_state.specs.{declared.{peer.message.Group.Group, peer.message.Group.TheVariants.Inserts, peer.message.Group.TheVariants.Deletes, peer.message.Group.TheVariants.Clears, peer.record.Delete.Delete, peer.record.Clear.Clear}, Peer.Records.{PlainInsert, insert_bytes, delete_bytes, clear_bytes}, Peer.Written.{Each, group_bytes, group_with}}

-- there are at most as many items as bytes for them
pub count_fits : {A : Type 0} (writing : A → List ℕ) → ((x : A) → 0 < length (writing x)) → (xs : List A) → length xs ≤ length (flat_map writing xs)
count_fits writing some [] = omega arith
count_fits writing some (x ∷ xs) = omega (arith, some x, count_fits writing some xs, length-append (writing x) (flat_map writing xs))

-- one of them takes no more bytes than all do
pub one_fits : {A : Type 0} (writing : A → List ℕ) (xs : List A) (i : ℕ) (d : A) → i < length xs → length (writing (get_or xs i d)) ≤ length (flat_map writing xs)
one_fits writing [] i d lt = absurd (omega (arith, lt))
one_fits writing (x ∷ xs) zero d lt = omega (arith, length-append (writing x) (flat_map writing xs))
one_fits writing (x ∷ xs) (suc i) d lt = omega (arith, one_fits writing xs i d (omega (arith, lt)), length-append (writing x) (flat_map writing xs))

-- a group whose bytes fit a message has no more records than its count field can say
few_of : {A : Type 0} (a : ℕ) (writing : A → List ℕ) → ((x : A) → 0 < length (writing x)) → (xs : List A) → length (group_with a writing xs) < 65536 → length xs < 65536
few_of a writing some xs lt = omega (arith, lt, count_fits writing some xs)

pub few_inserts : (g : Group) (xs : List PlainInsert) → g ≡ Inserts xs → length (group_bytes g) < 65536 → length xs < 65536
few_inserts g xs e lt = few_of 1 insert_bytes (λ x. omega arith) xs (subst (λ (h : Group). length (group_bytes h) < 65536) e lt)

pub few_deletes : (g : Group) (xs : List Delete) → g ≡ Deletes xs → length (group_bytes g) < 65536 → length xs < 65536
few_deletes g xs e lt = few_of 6 delete_bytes (λ x. omega arith) xs (subst (λ (h : Group). length (group_bytes h) < 65536) e lt)

pub few_clears : (g : Group) (xs : List Clear) → g ≡ Clears xs → length (group_bytes g) < 65536 → length xs < 65536
few_clears g xs e lt = few_of 0 clear_bytes (λ x. omega arith) xs (subst (λ (h : Group). length (group_bytes h) < 65536) e lt)

pub group_fits : (gs : List Group) (i : ℕ) (g : Group) → g ≡ get_or gs i g → i < length gs → length (flat_map group_bytes gs) < 65536 → length (group_bytes g) < 65536
group_fits gs i g e lt fits = omega (arith, one_fits group_bytes gs i g lt, ap (λ (h : Group). length (group_bytes h)) e, fits)

-- ---- what holds for each item that was written

each : {A : Type 0} (P : A → Type 0) (xs : List A) → All P xs → Each P xs
each P [] all = tt
each P (x ∷ xs) all = (All-head P x xs all, each P xs (All-tail P x xs all))

-- for all of them, once this many were written
pub each_of : {A : Type 0} (P : A → Type 0) (n : ℕ) (xs : List A) → length xs ≤ n → All P (take n xs) → Each P xs
each_of P n xs all so_far = each P xs (rw (take_all n xs all) at so_far)

pub one_more : {A : Type 0} (P : A → Type 0) (xs : List A) (i : ℕ) (x : A) → i < length xs → x ≡ get_or xs i x → All P (take i xs)
    → P x → All P (take (i + 1) xs)
one_more P xs i x lt is so_far holds = All-more P xs i x lt so_far (subst P is holds)

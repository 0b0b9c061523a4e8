-- The parts of an export, and how long its messages are.
use Rattle.std.proofs.{Common.{◌≡◌, ◌+◌, ◌-◌, ◌*◌, ◌/◌, ◌%◌, ◌<◌, ◌≤◌, ℕ, zero, suc, List, [], ◌∷◌, ◌++◌, length, map, take, drop, min, refl, sym, subst, ap, ◌∙◌, append_assoc, length-append, arith}, lemmas.List.{append-nil, take-append-drop, length-take, length-drop, length-map, take_all, drop_all, take_at, drop_at}}
use Rattle.std.specs.{List.{concat, flat_map}, Slice.Iter.chunk_count}
use Rattle.pf_state.specs.{Peer.Records.{PlainInsert, insert_bytes}, Peer.Messages.IsMessage, Peer.Streams.{Reads, Unfinished}, Peer.Written.{Each, message_length, message_bytes}, States.PlainState, Failover.Outgoing.{exported_insert, exported_message, parts, exported_messages}}
use Rattle.pf_state.specs.declared.failover.outgoing.TheConstants.{EXPORT_RECORDS}
use Rattle.pf_state.proofs.RoundTrip.{insert_long}

-- ---- lengths

inserts_long : (xs : List PlainInsert) → length (flat_map insert_bytes xs) ≡ 64 * length xs
inserts_long [] = refl
inserts_long (x ∷ xs) = omega (arith, insert_long x, inserts_long xs, length-append (insert_bytes x) (flat_map insert_bytes xs))

-- a header, a group's header, and 64 bytes for each state
pub export_long : (current : List ℕ) (es : List PlainState) → message_length (exported_message current es) ≡ 24 + 64 * length es
export_long current es =
    let xs = map (exported_insert current) es in
    omega (arith, inserts_long xs, length-map es (exported_insert current), length-append (flat_map insert_bytes xs) [], ap (λ (l : List ℕ). length l) (append-nil (flat_map insert_bytes xs)))

pub export_fits : (current : List ℕ) (es : List PlainState) → length es ≤ EXPORT_RECORDS → message_length (exported_message current es) ≤ 65535
export_fits current es few = omega (arith, export_long current es)

-- ---- one part after the other

one_part_more : (n : ℕ) → 0 < n → chunk_count n 31 ≡ suc (chunk_count (n - 31) 31)
one_part_more n some = omega arith

pub next_part : (es : List PlainState) → 0 < length es → parts es ≡ take EXPORT_RECORDS es ∷ parts (drop EXPORT_RECORDS es)
next_part es some =
    let count : chunk_count (length es) 31 ≡ suc (chunk_count (length (drop 31 es)) 31) = one_part_more (length es) some ∙ ap (λ (n : ℕ). suc (chunk_count n 31)) (sym (length-drop 31 es)) in
    rw count refl

pub no_part : (es : List PlainState) → length es ≡ 0 → parts es ≡ []
no_part es none = rw none refl

-- ---- the loop over them

front_is : (part following : List PlainState) → length part ≡ min 31 (length (part ++ following)) → take 31 (part ++ following) ≡ part
front_is part [] e = rw append-nil (take_all 31 part (omega (arith, e)))
front_is part (s ∷ following) e = take_at part (s ∷ following) 31 (omega (arith, e, length-append part (s ∷ following)))

back_is : (part following : List PlainState) → length part ≡ min 31 (length (part ++ following)) → drop 31 (part ++ following) ≡ following
back_is part [] e = rw append-nil (drop_all 31 part (omega (arith, e)))
back_is part (s ∷ following) e = drop_at part (s ∷ following) 31 (omega (arith, e, length-append part (s ∷ following)))

cut_off : (part following : List PlainState) → 0 < length (part ++ following) → length part ≡ min 31 (length (part ++ following)) → parts (part ++ following) ≡ part ∷ parts following
cut_off part following some long = next_part (part ++ following) some
    ∙ ap (λ (p : List PlainState). p ∷ parts (drop 31 (part ++ following))) (front_is part following long) ∙ ap (λ (b : List PlainState). part ∷ parts b) (back_is part following long)

front_part : (rest part following : List PlainState) → rest ≡ part ++ following → length part ≡ min 31 (length rest) → 0 < length rest
    → parts rest ≡ part ∷ parts following
front_part rest part following split long some =
    let so_long = subst (λ (l : List PlainState). length part ≡ min 31 (length l)) split long in
    ap parts split ∙ cut_off part following (subst (λ (l : List PlainState). 0 < length l) split some) so_long

pub one_more_part : (current : List ℕ) (rest part following : List PlainState) (before more all : List (List ℕ)) (bytes : List ℕ)
    → rest ≡ part ++ following → length part ≡ min 31 (length rest) → 0 < length rest → bytes ≡ message_bytes (exported_message current part) → more ≡ before ++ bytes ∷ []
    → before ++ map message_bytes (exported_messages current rest) ≡ all → more ++ map message_bytes (exported_messages current following) ≡ all
one_more_part current rest part following before more all bytes split long some written grown so =
    let cut = front_part rest part following split long some in
    let now : before ++ (message_bytes (exported_message current part) ∷ map message_bytes (exported_messages current following)) ≡ all =
    ap (λ (ps : List (List PlainState)). before ++ map message_bytes (map (exported_message current) ps)) (sym cut) ∙ so in
    rw (grown, append_assoc, written) now

pub all_parts : (current : List ℕ) (rest : List PlainState) (before all : List (List ℕ)) → length rest ≡ 0
    → before ++ map message_bytes (exported_messages current rest) ≡ all → before ≡ all
all_parts current rest before all none so =
    let cut : before ++ [] ≡ all = ap (λ (ps : List (List PlainState)). before ++ map message_bytes (map (exported_message current) ps)) (sym (no_part rest none)) ∙ so in
    sym (append-nil before) ∙ cut

-- ---- each message is read from its bytes

abbrev pub IsRead : List ℕ → List PlainState → Type 0
IsRead current part = IsMessage (message_bytes (exported_message current part)) (exported_message current part)

-- if those of what follows a part are, and the part's is, all are
pub one_read_more : (current : List ℕ) (rest part following : List PlainState) (bytes : List ℕ) (All : Type 0)
    → rest ≡ part ++ following → length part ≡ min 31 (length rest) → 0 < length rest → bytes ≡ message_bytes (exported_message current part)
    → IsMessage bytes (exported_message current part) → (Each (IsRead current) (parts rest) → All) → Each (IsRead current) (parts following) → All
one_read_more current rest part following bytes All split long some written is so are =
    so (rw (front_part rest part following split long some) (rw written at is, are))

pub all_read : (current : List ℕ) (rest : List PlainState) (All : Type 0) → length rest ≡ 0 → (Each (IsRead current) (parts rest) → All) → All
all_read current rest All none so = so (rw (no_part rest none) tt)

-- and they are read one after the other, with nothing left
pub read_in_turn : (current : List ℕ) (ps : List (List PlainState)) → Each (IsRead current) ps
    → Reads (concat (map message_bytes (map (exported_message current) ps))) (map (exported_message current) ps) (Unfinished [])
read_in_turn current [] each = (refl, tt)
read_in_turn current (p ∷ ps) each = (
  message_bytes (exported_message current p),
  concat (map message_bytes (map (exported_message current) ps)),
  refl,
  each.0,
  read_in_turn current ps each.1,
)

-- ---- a part is taken one state after the other

pub taken_one : (reported : ℕ) (part rest : List PlainState) (s : PlainState) (following all : List PlainState) → reported < 31 → rest ≡ s ∷ following
    → part ++ take (31 - reported) rest ≡ all → (part ++ s ∷ []) ++ take (31 - (reported + 1)) following ≡ all
taken_one reported part rest s following all more split so =
    let one : 31 - reported ≡ suc (31 - (reported + 1)) = omega arith in
    append_assoc part (s ∷ []) (take (31 - (reported + 1)) following)
    ∙ ap (λ (n : ℕ). part ++ take n (s ∷ following)) (sym one) ∙ ap (λ (l : List PlainState). part ++ take (31 - reported) l) (sym split) ∙ so

pub dropped_one : (reported : ℕ) (rest : List PlainState) (s : PlainState) (following left : List PlainState) → reported < 31 → rest ≡ s ∷ following
    → drop (31 - reported) rest ≡ left → drop (31 - (reported + 1)) following ≡ left
dropped_one reported rest s following left more split so =
    let one : 31 - reported ≡ suc (31 - (reported + 1)) = omega arith in
    ap (λ (n : ℕ). drop n (s ∷ following)) (sym one) ∙ ap (λ (l : List PlainState). drop (31 - reported) l) (sym split) ∙ so

-- if none is left
pub all_taken : (n : ℕ) (part rest all : List PlainState) → rest ≡ [] → part ++ take n rest ≡ all → part ≡ all
all_taken n part rest all none so = by n (ap (λ (l : List PlainState). part ++ take n l) (sym none) ∙ so) where
  by : (n : ℕ) → part ++ take n [] ≡ all → part ≡ all
  by zero e = sym (append-nil part) ∙ e
  by (suc n) e = sym (append-nil part) ∙ e

pub part_fits : (rest : List PlainState) → length (take 31 rest) ≤ 31
part_fits rest = omega (arith, length-take 31 rest)

pub part_long : (rest : List PlainState) → length (take 31 rest) ≡ min 31 (length rest)
part_long rest = length-take 31 rest

-- the next part of those that are left
pub split_off : (rest : List PlainState) → rest ≡ take 31 rest ++ drop 31 rest
split_off rest = sym (take-append-drop 31 rest)

parts_count : (n : ℕ) → n / 31 + min 1 (n % 31) ≡ chunk_count n 31
parts_count n = omega arith

pub some_left : (rest : List PlainState) (message n : ℕ) → chunk_count (length rest) 31 + message ≡ chunk_count n 31 → message < n / 31 + min 1 (n % 31) → 0 < length rest
some_left rest message n is more = let count = parts_count n in omega (arith, is, more, count)

pub none_left : (rest : List PlainState) (message n : ℕ) → chunk_count (length rest) 31 + message ≡ chunk_count n 31 → n / 31 + min 1 (n % 31) ≤ message → length rest ≡ 0
none_left rest message n is end = let count = parts_count n in omega (arith, is, end, count)

pub counted_on : (rest : List PlainState) (message count : ℕ) → 0 < length rest → chunk_count (length rest) 31 + message ≡ count
    → chunk_count (length (drop 31 rest)) 31 + (message + 1) ≡ count
counted_on rest message count some is =
    let one = one_part_more (length rest) some in
    let following = length-drop 31 rest in
    let later : chunk_count (length (drop 31 rest)) 31 ≡ chunk_count (length rest - 31) 31 = ap (λ (n : ℕ). chunk_count n 31) following in
    omega (arith, one, later, is)

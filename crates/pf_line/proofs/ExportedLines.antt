-- The lines of an export are short, and are read as the commands to act on its messages.
use Rattle.std.proofs.{Common.{◌≡◌, ◌<◌, ◌≤◌, ◌/◌, ◌%◌, ℕ, zero, suc, Bool, true, false, not, List, [], ◌∷◌, ◌++◌, length, length-append, map, take, drop, replicate, refl, sym, subst, ap, arith}, lemmas.Bool.{and_parts, lt-ltb}, lemmas.Bool.Decides.nat_tests, lemmas.List.{length-take, take-append-drop}}
use Rattle.std.specs.{Prelude.{codes, nat_lt, slice_index, Option, Some, Result, Ok}, Int.{byte_at, bytes_high_first}, List.{list_all, slice_split, flat_map}}
use Rattle.hex.specs.Hex.{IsBytes, encode_with, encode_lower, lower_digits}
use Rattle.hex.proofs.HexLemmas.{length-encode_with}
use Rattle.pf_addr.specs.Address.{family_of}
use Rattle.pf_form.specs.{Form.{Words.{words_of, is_blank}, Forms.Spells}, Laws.Form.Texts.only}
use Rattle.pf_addr.specs.declared.{addr.Addr.Addr, addr.Addr.TheVariants.{V4, V6}}
use Rattle.pf_rule.specs.declared.{value.direction.Direction.Direction, value.direction.Direction.TheVariants.{In, Out}}
use Rattle.pf_state.specs.declared.peer.message.Message.{Message}
use Rattle.pf_rule.specs.Bytes.{addr_bytes, direction_byte, family_byte}
use Rattle.pf_state.specs.{Peer.Records.{PlainInsert, insert_bytes}, Peer.Written.{Each, message_length, message_bytes, CanBeWritten}, States.PlainState, Failover.Outgoing.{exported_insert, exported_message}, Laws.Failover.IsState}
use Rattle.pf_state.proofs.{Cut.by_parts, ExportParts.export_long, ReadBack.are_inserts}
use Rattle.pf_core.specs.declared.{command.Command.TheVariants.States, command.StateCommand.TheVariants.Peer, reply.Refusal.Refusal}
use Rattle.pf_line.specs.{declared.request.Request.TheVariants.Run, Grammar.{decided, line as grammar, Spoken, Tells}, Lines.{is_line_byte, is_bad_line, line_at, Means, said}, Reply.StateTexts.message_line, Laws.Exports.{TellsOf, ExportsAreRead}}
use Rattle.pf_line.proofs.SpelledStates.{message_spelled, message_meant}

-- ---- its messages are bytes

record AreBytes (bytes : List ℕ) : Type 0 where
  each : IsBytes bytes

none : AreBytes []
none = record { each = λ i. omega arith }

one_more : {b : ℕ} {bs : List ℕ} → b < 256 → AreBytes bs → AreBytes (b ∷ bs)
one_more {b = b} {bs = bs} low are = record { each = at } where
  at : IsBytes (b ∷ bs)
  at zero = low
  at (suc i) = are.each i

tail : (x : ℕ) (xs : List ℕ) → AreBytes (x ∷ xs) → AreBytes xs
tail x xs are = record { each = λ i. are.each (suc i) }

joined : {xs ys : List ℕ} → AreBytes xs → AreBytes ys → AreBytes (xs ++ ys)
joined {xs = xs} {ys = ys} a b = by xs a where
  by : (xs : List ℕ) → AreBytes xs → AreBytes (xs ++ ys)
  by [] a = b
  by (x ∷ xs) a = one_more (a.each 0) (by xs (tail x xs a))

low_byte : (place n : ℕ) → byte_at place n < 256
low_byte zero n = omega arith
low_byte (suc place) n = omega arith

number : (width n : ℕ) → AreBytes (bytes_high_first width n)
number zero n = none
number (suc width) n = one_more (low_byte width n) (number width n)

zeros : (n : ℕ) → AreBytes (replicate n 0)
zeros zero = none
zeros (suc n) = one_more (omega arith) (zeros n)

address : (a : Addr) → AreBytes (addr_bytes a)
address (V4 n) = joined (number 4 n) (zeros 12)
address (V6 n) = number 16 n

way_low : (way : Direction) → direction_byte way < 256
way_low In = omega arith
way_low Out = omega arith

family_low : (a : Addr) → family_byte (family_of a) < 256
family_low (V4 n) = omega arith
family_low (V6 n) = omega arith

insert_is_bytes : (i : PlainInsert) → i.protocol < 256 → AreBytes (insert_bytes i)
insert_is_bytes i low =
    let ports = joined (number 2 i.source_port) (joined (number 2 i.destination_port) (joined (number 4 i.rule) (number 4 i.anchor))) in
    let following = one_more {b = 0} (omega arith) (joined (address i.source) (joined (address i.destination) ports)) in
    let kinds = one_more (way_low i.direction) (one_more (family_low i.source) (one_more low following)) in
    joined (number 8 i.id) (joined (number 4 i.creator) (joined (number 4 i.generation) kinds))

inserts_are_bytes : (current : List ℕ) (es : List PlainState) → Each IsState es → AreBytes (flat_map insert_bytes (map (exported_insert current) es))
inserts_are_bytes current [] each = none
inserts_are_bytes current (s ∷ es) each = joined (insert_is_bytes (exported_insert current s) each.0.flow.protocol.1) (inserts_are_bytes current es each.1)

message_is_bytes : (current : List ℕ) (es : List PlainState) → IsBytes current → Each IsState es → AreBytes (message_bytes (exported_message current es))
message_is_bytes current es are each =
    let counted = number 2 (length (map (exported_insert current) es)) in
    let group = one_more {b = 1} (omega arith) (one_more {b = 0} (omega arith) (joined counted (inserts_are_bytes current es each))) in
    let sum : AreBytes current = record { each = are } in
    one_more {b = 5} (omega arith) (one_more {b = 0} (omega arith) (joined (number 2 (message_length (exported_message current es))) (joined sum (joined group none))))

-- ---- a line in hexadecimal

digit : (p : ℕ → Bool) (ds : List ℕ) → list_all p ds ≡ true → (i : ℕ) → i < length ds → p (slice_index ds i) ≡ true
digit p [] all i low = absurd (omega (arith, low))
digit p (d ∷ ds) all zero low = grind (arith, and_parts, all)
digit p (d ∷ ds) all (suc i) low = digit p ds (grind (arith, and_parts, all)) i (omega (arith, low))

all_digits : (p : ℕ → Bool) → list_all p lower_digits ≡ true → (bytes : List ℕ) → IsBytes bytes → list_all p (encode_lower bytes) ≡ true
unfolding encode_with
all_digits p all [] are = refl
all_digits p all (b ∷ bs) are =
    let low : b < 256 = are 0 in
    rw (digit p lower_digits all (b / 16) (omega (arith, low)), digit p lower_digits all (b % 16) (omega arith)) (all_digits p all bs (λ i. are (suc i)))

not_true : (t : Bool) → not t ≡ true → t ≡ false
not_true true h = absurd (cc (h))
not_true false h = refl

no_blank : (i : ℕ) → i < 16 → is_blank (slice_index lower_digits i) ≡ false
no_blank i low = not_true _ (digit (λ b. not (is_blank b)) lower_digits refl i low)

one_word : (bytes : List ℕ) → IsBytes bytes → slice_split is_blank (encode_lower bytes) ≡ encode_lower bytes ∷ []
unfolding encode_with
one_word [] are = refl
one_word (b ∷ bs) are =
    let low : b < 256 = are 0 in
    rw (no_blank (b / 16) (omega (arith, low)), no_blank (b % 16) (omega arith), one_word bs (λ i. are (suc i))) refl

two_words : (bytes : List ℕ) → IsBytes bytes → 0 < length bytes → words_of (message_line bytes) ≡ codes "peer" ∷ encode_lower bytes ∷ []
two_words bytes are some =
    let word : nat_lt 0 (length (encode_lower bytes)) ≡ true = lt-ltb 0 (length (encode_lower bytes)) (omega (arith, some, length-encode_with lower_digits bytes)) in
    rw (one_word bytes are, word) refl

good_line : (bytes : List ℕ) → IsBytes bytes → length (message_line bytes) ≤ 4096 → is_bad_line (message_line bytes) ≡ false
good_line bytes are short =
    let few : nat_lt 4096 (length (message_line bytes)) ≡ false = grind (arith, nat_tests, short) in
    rw (few, all_digits is_line_byte refl bytes are) refl

line_said : (line bytes text : List ℕ) → is_bad_line line ≡ false → words_of line ≡ codes "peer" ∷ text ∷ [] → Spells grammar (Tells bytes) (codes "peer" ∷ text ∷ []) → line_at line ≡ Ok (Some (Tells bytes))
unfolding line_at
line_said line bytes text good words spelled = rw (good, words) (ap (said 2) (only Spoken grammar decided (codes "peer" ∷ text ∷ []) (Tells bytes) spelled))

line_of_message : (m : Message) → CanBeWritten m → IsBytes (message_bytes m) → length (message_line (message_bytes m)) ≤ 4096 → TellsOf m (message_line (message_bytes m))
line_of_message m can are short =
    let bytes = message_bytes m in
    let at = line_said (message_line bytes) bytes (encode_lower bytes) (good_line bytes are short) (two_words bytes are (omega arith)) (message_spelled m are) in
    record { short = short; means = subst (λ (said : Result (Option Spoken) Refusal). Means said (Ok (Some (Run (States (Peer m)))))) (sym at) (message_meant m can) }

-- ---- an export

halves : (P : PlainState → Type 0) (xs ys : List PlainState) → Each P (xs ++ ys) → Each P xs × Each P ys
halves P [] ys each = (tt, each)
halves P (x ∷ xs) ys each = let both = halves P xs ys each.1 in ((each.0, both.0), both.1)

part_is_read : (current : List ℕ) (es : List PlainState) → length current ≡ 16 → IsBytes current → Each IsState es → length es ≤ 31 → let m = exported_message current es in TellsOf m (message_line (message_bytes m))
part_is_read current es long are each few =
    let m : Message = exported_message current es in
    let size = export_long current es in
    let bytes : length (message_bytes m) ≤ 2008 = omega (arith, size, few, long, length-append {A = ℕ}) in
    line_of_message m (record { checksum = long; groups = (are_inserts current es each, tt); fits = omega (arith, size, few) })
    (message_is_bytes current es are each).each (omega (arith, bytes, length-encode_with lower_digits (message_bytes m)))

pub exports_are_read : ExportsAreRead
exports_are_read current es long are each =
    by_parts (λ fs ps. Each IsState fs → Each (λ m. TellsOf m (message_line (message_bytes m))) (map (exported_message current) ps)) (λ none. tt)
    (λ fs some rest is.
    let both = halves IsState (take 31 fs) (drop 31 fs) (subst (Each IsState) (sym (take-append-drop 31 fs)) is) in
    (part_is_read current (take 31 fs) long are both.0 (omega (arith, length-take 31 fs)), rest both.1)) es each

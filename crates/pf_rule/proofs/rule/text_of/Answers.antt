use Rattle.std.proofs.{Common.{◌≡◌, ◌<◌, ℕ, true, List, [], ◌∷◌, subst, sym, arith}, lemmas.Bool.and_parts, lemmas.Bool.Decides.nat_tests, lemmas.Str.IsUtf8-from_ascii, lemmas.Str.Ascii.{IsAscii-cons, IsAscii-nil}}
use Rattle.std.specs.{List.list_all, Str.IsAscii}
use Rattle.pf_addr.specs.Path.Names.{is_name_byte}
use Rattle.pf_rule.proofs.rule.text_of.Goals as goal

byte_ascii : (b : ℕ) → is_name_byte b ≡ true → b < 128
byte_ascii b e = grind (arith, nat_tests)

-- a label's bytes are ASCII, and so it is text
bytes_ascii : (bs : List ℕ) → list_all is_name_byte bs ≡ true → IsAscii bs
bytes_ascii [] e = IsAscii-nil
bytes_ascii (b ∷ bs) e =
    let both = and_parts (is_name_byte b) (list_all is_name_byte bs) e in
    IsAscii-cons b bs (byte_ascii b both.0) (bytes_ascii bs both.1)

pub returns-in-Err : goal.returns-in-Err
returns-in-Err c =
    let ascii = subst IsAscii (sym c.as_bytes-bytes.ensures.value) (bytes_ascii c.args.label.now c.as_bytes-bytes.ensures.kept.bytes) in
    absurd (c.in-Err.ensures.cases.0 (IsUtf8-from_ascii c.as_bytes-bytes.result.now ascii))

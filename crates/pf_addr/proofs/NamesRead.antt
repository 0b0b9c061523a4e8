-- A word is read as a name exactly where it is one.
use Rattle.std.proofs.{Common.{◌≡◌, ℕ, true, List, arith}, lemmas.Bool.and_parts, lemmas.Bool.Decides.nat_tests, lemmas.List.Sums.{AllPass-from_list_all, list_all-from_AllPass}}
use Rattle.std.specs.{Prelude.nat_lt, List.{list_all, slice_index_or}}
use Rattle.pf_addr.specs.{Path.Names.{is_name_byte, IsName}, Laws.Path.Names.{ReadsANameAlone, ReadsEachName}}

pub name_found : ReadsANameAlone
name_found limit w n e = grind (arith, nat_tests, and_parts)

pub name_only : ReadsEachName
name_only limit n is = grind (arith, nat_tests)

-- ---- a name is a word: each of its bytes is above a space

above_space : (b : ℕ) → is_name_byte b ≡ true → nat_lt 32 b ≡ true
above_space b e = grind (arith, nat_tests)

pub name_bytes : (limit : ℕ) (n : List ℕ) → IsName limit n → list_all (nat_lt 32) n ≡ true
name_bytes limit n is = list_all-from_AllPass (nat_lt 32) n (λ k d lt. above_space (slice_index_or n k d) (AllPass-from_list_all is_name_byte n is.bytes k d lt))

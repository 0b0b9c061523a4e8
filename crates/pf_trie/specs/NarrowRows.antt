-- Rows whose addresses and signs have zeros in their last bits.
use Rattle.std.specs.Prelude.{◌≡◌, ◌*◌, ◌/◌, ◌%◌, ◌^◌}
use Rattle.std.proofs.lemmas.Nat.{shl-shr}
use Rattle.pf_trie.specs.declared.{rows.Row.{Row}, narrow.{TheConstants.{LEFT_OUT}, NarrowRow.TheInside.{Inside}}}

-- the row, by the numbers without these zeros
abbrev pub widened : Inside → Row
widened r = record { first = r.first * 2 ^ LEFT_OUT; signs = record { plain = r.plain * 2 ^ LEFT_OUT; negated = r.negated * 2 ^ LEFT_OUT } }

abbrev pub narrowed : Row → Inside
narrowed r = record { first = r.first / 2 ^ LEFT_OUT; plain = r.signs.plain / 2 ^ LEFT_OUT; negated = r.signs.negated / 2 ^ LEFT_OUT }

-- a row that a narrow one can be: its address and its signs end with these zeros
unfoldable pub IsNarrow : Row → Type 0
IsNarrow r = (r.first % 2 ^ LEFT_OUT ≡ 0) × (r.signs.plain % 2 ^ LEFT_OUT ≡ 0) × (r.signs.negated % 2 ^ LEFT_OUT ≡ 0)

pub narrowed-widened : (r : Inside) → narrowed (widened r) ≡ r
narrowed-widened r = λ i. record {
  first = shl-shr r.first LEFT_OUT i;
  plain = shl-shr r.plain LEFT_OUT i;
  negated = shl-shr r.negated LEFT_OUT i;
}

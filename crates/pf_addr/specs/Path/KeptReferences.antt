-- How a reference is stored: its names, then zeros up to the limit.
use Rattle.std.specs.Prelude.{◌≡◌, ℕ, ◌-◌, ◌≤◌, ◌++◌, Bool, List, take, length, replicate}
use Rattle.std.proofs.{Common.{ap, ◌∙◌, sym, arith}, lemmas.List.length-take-le}
use Rattle.pf_addr.specs.declared.{path.reference.Reference.TheInside.Inside, path.limits.TheConstants.REFERENCE_LIMIT}
use Rattle.pf_addr.specs.{Path.References.{PlainReference, refers}, Path.ReferenceGrammar.IsReference}

abbrev pub names_kept : Inside → List ℕ
names_kept n = take n.len n.bytes

abbrev pub reference_kept : Inside → PlainReference
reference_kept n = refers (names_kept n) n.wildcard

pub record IsKept (n : Inside) : Type 0 where
  pub reference : IsReference (reference_kept n)
  pub whole : length n.bytes ≡ REFERENCE_LIMIT
  pub len : n.len ≤ REFERENCE_LIMIT
  pub zeros : n.bytes ≡ names_kept n ++ replicate (REFERENCE_LIMIT - n.len) 0

abbrev pub inside : List ℕ → ℕ → Bool → Inside
inside bytes len wildcard = record { bytes = bytes; len = len; wildcard = wildcard }

abbrev pub inside_of : PlainReference → Inside
inside_of r = inside (r.names ++ replicate (REFERENCE_LIMIT - length r.names) 0) (length r.names) r.wildcard

pub inside_of-kept : (n : Inside) → IsKept n → inside_of (reference_kept n) ≡ n
inside_of-kept n is =
    let len : length (names_kept n) ≡ n.len = length-take-le n.len n.bytes (omega (arith, is.len, is.whole)) in
    ap (λ (l : ℕ). inside (names_kept n ++ replicate (REFERENCE_LIMIT - l) 0) l n.wildcard) len ∙ ap
    (λ (bs : List ℕ). inside bs n.len n.wildcard) (sym is.zeros)

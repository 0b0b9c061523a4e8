-- How a name is stored: its bytes, then zeros up to the limit.
use Rattle.std.specs.Prelude.{◌≡◌, ℕ, ◌-◌, ◌≤◌, ◌++◌, List, take, length, replicate}
use Rattle.std.proofs.{Common.{ap, ◌∙◌, sym, arith}, lemmas.List.length-take-le}
use Rattle.pf_addr.specs.declared.path.name.Name.TheInside.{Inside}
use Rattle.pf_addr.specs.Path.Names.{IsName}

module _ (limit : ℕ) where
  abbrev pub name_kept : Inside limit → List ℕ
  name_kept n = take n.len n.bytes

  pub record IsKept (n : Inside limit) : Type 0 where
    pub name : IsName limit (name_kept n)
    pub whole : length n.bytes ≡ limit
    pub len : n.len ≤ limit
    pub zeros : n.bytes ≡ name_kept n ++ replicate (limit - n.len) 0

  abbrev pub inside : List ℕ → ℕ → Inside limit
  inside bytes len = record { bytes = bytes; len = len }

  abbrev pub inside_of : List ℕ → Inside limit
  inside_of name = inside (name ++ replicate (limit - length name) 0) (length name)

  pub inside_of-kept : (n : Inside limit) → IsKept n → inside_of (name_kept n) ≡ n
  inside_of-kept n is =
      let len : length (name_kept n) ≡ n.len = length-take-le n.len n.bytes (omega (arith, is.len, is.whole)) in
      ap (λ (l : ℕ). inside (name_kept n ++ replicate (limit - l) 0) l) len ∙ ap (λ (bs : List ℕ). inside bs n.len) (sym is.zeros)

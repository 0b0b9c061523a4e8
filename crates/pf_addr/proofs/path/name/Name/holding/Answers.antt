use Rattle.std.proofs.{Common.{◌≡◌, ℕ, ◌-◌, List, ◌++◌, length, drop, refl, sym, ap, subst, arith}, lemmas.List.{take_at, drop-replicate, length-append, length-replicate}}
use Rattle.std.specs.Prelude.{replicate}
use Rattle.pf_addr.specs.{Path.Names.IsName, Path.KeptNames.{IsKept, inside}}
use Rattle.pf_addr.proofs.path.name.Name.holding.Goals as goal

kept : (limit : ℕ) (name front : List ℕ) → front ≡ name → IsName limit name → IsKept limit (inside limit (front ++ drop (length name) (replicate limit 0)) (length name))
kept limit name front e is =
    let zeros : List ℕ = replicate (limit - length name) 0 in
    let same = take_at name zeros (length name) refl in
    rw (e, drop-replicate {X = ℕ} (length name) limit 0) (record {
      name = subst (IsName limit) (sym same) is;
      whole = omega (arith, is.short, length-append name zeros, length-replicate {A = ℕ} (limit - length name) 0);
      len = is.short;
      zeros = ap (λ (n : List ℕ). n ++ zeros) (sym same);
    })

pub invariant_of-result : goal.invariant_of-result
invariant_of-result g c = kept g.row.LIMIT c.args.name.now c.copy_from_slice.new.self c.copy_from_slice.ensures.after c.requires.name

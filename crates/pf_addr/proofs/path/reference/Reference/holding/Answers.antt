use Rattle.std.proofs.{Common.{◌≡◌, ℕ, ◌-◌, ◌≤◌, Bool, List, ◌++◌, length, drop, refl, sym, ap, subst, arith}, lemmas.List.{take_at, drop-replicate, length-append, length-replicate}}
use Rattle.std.specs.Prelude.{replicate, if◌then◌else◌, []}
use Rattle.pf_addr.specs.{Path.References.{refers, ending}, Path.ReferenceGrammar.IsReference, Path.KeptReferences.{IsKept, inside}}
use Rattle.pf_addr.proofs.path.reference.Reference.holding.Goals as goal

kept : (names front : List ℕ) (wildcard : Bool) → front ≡ names → IsReference (refers names wildcard) → IsKept (inside (front ++ drop (length names) (replicate 63 0)) (length names) wildcard)
kept names front wildcard e is =
    let zeros : List ℕ = replicate (63 - length names) 0 in
    let same = take_at names zeros (length names) refl in
    let short : length names ≤ 63 = omega (arith, is.short, length-append names (if wildcard then ending else [])) in
    rw (e, drop-replicate {X = ℕ} (length names) 63 0) (record {
      reference = subst (λ (n : List ℕ). IsReference (refers n wildcard)) (sym same) is;
      whole = omega (arith, short, length-append names zeros, length-replicate {A = ℕ} (63 - length names) 0);
      len = short;
      zeros = ap (λ (n : List ℕ). n ++ zeros) (sym same);
    })

pub invariant_of-result : goal.invariant_of-result
invariant_of-result c = kept c.args.names.now c.copy_from_slice.new.self c.args.wildcard c.copy_from_slice.ensures.after c.requires

-- An export is cut into parts that are all full but the last.
use Rattle.std.proofs.{Common.{◌≡◌, ◌<◌, ◌≤◌, ℕ, zero, suc, List, [], ◌∷◌, ◌++◌, length, map, take, drop, refl, sym, subst, ap, ◌∙◌, arith}, lemmas.List.{length-take, length-drop, length-map, take-append-drop}}
use Rattle.std.specs.{Simd.first_chunks, Slice.Iter.chunk_count}
use Rattle.pf_state.specs.{Peer.Written.Each, States.PlainState, Failover.Outgoing.{exported_insert, exported_message, parts}, Laws.Failover.{AreFullButLast, AreParts, CutsIntoParts, IsExported, ExportsMessages}}
use Rattle.pf_state.proofs.ExportParts.{next_part, export_long}

-- what holds for no states, and for states if it holds for those after their first part, holds for all states with their parts
pub by_parts : (P : List PlainState → List (List PlainState) → Type 0) → P [] []
    → ((es : List PlainState) → 0 < length es → P (drop 31 es) (parts (drop 31 es)) → P es (take 31 es ∷ parts (drop 31 es)))
    → (es : List PlainState) → P es (parts es)
by_parts P none some es = up_to (length es) es (omega arith) where
  up_to : (n : ℕ) (es : List PlainState) → length es ≤ n → P es (parts es)
  up_to n [] few = none
  up_to zero (s ∷ es) few = absurd (omega (arith, few))
  up_to (suc n) (s ∷ es) few =
      subst (λ (ps : List (List PlainState)). P (s ∷ es) ps) (sym (next_part (s ∷ es) (omega arith)))
      (some (s ∷ es) (omega arith) (up_to n (drop 31 (s ∷ es)) (omega (arith, few, length-drop 31 (s ∷ es)))))

length_chunks : (k : ℕ) (es : List PlainState) → length (first_chunks 31 k es) ≡ k
length_chunks zero es = refl
length_chunks (suc k) es = ap (λ (j : ℕ). suc j) (length_chunks k (drop 31 es))

-- if a part follows, this one is full
full_before : (es : List PlainState) → 0 < length (parts (drop 31 es)) → length (take 31 es) ≡ 31
full_before es more = omega (arith, more, length_chunks (chunk_count (length (drop 31 es)) 31) (drop 31 es), length-drop 31 es, length-take 31 es)

part_some : (es : List PlainState) → 0 < length es → 1 ≤ length (take 31 es)
part_some es some = omega (arith, some, length-take 31 es)

part_few : (es : List PlainState) → length (take 31 es) ≤ 31
part_few es = omega (arith, length-take 31 es)

one_more : (p : List PlainState) (ps : List (List PlainState)) → 1 ≤ length p → length p ≤ 31 → (0 < length ps → length p ≡ 31) → AreFullButLast ps → AreFullButLast (p ∷ ps)
one_more p [] some few full rest = (some, few)
one_more p (q ∷ ps) some few full rest = (full (omega arith), rest)

pub cuts_into_parts : CutsIntoParts
cuts_into_parts = by_parts AreParts (record { joined = refl; full = tt }) (λ es some rest. record {
  joined = ap (λ (l : List PlainState). take 31 es ++ l) rest.joined ∙ take-append-drop 31 es;
  full = one_more (take 31 es) (parts (drop 31 es)) (part_some es some) (part_few es) (full_before es) rest.full;
})

is_exported : (current : List ℕ) (p : List PlainState) → 1 ≤ length p → length p ≤ 31 → IsExported current (exported_message current p)
is_exported current p some few = record {
  checksum = refl;
  inserts = map (exported_insert current) p;
  one_group = refl;
  some = omega (arith, some, length-map p (exported_insert current));
  few = omega (arith, few, length-map p (exported_insert current));
  fits = omega (arith, few, export_long current p);
}

pub exports_messages : ExportsMessages
exports_messages current = by_parts (λ es ps. Each (IsExported current) (map (exported_message current) ps)) tt
    (λ es some rest. (is_exported current (take 31 es) (part_some es some) (part_few es), rest))

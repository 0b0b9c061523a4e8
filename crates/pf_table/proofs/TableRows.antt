-- A table's entries, one after the other, can be written in bytes, and entries that are read in order are a table's.
use Rattle.std.proofs.Common.{◌≡◌, ◌&&◌, suc, T, Bool, true, false, List, [], ◌∷◌, refl, sym, ◌∙◌, arith}
use Rattle.std.specs.{Prelude.map, List.{All, AllByRecursion}, Ordering.is_lt, FinMap.is_sorted, FinMap.Entries.below_all, declared.cmp.Ordering.{Ordering, TheVariants.Less}}
use Rattle.std.proofs.lemmas.List.{length-map}
use Rattle.pf_addr.specs.Address.{PlainNet, IsNetwork}
use Rattle.pf_form.specs.Bytes.{Forms.Fits, Lists.{ordered, in_order}}
use Rattle.pf_table.specs.{Entries.PlainEntry, Tables.IsTable, EntryForms.{entry, plain_entry, entry_before}, Laws.EntryForms.{entry_fits, entry_again}}
use Rattle.pf_addr.specs.{NetOrder.net_order, Laws.NetOrder.net_total}
use Rattle.pf_map.proofs.Tests.{true_of, first_of, second_of, less_of}
use Rattle.std.proofs.lemmas.Bool.{and_parts, and_from}

each_fits : (es : List PlainEntry) → All (λ e. IsNetwork e.0) es → AllByRecursion (Fits entry) (map plain_entry es)
each_fits [] all = tt
each_fits (e ∷ es) all = (entry_fits e (all 0 e (omega arith)), each_fits es (λ k d lt. all (suc k) d (omega (arith, lt))))

before_is : (e f : PlainEntry) → entry_before (plain_entry e) (plain_entry f) ≡ is_lt (net_order e.0 f.0)
before_is e f = λ i. is_lt (net_order (entry_again e i).0 (entry_again f i).0)

in_turn : (es : List PlainEntry) → T (is_sorted net_order es) → in_order entry_before (map plain_entry es) ≡ true
in_turn [] s = refl
in_turn (e ∷ []) s = refl
in_turn (e ∷ f ∷ es) s =
    let less : is_lt (net_order e.0 f.0) ≡ true = true_of _ (first_of _ _ (first_of _ _ s)) in
    and_from (entry_before (plain_entry e) (plain_entry f)) (in_order entry_before (map plain_entry (f ∷ es))) (before_is e f ∙ less) (in_turn (f ∷ es) (second_of _ _ s))

pub table_fits : (es : List PlainEntry) → IsTable es → Fits (ordered entry_before 4 entry) (map plain_entry es)
table_fits es is = ((omega (arith, is.few, length-map es plain_entry), each_fits es is.networks), in_turn es is.sorted)

-- ---- what is read

less_is : (o : Ordering) → is_lt o ≡ true → o ≡ Less
less_is o e = less_of o (by (is_lt o) e) where
  by : (b : Bool) → b ≡ true → T b
  by true e = tt
  by false e = absurd cc

below_rest : (x : PlainNet) (e : PlainEntry) (es : List PlainEntry) → net_order x e.0 ≡ Less → T (below_all net_order e.0 es) → T (below_all net_order x es)
below_rest x e [] less h = tt
below_rest x e (f ∷ es) less h =
    let next : net_order x f.0 ≡ Less = net_total.trans x e.0 f.0 less (less_of _ (first_of _ _ h)) in
    rw next (below_rest x e es less (second_of _ _ h))

pub in_order_is : (es : List PlainEntry) → in_order entry_before (map plain_entry es) ≡ true → T (is_sorted net_order es)
in_order_is [] e = tt
in_order_is (x ∷ []) e = tt
in_order_is (x ∷ y ∷ es) e =
    let parts = and_parts (entry_before (plain_entry x) (plain_entry y)) (in_order entry_before (map plain_entry (y ∷ es))) e in
    let less = less_is _ (sym (before_is x y) ∙ parts.0) in
    let rest = in_order_is (y ∷ es) parts.1 in
    rw less (by _ _ (below_rest x.0 y es less (first_of _ _ rest)) rest) where
      by : (a b : Bool) → T a → T b → T (a && b)
      by true b p q = q
      by false b p q = absurd p

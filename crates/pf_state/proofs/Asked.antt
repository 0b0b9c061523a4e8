-- A message asks for a step for each record, and inserts nothing that is due.
use Rattle.std.proofs.{Common.{◌≡◌, ◌∙◌, ◌||◌, ℕ, Bool, false, List, [], ◌∷◌, length, ap, refl}, lemmas.List.length-map, lemmas.List.Concat.length-flat_map, lemmas.List.Folds.list_any-append}
use Rattle.std.specs.{Prelude.map, List.{flat_map, sum_by}}
use Rattle.pf_state.specs.{declared.{peer.message.Group.Group, peer.message.Group.TheVariants.Inserts, peer.message.Group.TheVariants.Deletes, peer.message.Group.TheVariants.Clears}, Failover.Incoming.{insert_step, delete_step, clear_step, group_steps}, Laws.Failover.{record_count, OneStepForEach, InsertsNothingDue}, Peer.Records.PlainInsert, Steps.{inserts_due, any_inserts_due}}
use Rattle.pf_state.specs.declared.{peer.record.Clear.Clear as ClearRecord, peer.record.Delete.Delete as DeleteRecord}

of_group : (sum current : List ℕ) (count : ℕ) (g : Group) → length (group_steps sum current count g) ≡ record_count g
of_group sum current count (Inserts xs) = length-map xs (insert_step sum current count)
of_group sum current count (Deletes xs) = length-map xs delete_step
of_group sum current count (Clears xs) = length-map xs clear_step

pub one_step_for_each : OneStepForEach
one_step_for_each m current count =
    length-flat_map (group_steps m.checksum current count) m.groups ∙ ap (λ (size : Group → ℕ). sum_by size m.groups) (λ i g. of_group m.checksum current count g i)

inserts_none : (tick : ℕ) (sum current : List ℕ) (count : ℕ) (xs : List PlainInsert) → any_inserts_due tick (map (insert_step sum current count) xs) ≡ false
inserts_none tick sum current count [] = refl
inserts_none tick sum current count (x ∷ xs) = inserts_none tick sum current count xs

deletes_none : (tick : ℕ) (xs : List DeleteRecord) → any_inserts_due tick (map delete_step xs) ≡ false
deletes_none tick [] = refl
deletes_none tick (x ∷ xs) = deletes_none tick xs

clears_none : (tick : ℕ) (xs : List ClearRecord) → any_inserts_due tick (map clear_step xs) ≡ false
clears_none tick [] = refl
clears_none tick (x ∷ xs) = clears_none tick xs

group_none : (tick : ℕ) (sum current : List ℕ) (count : ℕ) (g : Group) → any_inserts_due tick (group_steps sum current count g) ≡ false
group_none tick sum current count (Inserts xs) = inserts_none tick sum current count xs
group_none tick sum current count (Deletes xs) = deletes_none tick xs
group_none tick sum current count (Clears xs) = clears_none tick xs

groups_none : (tick : ℕ) (sum current : List ℕ) (count : ℕ) (gs : List Group) → any_inserts_due tick (flat_map (group_steps sum current count) gs) ≡ false
groups_none tick sum current count [] = refl
groups_none tick sum current count (g ∷ gs) =
    list_any-append (inserts_due tick) (group_steps sum current count g) (flat_map (group_steps sum current count) gs)
    ∙ ap (λ (b : Bool). b || any_inserts_due tick (flat_map (group_steps sum current count) gs)) (group_none tick sum current count g)
    ∙ groups_none tick sum current count gs

pub inserts_nothing_due : InsertsNothingDue
inserts_nothing_due tick m current count = groups_none tick m.checksum current count m.groups

-- The bank that a switch begins.
use Rattle.std.proofs.Common.{◌≡◌, ℕ, ◌+◌, List, [], ◌∷◌, ◌++◌, length, sym, ◌∙◌, ap, arith, length-append}
use Rattle.pf_snap.specs.{Banks.{front, header, bank_after_gate}, Ready.IsNext, declared.{header.TheConstants.{BANK_HEADER, NEWEST}, next_bank.NextBank.NextBank}}
use Rattle.pf_core.specs.Durable.Changes.{PlainDurable}
use Rattle.pf_store.specs.{Lengths.snapshot_length, Snapshots.{EndsInSnapshot, IsBankOf}}
use Rattle.pf_store.proofs.Sized.{snapshot_long}

-- a front for a snapshot of n bytes, the snapshot, and the gate
pub bank_of : (generation : ℕ) (d : PlainDurable) (bank : NextBank) (n : ℕ) (started pushed : List ℕ) → n ≡ snapshot_length d → started ≡ front NEWEST (generation + 1) n
    → EndsInSnapshot NEWEST d started pushed → bank.after_gate.items ≡ pushed ++ 0 ∷ [] → bank.length ≡ n → IsBankOf generation bank d
bank_of generation d bank n started pushed long begins ends closed is_long =
    let same : length ends.snapshot ≡ n = snapshot_long NEWEST d ends.snapshot ends.written ∙ sym long in
    let begun : started ≡ front NEWEST (generation + 1) (length ends.snapshot) = begins ∙ ap (front NEWEST (generation + 1)) (sym same) in
    record {
      snapshot = ends.snapshot;
      written = ends.written;
      next = record {
        after_gate = closed ∙ ap (λ (l : List ℕ). l ++ 0 ∷ []) (ends.appended ∙ ap (λ (l : List ℕ). l ++ ends.snapshot) begun);
        long = is_long ∙ sym same;
      };
    }

pub bank_long : (generation : ℕ) (d : PlainDurable) (bank : NextBank) → IsBankOf generation bank d → length bank.after_gate.items ≡ BANK_HEADER + snapshot_length d
bank_long generation d bank is =
    let s = is.snapshot in
    let begun = front NEWEST (generation + 1) (length s) in
    omega (arith, ap length is.next.after_gate, length-append (begun ++ s) (0 ∷ []), length-append begun s, snapshot_long NEWEST d s is.written)

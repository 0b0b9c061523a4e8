-- A record whose payload was pushed after the four bytes of its length.
use Rattle.std.proofs.Common.{◌≡◌, ◌+◌, ◌++◌, ℕ, List, length, drop, ◌∙◌, ap, subst, arith, length-append}
use Rattle.std.proofs.lemmas.List.{drop_at}
use Rattle.pf_journal.specs.{Journal.IsOf, declared.journal.Record.Record}
use Rattle.pf_store.specs.{declared.encoding.recorded.Recorded.Recorded, Groups.{IsRecorded, IsRecordOf}, Lengths.payload_length}
use Rattle.pf_store.proofs.Sized.{payload_long}

module _ (version : ℕ) (rs : List Recorded) (front payload out : List ℕ) (four : length front ≡ 4) (is : out ≡ front ++ payload) (recorded : IsRecorded version rs payload) where
  pub pushed_long : length out ≡ 4 + payload_length rs
  pushed_long = omega (arith, ap length is, length-append front payload, four, payload_long version rs payload recorded)

  pub recorded_by : (whole : Record) → IsOf (drop 4 out) whole → IsRecordOf version rs whole
  recorded_by whole of_rest = record {
    payload = payload;
    is = subst (λ (l : List ℕ). IsOf l whole) (ap (drop 4) is ∙ drop_at front payload 4 four) of_rest;
    recorded = recorded;
  }

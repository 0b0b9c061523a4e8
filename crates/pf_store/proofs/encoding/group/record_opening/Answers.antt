use Rattle.std.proofs.Common.{◌≡◌, ◌+◌, ℕ, List, [], ◌∷◌, ◌++◌, refl, ◌∙◌, ap, arith, append_assoc}
use Rattle.pf_form.specs.Bytes.BasicForms.{number_bytes}
use Rattle.pf_store.specs.declared.encoding.recorded.Recorded.TheVariants.{Opens}
use Rattle.pf_store.proofs.{Recording.{pushed_long, recorded_by}, Sized.{opening_long}, RecordedForms.{opening_pushed}}
use Rattle.pf_store.proofs.encoding.group.record_opening.Goals as goal

abbrev opening : ℕ → List ℕ
opening epoch = 1 ∷ 7 ∷ [] ++ number_bytes 4 epoch

-- what comes after the bytes of the length
pushed : (epoch : ℕ) (front mid out : List ℕ) → mid ≡ front ++ 1 ∷ 7 ∷ [] → out ≡ mid ++ number_bytes 4 epoch → out ≡ front ++ opening epoch
pushed epoch front mid out first second = second ∙ ap (λ (l : List ℕ). l ++ number_bytes 4 epoch) first ∙ append_assoc front (1 ∷ 7 ∷ []) (number_bytes 4 epoch)

pub close-requires : goal.close-requires
close-requires c =
    let front = c.in_ok-record.record.after_gate.items in
    let out = c.push_u32.new.out.items in
    let is = pushed c.args.epoch front c.push_bytes.new.out.items out c.in_ok-push_bytes.ensures.constant c.in_ok-push_u32.ensures in
    let long = pushed_long 1 (Opens c.args.epoch ∷ []) front (opening c.args.epoch) out c.in_ok-record.ensures is (opening_pushed 1 c.args.epoch (opening c.args.epoch) (omega arith) refl) in
    record { begun = omega (arith, long); short = omega (arith, long, opening_long c.args.epoch) }

pub returns-clause-made : goal.returns-clause-made
returns-clause-made c version =
    let front = c.in_ok-record.record.after_gate.items in
    let out = c.push_u32.new.out.items in
    let is = pushed c.args.epoch front c.push_bytes.new.out.items out c.in_ok-push_bytes.ensures.constant c.in_ok-push_u32.ensures in
    recorded_by version (Opens c.args.epoch ∷ []) front (opening c.args.epoch) out c.in_ok-record.ensures is (opening_pushed version c.args.epoch (opening c.args.epoch) (omega arith) refl) c.close.new.self c.in_ok-close.ensures.closed

pub returns-clause-long : goal.returns-clause-long
returns-clause-long c =
    let front = c.in_ok-record.record.after_gate.items in
    let out = c.push_u32.new.out.items in
    let is = pushed c.args.epoch front c.push_bytes.new.out.items out c.in_ok-push_bytes.ensures.constant c.in_ok-push_u32.ensures in
    let long = pushed_long 1 (Opens c.args.epoch ∷ []) front (opening c.args.epoch) out c.in_ok-record.ensures is (opening_pushed 1 c.args.epoch (opening c.args.epoch) (omega arith) refl) in
    omega (arith, c.in_ok-close.ensures.long, long, opening_long c.args.epoch)

use Rattle.std.proofs.Common.{◌≡◌, [], List, ℕ, sym, ap, ◌∙◌}
use Rattle.pf_tokens.specs.Places.{shown}
use Rattle.pf_tokens.proofs.Shown.{shown-text, shown-none}
use Rattle.pf_tokens.proofs.items.ItemsU8Display.fmt.Goals as goal

pub returns-in-Ok-clause-writes : goal.returns-in-Ok-clause-writes
returns-in-Ok-clause-writes g c =
    let cases = c.in-Ok.ensures.cases in
    let reported : shown c.args.self.now ≡ c.in-Ok.text.now = ap (λ (bytes : List ℕ). shown bytes) (sym c.as_slice.ensures) ∙ shown-text c.as_slice.result.now cases.1 ∙ sym cases.0 in
    rw reported c.write_str.ensures.writes

pub returns-in-Err-clause-writes : goal.returns-in-Err-clause-writes
returns-in-Err-clause-writes g c =
    let reported : shown c.args.self.now ≡ [] = ap (λ (bytes : List ℕ). shown bytes) (sym c.as_slice.ensures) ∙ shown-none c.as_slice.result.now c.in-Err.ensures.cases.0 in
    rw reported c.write_str-in-Err.ensures.writes

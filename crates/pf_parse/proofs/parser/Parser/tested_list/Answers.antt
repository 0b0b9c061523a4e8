use Rattle.std.proofs.{Common.{◌≡◌, ℕ, ◌+◌, ◌-◌, [], List, length, sym, ap, ◌∙◌, arith}, lemmas.Result.err_from_is_err_and}
use Rattle.pf_parse.specs.Reading.{Word}
use Rattle.pf_parse.specs.Reading.{repeating}
use Rattle.pf_parse.specs.Lists.{item_more, listed_item, tested}
use Rattle.pf_parse.proofs.Turns.{list_begun, turn_stops, stops_on}
use Rattle.pf_parse.proofs.parser.Parser.tested_list.Goals as goal

pub loop-init : goal.loop-init
loop-init c =
    let all : c.turns-end.result - 0 ≡ length c.begin_list.new.self.left + 1 = omega arith in
    rw c.new-list.ensures (ap (λ (n : ℕ). repeating (item_more (listed_item (tested c.args.what))) n [] c.begin_list.new.self) all
    ∙ sym (list_begun (listed_item (tested c.args.what)) c.args.self.now c.begin_list.new.self c.in_ok-begin_list.ensures))

pub returns-in_err-tested_more : goal.returns-in_err-tested_more
returns-in_err-tested_more c =
    let p = err_from_is_err_and c.from_residual-in_err-tested_more.result c.from_residual-in_err-tested_more.ensures.1 in
    rw (p.1, p.2)
    (stops_on (List (List Word)) c.in_err-tested_more.field-0.0 _ _ _ _ _ c.in_err-tested_more.ensures
    (λ d is. sym c.loop.invariant ∙ turn_stops (item_more (listed_item (tested c.args.what))) c.turns-end.result c.loop.counter c.loop.list c.loop.self d (omega arith) is))

use Rattle.std.proofs.Common.{◌≡◌, arith}
use Rattle.std.proofs.lemmas.Result.{err_from_is_err_and}
use Rattle.pf_lists.specs.Product.{count}
use Rattle.pf_lists.proofs.Turns.{too_many, few_stop, none_left, some_left}
use Rattle.pf_lists.proofs.rules.multiply.Goals as goal

pub returns-then-ways-gt-COMBINATION_LIMIT : goal.returns-then-ways-gt-COMBINATION_LIMIT
returns-then-ways-gt-COMBINATION_LIMIT c =
    rw c.as_slice-lists.ensures at (too_many c.as_slice-lists.result.now c.count_of-ways.result c.count_of-ways.ensures c.if-ways-gt-COMBINATION_LIMIT.true)

pub returns-in_err-rules : goal.returns-in_err-rules
returns-in_err-rules c =
    let is : c.count_of-ways.result ≡ count c.as_slice-lists.result.now = omega arith in
    let p = err_from_is_err_and c.from_residual.result c.from_residual.ensures.1 in
    rw (p.1, p.2) (rw c.as_slice-lists.ensures at (few_stop c.as_slice-lists.result.now c.count_of-ways.result c.in_err-rules.field-0.0 is c.if-ways-gt-COMBINATION_LIMIT.false c.in_err-rules.ensures))

pub returns-then-len-eq0 : goal.returns-then-len-eq0
returns-then-len-eq0 c =
    let is : c.count_of-ways.result ≡ count c.as_slice-lists.result.now = omega arith in
    rw c.as_slice-lists.ensures at (none_left c.as_slice-lists.result.now c.count_of-ways.result c.in_ok-rules.rules is c.if-ways-gt-COMBINATION_LIMIT.false c.in_ok-rules.ensures (omega arith))

pub returns : goal.returns
returns c =
    let is : c.count_of-ways.result ≡ count c.as_slice-lists.result.now = omega arith in
    rw c.as_slice-lists.ensures at (some_left c.as_slice-lists.result.now c.count_of-ways.result c.in_ok-rules.rules is c.if-ways-gt-COMBINATION_LIMIT.false c.in_ok-rules.ensures (omega arith))

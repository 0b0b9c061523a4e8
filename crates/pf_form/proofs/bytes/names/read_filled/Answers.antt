use Rattle.std.proofs.Common.{drop, sym, ap, arith, ◌∙◌}
use Rattle.std.specs.{Prelude.nat_lt, List.prefix_len}
use Rattle.pf_form.specs.Bytes.Names.{are_zeros}
use Rattle.pf_form.proofs.BytesFilled.{padded_short, padded_bad, padded_at, name_at}
use Rattle.pf_form.proofs.bytes.names.read_filled.Goals as goal

pub returns-then-left-width-clause-read : goal.returns-then-left-width-clause-read
returns-then-left-width-clause-read c = padded_short c.args.width c.args.from.now.now (omega arith)

pub returns-then-not-are_zeros-clause-read : goal.returns-then-not-are_zeros-clause-read
returns-then-not-are_zeros-clause-read c = padded_bad c.args.width c.name_length.result c.args.from.now.now (omega arith) (c.name_length.ensures.length ∙ ap (prefix_len (nat_lt 0)) c.split_at.ensures.front)
    (ap are_zeros (sym (c.split_at-2.ensures.back ∙ ap (drop c.name_length.result) c.split_at.ensures.front)) ∙ sym c.are_zeros.ensures ∙ c.if-not-are_zeros.true)

pub returns-clause-read : goal.returns-clause-read
returns-clause-read c = rw (c.split_at-2.ensures.front, c.split_at.ensures.front, c.split_at.ensures.back)
    (padded_at c.args.width c.name_length.result c.args.from.now.now (omega arith) (c.name_length.ensures.length ∙ ap (prefix_len (nat_lt 0)) c.split_at.ensures.front) (omega (arith, c.name_length.ensures.within, c.split_at.ensures.front_len))
    (ap are_zeros (sym (c.split_at-2.ensures.back ∙ ap (drop c.name_length.result) c.split_at.ensures.front)) ∙ sym c.are_zeros.ensures ∙ c.if-not-are_zeros.false))

pub returns-clause-name : goal.returns-clause-name
returns-clause-name c = rw (c.split_at-2.ensures.front, c.split_at.ensures.front)
    (name_at c.args.width c.name_length.result c.args.from.now.now (omega arith) (c.name_length.ensures.length ∙ ap (prefix_len (nat_lt 0)) c.split_at.ensures.front) (omega (arith, c.name_length.ensures.within, c.split_at.ensures.front_len))
    (ap are_zeros (sym (c.split_at-2.ensures.back ∙ ap (drop c.name_length.result) c.split_at.ensures.front)) ∙ sym c.are_zeros.ensures ∙ c.if-not-are_zeros.false))

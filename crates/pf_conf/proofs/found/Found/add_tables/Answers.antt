use Rattle.std.proofs.Common.{suc, ◌<◌, ◌≤◌, length, Some, None, Err, refl, sym, ap, ◌∙◌, arith}
use Rattle.std.proofs.lemmas.{Bool.{leb-true, leb-false}, Option.{slice_get_past, slice_get_read}, Result.err_from_is_err_and}
use Rattle.pf_parse.specs.declared.{fault.Mistake.TheVariants.TableTwice}
use Rattle.pf_parse.specs.{Stops.fault_at, Reading.Word}
use Rattle.pf_conf.proofs.Defined.{one_stops, then_again}
use Rattle.pf_conf.proofs.found.Found.add_tables.Goals as goal

pub returns-in_err-add_each_table : goal.returns-in_err-add_each_table
returns-in_err-add_each_table c =
    let p = err_from_is_err_and c.from_residual-in_err-add_each_table.result c.from_residual-in_err-add_each_table.ensures.1 in
    rw (p.1, p.2)
    (one_stops c.args.files.now c.args.path.now c.args.tables.now c.args.self.now _ _ c.in_ok-once.once c.in_err-add_each_table.field-0.0 c.in_ok-once.ensures.once c.in_err-add_each_table.ensures)

pub returns-in_default : goal.returns-in_default
returns-in_default c =
    let past : length c.args.tables.now ≤ c.in_ok-once.once = omega (arith, leb-false (suc c.in_ok-once.once) (length c.args.tables.now) (sym c.in_default.ensures.lookup.0)) in
    then_again c.args.files.now c.args.path.now c.args.tables.now c.args.self.now c.add_each_table.new.self c.in_ok-once.once None c.in_ok-once.ensures.once c.in_ok-add_each_table.ensures
    (slice_get_past c.args.tables.now c.in_ok-once.once past)

pub returns : goal.returns
returns c =
    let within : c.in_ok-once.once < length c.args.tables.now = omega (arith, leb-true (suc c.in_ok-once.once) (length c.args.tables.now) (sym c.in-Some.ensures.lookup.0)) in
    rw c.refusal.ensures
    (then_again c.args.files.now c.args.path.now c.args.tables.now c.args.self.now c.add_each_table.new.self c.in_ok-once.once (Some c.in-Some.again.now) c.in_ok-once.ensures.once c.in_ok-add_each_table.ensures
    (slice_get_read c.args.tables.now (length c.args.tables.now) c.in_ok-once.once c.in-Some.again.now refl within c.in-Some.ensures.lookup.1)
    ∙ ap (λ (name : Word). Err (fault_at c.in-Some.again.now.place (TableTwice name))) (sym (c.in_ok-name.ensures ∙ c.as_slice.ensures)))

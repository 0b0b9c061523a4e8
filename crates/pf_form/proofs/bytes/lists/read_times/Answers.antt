use Rattle.std.proofs.{Common.{◌≡◌, ◌++◌, ◌∷◌, [], ap, ◌∙◌}, lemmas.Result.err_from_is_err_and, lemmas.List.map_push}
use Rattle.std.specs.Prelude.{map}
use Rattle.pf_form.specs.{Bytes.BasicForms.times_by, Bytes.Forms.reads}
use Rattle.pf_form.proofs.BytesInTurn.{goes_on, stops}
use Rattle.pf_form.proofs.bytes.lists.read_times.Goals as goal

pub returns-in_err-item : goal.returns-in_err-item
returns-in_err-item g c =
    let plain = g.T.Layout.plain in
    let read = reads (g.T.Layout.form c.args.version) in
    let p = err_from_is_err_and c.from_residual.result c.from_residual.ensures.1 in
    rw (p.1, p.2) (stops read c.in_err-item.field-0.0 (map plain c.loop.items.items) c.args.count c.loop.counter c.loop.from.now (times_by c.args.count read c.args.from.now.now) c.loop-test.true c.in_err-item.ensures c.loop.invariant)

pub loop-preserved : goal.loop-preserved
loop-preserved g c =
    let plain = g.T.Layout.plain in
    let read = reads (g.T.Layout.form c.args.version) in
    let item = c.in_ok-item.item in
    let e : map plain c.push.new.self.items ≡ map plain c.loop.items.items ++ plain item ∷ [] = ap (map plain) c.in_ok-push.ensures.items ∙ map_push plain c.loop.items.items item in
    rw e (goes_on read (map plain c.loop.items.items) c.args.count c.loop.counter c.loop.from.now (plain item) c.read.new.from.now (times_by c.args.count read c.args.from.now.now) c.loop-test.true c.in_ok-item.ensures c.loop.invariant)

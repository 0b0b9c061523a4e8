use Rattle.std.proofs.Common.{◌<◌, Some, refl, sym, subst, arith, rules}
use Rattle.pf_trie.specs.{Rows.AreRows, Agreeing.rows_agree, Tries.IsDraft}
use Rattle.pf_trie.proofs.Roots.{level_at, level_replaced}
use Rattle.pf_trie.proofs.draft.Draft.with.Goals as goal

pub returns : goal.returns
returns c = λ s is.
    let p = c.args.prefix in
    let all = c.self.inside.all in
    let rows = c.self.inside.rows in
    let held = subst (IsDraft s) (sym c.self.view_is) is in
    let less : p.free < 128 = omega (arith, c.requires, c.if-prefix-eq128.false) in
    level_replaced AreRows rows_agree s p all (Some c.args.sign) rows c.in_ok-with_sign.field-0 (search rules) less held
    (c.in_ok-with_sign.ensures s 128 _ (level_at AreRows rows_agree s p.address all rows (search rules) held) less refl)

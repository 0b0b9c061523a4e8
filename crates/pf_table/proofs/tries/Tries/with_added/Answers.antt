use Rattle.std.proofs.Common.{◌≡◌, List, Some, ◌∙◌, sym, subst}
use Rattle.std.proofs.lemmas.Result.{IfOk-weaker}
use Rattle.pf_addr.specs.NetOrder.{net_order}
use Rattle.pf_map.specs.Maps.{with_value}
use Rattle.pf_table.specs.{Entries.PlainEntry, Tables.sign_of, Edits.{addition, with_entry}, Indexed.AreIn}
use Rattle.pf_table.proofs.TrieSigns.{with_added}
use Rattle.pf_table.proofs.tries.Tries.with_added.Goals as goal

pub returns-in-Added : goal.returns-in-Added
returns-in-Added g c =
    let x = c.args.entry.now in
    IfOk-weaker c.with.result
    (λ t. (es : List PlainEntry) → AreIn g.T.PrefixIndex.has es c.args.self.v4 c.args.self.v6 → AreIn g.T.PrefixIndex.has (with_value net_order es x.0 (Some x.1)) t.v4 t.v6)
    (λ t. (es : List PlainEntry) → c.args.answer ≡ addition (sign_of x.0 es) x.1 → AreIn g.T.PrefixIndex.has es c.args.self.v4 c.args.self.v6 → AreIn g.T.PrefixIndex.has (with_entry es x) t.v4 t.v6)
    (λ t made es is are. subst (λ (l : List PlainEntry). AreIn g.T.PrefixIndex.has l t.v4 t.v6) (with_added es x (sym c.in-Added.is ∙ is)) (made es are))
    c.with.ensures.signs

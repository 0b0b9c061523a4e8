use Rattle.pf_addr.specs.Writing.{Continues-then, after_nothing, Appends-kept}
use Rattle.pfd_conf.specs.Covering.{cover_text}
use Rattle.pfd_conf.proofs.Texts.{some_front, all_at_ok, stopped, kept_front}
use Rattle.pfd_conf.proofs.firewall.Origins.cover.Goals as goal

pub returns-in_err-written-clause-text : goal.returns-in_err-written-clause-text
returns-in_err-written-clause-text g c =
    let lines = rw (c.as_slice.ensures, c.in_ok-uncovered.ensures) at c.write_lines-so_far.ensures in
    let count = rw (c.len.ensures, c.in_ok-uncovered.ensures, c.deciding_count-deciding.ensures, c.rulesets.ensures) at
    c.write_count.ensures in
    let w = after_nothing tt (Continues-then lines count) in
    let text = cover_text c.args.self.now c.args.tried.now in
    stopped _ c.from_residual-in_err-written.result (g.W.Write.contents c.args.out.now) (g.W.Write.contents c.write_count.new.out) text
    c.from_residual-in_err-written.ensures.1
    (some_front c.write_count.result (g.W.Write.contents c.args.out.now) (g.W.Write.contents c.write_count.new.out) text w.0)

pub returns-in_err-written-2-clause-text : goal.returns-in_err-written-2-clause-text
returns-in_err-written-2-clause-text g c =
    let lines = rw (c.as_slice.ensures, c.in_ok-uncovered.ensures) at c.write_lines-so_far.ensures in
    let count = rw (c.len.ensures, c.in_ok-uncovered.ensures, c.deciding_count-deciding.ensures, c.rulesets.ensures) at
    c.write_count.ensures in
    let w = after_nothing tt (Continues-then lines count) in
    let text = cover_text c.args.self.now c.args.tried.now in
    stopped _ c.from_residual-in_err-written-2.result (g.W.Write.contents c.args.out.now) (g.W.Write.contents c.flush.new.self) text
    c.from_residual-in_err-written-2.ensures.1
    (kept_front (g.W.Write.contents c.args.out.now) (g.W.Write.contents c.write_count.new.out) (g.W.Write.contents c.flush.new.self) text
    (all_at_ok c.write_count.result _ (g.W.Write.contents c.args.out.now) (g.W.Write.contents c.write_count.new.out) text
    c.in_ok-written.ensures.ok w.0) c.flush.ensures.bytes)

pub returns-clause-text : goal.returns-clause-text
returns-clause-text g c =
    let lines = rw (c.as_slice.ensures, c.in_ok-uncovered.ensures) at c.write_lines-so_far.ensures in
    let count = rw (c.len.ensures, c.in_ok-uncovered.ensures, c.deciding_count-deciding.ensures, c.rulesets.ensures) at
    c.write_count.ensures in
    let w = after_nothing tt (Continues-then lines count) in
    let text = cover_text c.args.self.now c.args.tried.now in
    Appends-kept (g.W.Write.contents c.args.out.now) (g.W.Write.contents c.write_count.new.out) (g.W.Write.contents c.flush.new.self) text
    (all_at_ok c.write_count.result _ (g.W.Write.contents c.args.out.now) (g.W.Write.contents c.write_count.new.out) text
    c.in_ok-written.ensures.ok w.0) c.flush.ensures.bytes

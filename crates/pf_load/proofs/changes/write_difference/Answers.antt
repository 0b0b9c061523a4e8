use Rattle.std.proofs.Common.{◌-◌, List, length, take, drop, refl}
use Rattle.std.proofs.lemmas.List.{take_rest}
use Rattle.pf_form.specs.Form.Words.{Word}
use Rattle.pf_load.proofs.Differing.{differs}
use Rattle.pf_load.proofs.changes.write_difference.Goals as goal

pub returns : goal.returns
returns g c =
    let front = c.common_front-front.result in
    let back = c.common_back-back.result in
    let olds : List Word = take (length c.args.old.now - front) (drop front c.args.old.now) in
    let news : List Word = take (length c.args.new.now - front) (drop front c.args.new.now) in
    differs c.args.heading.now c.args.old.now c.args.new.now olds news (take (length olds - back) olds) (take (length news - back) news) front back c.args.so_far (g.W.Write.contents c.args.out.now) c.write_changes.result
    (g.W.Write.contents c.write_changes.new.out) c.common_front-front.ensures.same (take_rest c.args.old.now front) (take_rest c.args.new.now front) c.common_back-back.ensures.same refl refl c.write_changes.ensures

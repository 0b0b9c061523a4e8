use Rattle.std.proofs.{Common.{◌≡◌, ◌≤◌, ◌++◌, ℕ, List, [], ◌∷◌, Option, Some, length, map, drop, take, refl, sym, ap, ◌∙◌, subst, append_assoc, append-nil, arith}, lemmas.Grind.common_steps}
use Rattle.std.specs.{Arc.arc_value, List.AllByRecursion, Option.option_map, Vec.Iter.{into_iter_items}}
use Rattle.pf_core.specs.{declared.reply.Reply.Reply, Durable.Changes.PlainChange, Worlds.flat}
use Rattle.pf_book.specs.{Books.{world_book, log_in}, Groups.Answered, Pairs.{count_after, given_to, given_after, kept_count, paired, slip_at}, Receipts.{PlainReceipt, EndsIn, ShownFits}}
use Rattle.pf_book.proofs.{OpenedBooks.log-of, GroupReceipts.{IsPaired, calm-log, calm-receipt, no-items, pair-on}}
use Rattle.pf_book.proofs.book.Book.pair.Given.{Over}
use Rattle.pf_book.proofs.book.Book.pair.Goals.{After-count_after-seq}
use Rattle.pf_book.proofs.book.Book.pair.Goals as goal

-- where the reply's change is among the group's
one : (g : Over) (c : After-count_after-seq g)
    → IsPaired (log_in (world_book c.args.self.now)) (count_after c.in-Some.reply c.loop-reply.seq) (given_after c.in-Some.reply (map arc_value (into_iter_items c.loop-reply.given))) (into_iter_items c.next.new.self)
    × ((e : PlainChange) → given_to c.in-Some.reply (map arc_value (into_iter_items c.loop-reply.given)) ≡ Some e → EndsIn (take (count_after c.in-Some.reply c.loop-reply.seq) (log_in (world_book c.args.self.now))) e)
one g c =
    let at = c.loop-reply in
    pair-on (log_in (world_book c.args.self.now)) at.seq (map arc_value (into_iter_items at.given)) c.in-Some.reply (into_iter_items c.next.new.self) at.invariant.given at.invariant.within (ap kept_count (sym c.in-Some.ensures.steps.0) ∙ at.invariant.kept)

pub loop-reply-preserved : goal.loop-reply-preserved
loop-reply-preserved g c =
    let at = c.loop-reply in
    let log : List PlainChange = log_in (world_book c.args.self.now) in
    let r : Reply = c.in-Some.reply in
    let others : List Reply = into_iter_items c.next.new.self in
    let steps : into_iter_items at.reply-iterator ≡ r ∷ others = c.in-Some.ensures.steps.0 in
    let given : List PlainChange = map arc_value (into_iter_items at.given) in
    let left : List PlainChange = map arc_value (into_iter_items c.give-change.new.given) in
    let number : c.count_after-seq.result ≡ count_after r at.seq = c.count_after-seq.ensures in
    let here = one g (goal.at.loop-reply-preserved g c).After-count_after-seq in
    let rest : List Answered = paired c.args.self.now.shown log c.count_after-seq.result others left in
    let old : List Answered = at.answers.items in
    let slip : c.receipt-receipt.result ≡ slip_at c.args.self.now.shown log (count_after r at.seq) (given_to r given) r =
    c.receipt-receipt.ensures ∙ calm-receipt (world_book c.args.self.now) c.count_after-seq.result (option_map arc_value c.give-change.result) r c.requires.calm (subst (λ (m : ℕ). m ≤ length log) (sym number) here.0.within) ∙ ap (λ (m : ℕ). slip_at c.args.self.now.shown log m (option_map arc_value c.give-change.result) r) number ∙ ap (λ (o : Option PlainChange). slip_at c.args.self.now.shown log (count_after r at.seq) o r) c.give-change.ensures.given in
    record {
      all = append_assoc at.yielded (r ∷ []) _ ∙ rw (← steps) at.invariant.all;
      len = let was = at.invariant.len in let gone = c.in-Some.ensures.steps.1 in let short = ap length steps in omega arith;
      reported = ap (λ (xs : List Answered). xs ++ rest) c.push_reserved.ensures.items ∙ append_assoc old ((r, c.receipt-receipt.result) ∷ []) rest
          ∙ ap (λ (x : PlainReceipt). old ++ ((r, x) ∷ rest)) slip
          ∙ ap (λ (m : ℕ). old ++ ((r, slip_at c.args.self.now.shown log (count_after r at.seq) (given_to r given) r) ∷ paired c.args.self.now.shown log m others left)) number
          ∙ ap (λ (l : List PlainChange). old ++ ((r, slip_at c.args.self.now.shown log (count_after r at.seq) (given_to r given) r) ∷ paired c.args.self.now.shown log (count_after r at.seq) others l)) c.give-change.ensures.left
          ∙ ap (λ (rs : List Reply). old ++ paired c.args.self.now.shown log at.seq rs given) (sym steps) ∙ at.invariant.reported;
      given = ap (λ (m : ℕ). drop m log) number ∙ here.0.given_is ∙ sym c.give-change.ensures.left;
      within = subst (λ (m : ℕ). m ≤ length log) (sym number) here.0.within;
      kept = here.0.kept ∙ ap length (sym c.give-change.ensures.left);
      shown = (subst (λ (rs : List Reply). AllByRecursion (λ r. ShownFits r c.args.self.now.shown (length log)) rs) steps at.invariant.shown).1;
      room = omega (arith, at.invariant.room, c.push_reserved.ensures.len, c.push_reserved.ensures.capacity, ap length steps);
    }

pub receipt-receipt-requires-clause-last : goal.receipt-receipt-requires-clause-last
receipt-receipt-requires-clause-last g c e some =
    let b = world_book c.args.self.now in
    let here = one g (goal.at.receipt-receipt-requires-clause-last g c).After-count_after-seq in
    subst (λ (m : ℕ). EndsIn (take m (log_in b)) e × (m ≤ length (flat b.acked))) (sym c.count_after-seq.ensures) (here.1 e (sym c.give-change.ensures.given ∙ some), omega (arith, here.0.within, ap length (calm-log b c.requires.calm)))

pub receipt-receipt-requires-clause-within : goal.receipt-receipt-requires-clause-within
receipt-receipt-requires-clause-within g c =
    subst (λ (m : ℕ). m ≤ length (log_in (world_book c.args.self.now))) (sym c.count_after-seq.ensures) (one g (goal.at.receipt-receipt-requires-clause-within g c).After-count_after-seq).0.within

pub receipt-receipt-requires-clause-shown : goal.receipt-receipt-requires-clause-shown
receipt-receipt-requires-clause-shown g c =
    let at = c.loop-reply in
    let log : List PlainChange = log_in (world_book c.args.self.now) in
    let steps : into_iter_items at.reply-iterator ≡ c.in-Some.reply ∷ into_iter_items c.next.new.self = c.in-Some.ensures.steps.0 in
    (subst (λ (rs : List Reply). AllByRecursion (λ r. ShownFits r c.args.self.now.shown (length log)) rs) steps at.invariant.shown).0

pub count_after-seq-requires : goal.count_after-seq-requires
count_after-seq-requires g c =
    let i = c.self.invariant in
    let log : List PlainChange = map arc_value c.self.inside.log.items in
    let whole : log_in (world_book c.args.self.now) ≡ log = log-of i c.self.view_is in
    omega (arith, c.loop-reply.invariant.within, ap length whole, i.few, i.limit)

pub loop-reply-init : goal.loop-reply-init
loop-reply-init g c =
    let log : List PlainChange = log_in (world_book c.args.self.now) in
    let gives = c.into_iter-reply-iterator.ensures.into_iter_gives in
    let rest = c.into_iter-given.ensures.rest in
    record {
      all = refl;
      len = let same = ap length gives.0 in grind (arith, common_steps, gives.1, same);
      reported = ap (λ (xs : List Answered). xs ++ paired c.args.self.now.shown log c.args.before (into_iter_items c.into_iter-reply-iterator.result) (map arc_value (into_iter_items c.into_iter-given.result))) c.requires.empty;
      given = c.requires.given ∙ ap (λ xs. map arc_value xs) (sym rest);
      within = c.requires.within;
      kept = ap kept_count gives.0 ∙ c.requires.kept ∙ ap (λ xs. length (map arc_value xs)) (sym rest);
      shown = subst (λ (rs : List Reply). AllByRecursion (λ r. ShownFits r c.args.self.now.shown (length log)) rs) (sym gives.0) c.requires.shown;
      room = let same = ap length gives.0 in let empty = ap length c.requires.empty in grind (arith, common_steps, c.requires.room, same, empty);
    }

pub returns : goal.returns
returns g c =
    let at = c.loop-reply in
    let log : List PlainChange = log_in (world_book c.args.self.now) in
    let gives = c.into_iter-reply-iterator.ensures.into_iter_gives in
    let given : List PlainChange = map arc_value (into_iter_items at.given) in
    let none : into_iter_items at.reply-iterator ≡ [] = no-items (into_iter_items at.reply-iterator) (sym at.invariant.len ∙ c.in-None.ensures.steps.0) in
    sym (append-nil at.answers.items) ∙ ap (λ (rs : List Reply). at.answers.items ++ paired c.args.self.now.shown log at.seq rs given) (sym none) ∙ at.invariant.reported
    ∙ ap (λ (rs : List Reply). paired c.args.self.now.shown log c.args.before rs (map arc_value (into_iter_items c.into_iter-given.result))) gives.0
    ∙ ap (λ xs. paired c.args.self.now.shown log c.args.before c.args.replies.items (map arc_value xs)) c.into_iter-given.ensures.rest

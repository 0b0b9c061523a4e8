use Rattle.std.proofs.{Common.{◌≡◌, ◌+◌, ◌++◌, List, [], All, length, map, drop, Ok, refl, sym, ap, ◌∙◌, subst, append-nil, length-append, arith}, lemmas.{Grind.common_steps, List.length-map, Result.err_from_is_err_and}}
use Rattle.std.specs.{Arc.arc_value, Prelude.nat_lt}
use Rattle.pf_core.specs.declared.reply.{Refusal.TheVariants.Memory, Reply.Reply}
use Rattle.pf_core.specs.{Durable.Changes.PlainChange, WorldBooks.{WorldBook, IsAt}, Worlds.{CurrentOpening, Upshot, flat, grouping, upshot, changes_due, replies_due}}
use Rattle.pf_core.proofs.Courses.{as_due_or_stored}
use Rattle.pf_book.specs.{Books.{world_book, log_in}, Groups.{Answered, AreAnswered, IsGroupCall}, Pairs.{kept_count, paired}}
use Rattle.pf_book.proofs.{Calling.{own, own-at}, Grouping.{memory-refuses, refused-of, refused-whole}, OpenedBooks.{left-in, log-of, rests-of}, HistoryGroups.left-group, GroupReceipts.{AreGroupReplies, reported-by, slips, paired-replies, paired-shown, kept-due, one-each}}
use Rattle.pf_book.proofs.book.Book.answer_course.Given.{Over}
use Rattle.pf_book.proofs.book.Book.answer_course.Goals.{In-Ok, After-pair}
use Rattle.pf_book.proofs.book.Book.answer_course.Goals as goal

-- what the group was told
module _ (g : Over) (c : In-Ok g) where
  abbrev old : WorldBook
  old = world_book c.args.self.now

  abbrev new : WorldBook
  new = world_book c.finish.new.self

  abbrev came : Upshot
  came = upshot new.shown (nat_lt (g.D.Disk.fault_count c.args.self.now.disk) (g.D.Disk.fault_count c.finish.new.self.disk))

  reported : (h : CurrentOpening) → IsAt h old → AreGroupReplies h new c.args.commands.now c.in-Ok.replies.items
  reported h at = reported-by h new c.args.commands.now c.in-Ok.replies.items came (c.in-Ok.ensures.call.leads h at)

  own-reported : AreGroupReplies (own old) new c.args.commands.now c.in-Ok.replies.items
  own-reported = reported (own old) (own-at old)

  given : map arc_value c.in-Ok.given.items ≡ changes_due (own old) [] c.args.commands.now
  given = c.in-Ok.ensures.given (own old) (own-at old)

  -- the group's changes come after so many others
  number : c.len-before.result ≡ length (flat old.acked)
  number =
      let t : AreGroupReplies (own old) new c.args.commands.now c.in-Ok.replies.items = own-reported in
      let counted : c.len-before.result ≡ length (map arc_value c.self.inside.log.items) = grind (arith, common_steps, c.len-before.ensures) in
      let all : log_in old ≡ flat old.acked = ap (λ (gs : List (List PlainChange)). flat (old.acked ++ gs)) t.none ∙ ap flat (append-nil old.acked) in
      counted ∙ ap length (sym (log-of c.self.invariant c.self.view_is)) ∙ ap length all

pub pair-requires-clause-calm : goal.pair-requires-clause-calm
pair-requires-clause-calm g c = (own-reported g (goal.at.pair-requires-clause-calm g c).In-Ok).calm

pub pair-requires-clause-empty : goal.pair-requires-clause-empty
pair-requires-clause-empty g c = c.in_ok-answers.ensures.items

pub pair-requires-clause-room : goal.pair-requires-clause-room
pair-requires-clause-room g c =
    let t = own-reported g (goal.at.pair-requires-clause-room g c).In-Ok in
    let h : CurrentOpening = own (world_book c.args.self.now) in
    let many : length c.in-Ok.replies.items ≡ length c.args.commands.now = ap length t.replies_are ∙ length-map (replies_due h [] c.args.commands.now) (as_due_or_stored t.stored) ∙ one-each h [] c.args.commands.now in
    omega (arith, many, c.in_ok-answers.ensures.exact)

pub pair-requires-clause-given : goal.pair-requires-clause-given
pair-requires-clause-given g c =
    let here = (goal.at.pair-requires-clause-given g c).In-Ok in
    let t = own-reported g here in
    let b : WorldBook = world_book c.args.self.now in
    ap (drop c.len-before.result) t.log ∙ left-group (flat b.acked) (changes_due (own b) [] c.args.commands.now) c.len-before.result (number g here) ∙ sym (given g here)

pub pair-requires-clause-within : goal.pair-requires-clause-within
pair-requires-clause-within g c =
    let here = (goal.at.pair-requires-clause-within g c).In-Ok in
    let t = own-reported g here in
    let b : WorldBook = world_book c.args.self.now in
    omega (arith, number g here, ap length t.log, length-append (flat b.acked) (changes_due (own b) [] c.args.commands.now))

pub pair-requires-clause-kept : goal.pair-requires-clause-kept
pair-requires-clause-kept g c =
    let here = (goal.at.pair-requires-clause-kept g c).In-Ok in
    let t = own-reported g here in
    omega (arith, ap kept_count t.replies_are, kept-due (own (world_book c.args.self.now)) [] c.args.commands.now t.stored, ap length (given g here))

pub pair-requires-clause-shown : goal.pair-requires-clause-shown
pair-requires-clause-shown g c = (own-reported g (goal.at.pair-requires-clause-shown g c).In-Ok).fits

-- its replies stay as they are
same : (g : Over) (c : After-pair g) → c.in-Ok.replies.items ≡ map (λ (a : Answered). a.0) c.pair.result.items
same g c = sym (ap (map (λ (a : Answered). a.0)) c.pair.ensures ∙ paired-replies c.finish.new.self.shown (log_in (world_book c.finish.new.self)) c.len-before.result c.in-Ok.replies.items (map arc_value c.in-Ok.given.items))

pub returns-in-Ok : goal.returns-in-Ok
returns-in-Ok g c =
    let here = (goal.at.returns-in-Ok g c).In-Ok in
    let there = (goal.at.returns-in-Ok g c).After-pair in
    let book = c.finish.new.self in
    let shown = book.shown in
    let log : List PlainChange = log_in (world_book book) in
    let commands = c.args.commands.now in
    record {
      call = subst (λ (rs : List Reply). IsGroupCall g.D.Disk c.args.self.now book commands (Ok rs)) (same g there) c.in-Ok.ensures.call;
      receipts = λ h at.
          let t = reported g here h at in
          let pairs : c.pair.result.items ≡ paired shown log c.len-before.result (map (as_due_or_stored t.stored) (replies_due h [] commands)) (changes_due h [] commands) =
          c.pair.ensures ∙ ap (λ (rs : List Reply). paired shown log c.len-before.result rs (map arc_value c.in-Ok.given.items)) t.replies_are
          ∙ ap (paired shown log c.len-before.result (map (as_due_or_stored t.stored) (replies_due h [] commands))) (c.in-Ok.ensures.given h at) in
          let first : c.len-before.result ≡ length (flat h.acked) + 0 = omega (arith, number g here, ap (λ (gs : List (List PlainChange)). length (flat gs)) at.acked) in
          subst (λ (answers : List Answered). AreAnswered h log [] commands answers) (sym pairs) (slips shown h log [] (changes_due h [] commands) commands t.stored t.none t.may refl t.log c.len-before.result first);
      shown = subst (All (λ (a : Answered). a.1.shown ≡ shown)) (sym c.pair.ensures) (paired-shown shown log c.len-before.result c.in-Ok.replies.items (map arc_value c.in-Ok.given.items));
    }

pub returns-in-Err : goal.returns-in-Err
returns-in-Err g c = refused-of c.in-Err.ensures.call

pub returns-in_err-answers : goal.returns-in_err-answers
returns-in_err-answers g c =
    let now = c.args.self.now in
    let commands = c.args.commands.now in
    let p = err_from_is_err_and c.from_residual.result c.from_residual.ensures.1 in
    rw (p.1, p.2) (refused-of (refused-whole g.D.Disk now now commands Memory refl refl (λ h at. memory-refuses h (world_book now) commands at c.requires.none c.requires.words)
    (rests-of g.D.Disk c.self.invariant c.self.view_is (g.met.D.Disk.only_now c.self.inside.store.disk) (left-in c.self.invariant c.self.view_is (grouping commands)))))

-- What a session's seer has learnt.
use Rattle.std.proofs.Common.{◌≡◌, ◌∙◌, ◌≤◌, ℕ, List, ◌∷◌, ◌++◌, length, Option, Some, None, Ok, inl, inr, sym, ap, subst, arith}
use Rattle.std.specs.Option.{ForSome}
use mathlib.Core.List.{IsPrefix}
use Rattle.pf_rule.specs.Packets.{PlainPacket}
use Rattle.pf_core.specs.declared.{command.Command.Command, reply.Outcome.Outcome, reply.Reply.Reply, reply.Reply.TheVariants.Applied}
use Rattle.pf_core.specs.{Durable.Changes.{PlainDurable, PlainChange}, Worlds.{Setting, log_of, heard_group}}
use Rattle.pf_view.proofs.Prefixes.{prefix_self, prefix_trans, prefix_length}
use Rattle.pf_book.specs.{Groups.replies_of, Receipts.{PlainReceipt, IsAnswered, IsNumberOf, token_of}}
use Rattle.pf_book.proofs.LockedCalls.{applied-is}
use Rattle.pf_session.specs.{Server.Sittings.{IsAnsweredInTurn, RunsBy, TakesLine, TakesLines, Sitting, at_next_line}, Laws.Sittings.{LearnsApplied, LearnsNoLess}}
use Rattle.pf_session.proofs.{Chains.chain-moves, Places.{place-number, place-shown, place-token}, Sitting.line-moves}

abbrev learns-on : Sitting → Sitting → Type 0
learns-on a b = IsPrefix a.seer.learnt b.seer.learnt

same-learnt : (a b : Sitting) → b ≡ a → learns-on a b
same-learnt a b is = subst (λ (s : Sitting). learns-on a s) (sym is) (prefix_self a.seer.learnt)

module _ (base : PlainDurable) (setting : Setting) where
  runs-learn : (o : Option PlainPacket) (c : Command) (a b : Sitting) (text : List ℕ) → RunsBy o base setting c a b text → learns-on a b
  runs-learn (Some packet) c a b text judged = subst (λ (l : List PlainChange). IsPrefix a.seer.learnt l) (sym judged.seer.learnt) (prefix_self a.seer.learnt)
  runs-learn None c a b text (inl run) = run.keeps.still
  runs-learn None c a b text (inr faulted) = same-learnt a b faulted.same

  line-learns : (passed : ℕ → Type 0) (line : List ℕ) (a b : Sitting) (text : List ℕ) → TakesLine passed base setting line a b text → learns-on a b
  line-learns passed line a b text takes = line-moves base setting learns-on same-learnt runs-learn line (at_next_line a) b text takes.reported

  lines-learn : (passed : ℕ → Type 0) (a b : Sitting) (lines : List (List ℕ)) (text : List ℕ) → TakesLines passed base setting a b lines text → learns-on a b
  lines-learn passed = chain-moves (TakesLine passed base setting) learns-on same-learnt (λ a b c p q. prefix_trans a.seer.learnt b.seer.learnt c.seer.learnt p q) (line-learns passed)

pub learns-no-less : (passed : ℕ → Type 0) → LearnsNoLess passed
learns-no-less passed base setting old new lines text sits = lines-learn base setting passed old new lines text sits

-- what a reply says is applied is learnt, with all before it
learnt-by : (base : PlainDurable) (setting : Setting) (c : Command) (r : Reply) (slip : PlainReceipt) (last : Option PlainReceipt) (learnt : List PlainChange) (seq : ℕ) (outcome : Outcome) → r ≡ Applied seq outcome
    → ForSome slip.token (λ token. IsPrefix token learnt) → IsAnsweredInTurn base setting c r slip last → IsPrefix slip.front learnt × (seq ≤ length learnt)
learnt-by base setting c r slip last learnt seq outcome is knows (inl answered) =
    let token : slip.token ≡ Some slip.front = answered.token ∙ ap (λ (x : Reply). token_of x slip.front) is in
    let begins : IsPrefix slip.front learnt = knows slip.front token in
    let number : seq ≡ length slip.front = applied-is base setting c slip last seq outcome (subst (λ (x : Reply). IsAnswered base setting c x slip last) is answered) in
    (begins, omega (arith, number, prefix_length slip.front learnt begins))
learnt-by base setting c r slip last learnt seq outcome is knows (inr at) =
    let log = log_of (heard_group at.group.before (at.earlier ++ c ∷ at.later) (replies_of (Ok (at.reported ++ (r, slip) ∷ at.others))) at.group.came) in
    let begins : IsPrefix slip.front learnt = prefix_trans slip.front log learnt (place-shown base setting c r slip last at) (knows log (place-token base setting c r slip last at seq outcome is)) in
    let number : IsNumberOf (Applied seq outcome) slip = subst (λ (x : Reply). IsNumberOf x slip) is (place-number base setting c r slip last at) in
    (begins, omega (arith, number.0, prefix_length slip.front learnt begins))

pub learns-applied : LearnsApplied
learns-applied base setting c old new text run seq outcome is = learnt-by base setting c run.reply run.slip old.last new.seer.learnt seq outcome is run.keeps.learnt run.answered

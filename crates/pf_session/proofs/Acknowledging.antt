-- What a session was told is kept stays acknowledged.
use Rattle.std.proofs.Common.{◌≡◌, ◌∙◌, ◌≤◌, ℕ, List, length, Option, Some, None, inl, inr, ap, arith}
use Rattle.pf_rule.specs.Packets.{PlainPacket}
use Rattle.pf_core.specs.declared.{command.Command.Command, reply.Reply.Reply, reply.Reply.TheVariants.{Answer, Applied, Stored, Refused}}
use Rattle.pf_core.specs.{Durable.Changes.PlainDurable, Worlds.{Setting, flat}}
use Rattle.pf_book.specs.Receipts.{PlainReceipt}
use Rattle.pf_book.proofs.LockedCalls.{applied-acked, stored-acked, still-acked}
use Rattle.pf_session.specs.{Server.Sittings.{IsAnsweredInTurn, RunsBy, TakesLine, TakesLines, Sitting, at_next_line, turn}, Laws.Acknowledged.{Acknowledges, AcknowledgesNoLess, AcknowledgesReplied, FindsAcknowledged, number_in}}
use Rattle.pf_session.proofs.{Chains.chain-moves, Places.{place-acked, place-number, place-turn}, Sitting.line-moves}

rests-acked : (n : ℕ) (a b : Sitting) → b ≡ a → Acknowledges n a → Acknowledges n b
rests-acked n a b is (last, there, more) = (last, ap (λ (s : Sitting). s.last) is ∙ there, more)

module _ (base : PlainDurable) (setting : Setting) (c : Command) (r : Reply) (slip : PlainReceipt) (last : Option PlainReceipt) where
  -- a reply's receipt says no less than the last one
  acked-more : IsAnsweredInTurn base setting c r slip last → (l : PlainReceipt) → last ≡ Some l → l.acked ≤ slip.acked
  acked-more (inl answered) l is = still-acked base setting c slip last r l is answered
  acked-more (inr at) l is = place-acked base setting c r slip last at l is

  -- nor is less acknowledged at the command's turn
  acked-there : (answered : IsAnsweredInTurn base setting c r slip last) (l : PlainReceipt) → last ≡ Some l → l.acked ≤ length (flat (turn answered).acked)
  acked-there (inl answered) l is = (answered.follows l is).1
  acked-there (inr at) l is = place-turn base setting c r slip last at l is

module _ (base : PlainDurable) (setting : Setting) (n : ℕ) where
  runs-acked : (o : Option PlainPacket) (c : Command) (a b : Sitting) (text : List ℕ) → RunsBy o base setting c a b text → Acknowledges n a → Acknowledges n b
  runs-acked (Some packet) c a b text judged (last, there, more) = (last, ap (λ (s : Sitting). s.last) judged.same ∙ there, more)
  runs-acked None c a b text (inl run) (last, there, more) =
      (run.slip, ap (λ (s : Sitting). s.last) run.keeps.kept, omega (arith, more, acked-more base setting c run.reply run.slip a.last run.answered last there))
  runs-acked None c a b text (inr faulted) old = rests-acked n a b faulted.same old

  line-acked : (passed : ℕ → Type 0) (line : List ℕ) (a b : Sitting) (text : List ℕ) → TakesLine passed base setting line a b text → Acknowledges n a → Acknowledges n b
  line-acked passed line a b text takes old = line-moves base setting (λ (s t : Sitting). Acknowledges n s → Acknowledges n t) (rests-acked n) runs-acked line (at_next_line a) b text takes.reported old

  lines-acked : (passed : ℕ → Type 0) (a b : Sitting) (lines : List (List ℕ)) (text : List ℕ) → TakesLines passed base setting a b lines text → Acknowledges n a → Acknowledges n b
  lines-acked passed = chain-moves (TakesLine passed base setting) (λ (s t : Sitting). Acknowledges n s → Acknowledges n t) (rests-acked n) (λ a b c p q old. q (p old)) (line-acked passed)

  reply-acked : (c : Command) (r : Reply) (slip : PlainReceipt) (last : Option PlainReceipt) → number_in r ≡ Some n → IsAnsweredInTurn base setting c r slip last → n ≤ slip.acked
  reply-acked c (Answer a) slip last is answered = absurd (cc (is))
  reply-acked c (Applied m o) slip last is (inl answered) = let same : m ≡ n = cc (is) in omega (arith, same, applied-acked base setting c slip last m o answered)
  reply-acked c (Applied m o) slip last is (inr at) = let same : m ≡ n = cc (is) in omega (arith, same, (place-number base setting c (Applied m o) slip last at).1)
  reply-acked c (Stored m o) slip last is (inl answered) = let same : m ≡ n = cc (is) in omega (arith, same, stored-acked base setting c slip last m o answered)
  reply-acked c (Stored m o) slip last is (inr at) = let same : m ≡ n = cc (is) in omega (arith, same, (place-number base setting c (Stored m o) slip last at).1)
  reply-acked c (Refused e) slip last is answered = absurd (cc (is))

pub acknowledges-replied : AcknowledgesReplied
acknowledges-replied base setting c old new text run seq is =
    (run.slip, ap (λ (s : Sitting). s.last) run.keeps.kept, reply-acked base setting seq c run.reply run.slip old.last is run.answered)

pub acknowledges-no-less : (passed : ℕ → Type 0) → AcknowledgesNoLess passed
acknowledges-no-less passed base setting old new lines text n sits before = lines-acked base setting n passed old new lines text sits before

pub finds-acknowledged : FindsAcknowledged
finds-acknowledged base setting c old new text run n (last, there, more) = omega (arith, more, acked-there base setting c run.reply run.slip old.last run.answered last there)

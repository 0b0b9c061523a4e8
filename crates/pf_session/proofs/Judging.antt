-- A session that answers alone what asks to judge is a part of one that answers all, and of one that may only ask.
use Rattle.std.proofs.Common.{◌≡◌, ◌∙◌, ℕ, Bool, List, [], ◌∷◌, Option, Some, Ok, inl, inr, refl, sym, ap, subst}
use Rattle.pf_rule.specs.Packets.{PlainPacket}
use Rattle.pf_core.specs.declared.{command.Command.TheVariants.Ask, command.Question.TheVariants.Judge}
use Rattle.pf_core.specs.{Durable.Changes.PlainDurable, Worlds.Setting}
use Rattle.pf_line.specs.{declared.request.Request.TheVariants.Run, Lines.{Means, Parses, asked, line_at}}
use Rattle.pf_book.specs.Receipts.{PlainReceipt}
use Rattle.pf_session.specs.declared.server.judging.Judging.{Judging}
use Rattle.pf_session.specs.{LineEngine.Chains.Chain, Server.{Askings.{AsksLine, AsksLines, AsksOrShows, IsHeard}, Judgings.{IsSameJudging, JudgesInSession, seat}, Sittings.{IsJudged, TakesLine, TakesLines, at_next_line}}, Telling.IsReplyTo}

-- a line that asks to judge a packet isn't refused for want of memory
pub judge-means : (line : List ℕ) (packet : PlainPacket) → Parses (asked (Ok packet)) (line_at line) → Means (line_at line) (Ok (Some (Run (Ask (Judge packet)))))
judge-means line packet (inl means) = means
judge-means line packet (inr none) = absurd (cc (none))

module _ {J G : Type 0} where
  pub same-still : (s : Judging J G) → IsSameJudging s s
  same-still s = record { seer = refl; number = refl; gate = refl }

  same-then : {a b c : Judging J G} → IsSameJudging a b → IsSameJudging b c → IsSameJudging a c
  same-then p q = record { seer = q.seer ∙ p.seer; number = q.number ∙ p.number; gate = q.gate ∙ p.gate }

  stays-same : (start a b : Judging J G) → b ≡ a → IsSameJudging start a → IsSameJudging start b
  stays-same start a b is same = subst (λ (s : Judging J G). IsSameJudging start s) (sym is) same

module _ {J G : Type 0} (passed : G → ℕ → ℕ → Type 0) (base : PlainDurable) (setting : Setting) (last : Option PlainReceipt) where
  -- the session's seer judged its packet
  is-judged : (line : List ℕ) (a b : Judging J G) (text : List ℕ) (p : JudgesInSession passed base line a b text) → IsJudged base p.packet (at_next_line (seat last a)) (seat last b) text
  is-judged line a b text p = record { seer = p.judged; same = ap (λ (n : ℕ). record (seat last b) { line = n }) p.next }

  takes-one : (line : List ℕ) (a b : Judging J G) (text : List ℕ) → JudgesInSession passed base line a b text → TakesLine (passed a.gate.now a.number) base setting line (seat last a) (seat last b) text
  takes-one line a b text p = record { gate = p.gate; reported = inl (_, p.asks.means, is-judged line a b text p) }

  asks-one : (line : List ℕ) (a b : Judging J G) (text : List ℕ) → JudgesInSession passed base line a b text → AsksLine (passed a.gate.now a.number) base setting line (seat last a) (seat last b) text
  asks-one line a b text p =
      let reported : IsReplyTo (AsksOrShows base setting) line (at_next_line (seat last a)) (seat last b) text = inl (_, p.asks.means, is-judged line a b text p) in
      record { gate = p.gate; reported = subst (λ (d : Bool). IsHeard d base setting line (at_next_line (seat last a)) (seat last b) text) (sym p.asks.allowed) reported }

  -- what it does is done by the session that it began as
  pub judged-takes : (start a b : Judging J G) (lines : List (List ℕ)) (text : List ℕ) → IsSameJudging start a → Chain (JudgesInSession passed base) a b lines text
      → TakesLines (passed start.gate.now start.number) base setting (seat last a) (seat last b) lines text × IsSameJudging start b
  judged-takes start a b [] text same (is, none) = ((ap (seat last) is, none), stays-same start a b is same)
  judged-takes start a b (line ∷ lines) text same (mid, first, rest, step, more, reported) =
      let (others, still) = judged-takes start mid b lines rest (same-then same step.same) more in
      ((seat last mid, first, rest, rw (sym same.gate, sym same.number) (takes-one line a mid first step), others, reported), still)

  pub judged-asks : (start a b : Judging J G) (lines : List (List ℕ)) (text : List ℕ) → IsSameJudging start a → Chain (JudgesInSession passed base) a b lines text
      → AsksLines (passed start.gate.now start.number) base setting (seat last a) (seat last b) lines text × IsSameJudging start b
  judged-asks start a b [] text same (is, none) = ((ap (seat last) is, none), stays-same start a b is same)
  judged-asks start a b (line ∷ lines) text same (mid, first, rest, step, more, reported) =
      let (others, still) = judged-asks start mid b lines rest (same-then same step.same) more in
      ((seat last mid, first, rest, rw (sym same.gate, sym same.number) (asks-one line a mid first step), others, reported), still)

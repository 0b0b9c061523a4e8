-- The receipts of one caller, each within the last.
use Rattle.std.proofs.{Common.{◌≡◌, ◌∙◌, ℕ, List, [], ◌∷◌, ◌++◌, Option, Some, None, Result, Ok, Err, inl, inr, refl, sym, ap, subst, append_assoc, append-nil}, lemmas.List.Elements.{All-nil, All-cons, All-weaker}}
use Rattle.std.specs.{Option.ForSome}
use mathlib.Core.List.{IsPrefix}
use Rattle.pf_rule.specs.Packets.{PlainPacket}
use Rattle.pf_core.specs.declared.{command.Command.Command, reply.Refusal.Refusal, reply.Reply.Reply}
use Rattle.pf_core.specs.{Durable.Changes.{PlainDurable, PlainChange}, Worlds.{Setting, CurrentOpening, log_of, heard_group, step_in, changes_of, amid, changes_with}}
use Rattle.pf_book.specs.{Groups.{Answered as Receipted, AreAnswered, IsGroupAnswered, replies_of}, Receipts.{PlainReceipt}}
use Rattle.pf_view.proofs.Prefixes.{prefix_self, prefix_trans}
use Rattle.pf_book.proofs.LockedCalls.{front-begins}
use Rattle.pf_session.specs.declared.line_engine.fault.EngineFault.{EngineFault}
use Rattle.pf_session.specs.declared.line_engine.fault.EngineFault.TheVariants as fault
use Rattle.pf_session.specs.LineEngine.Sessions as sessions
use Rattle.pf_session.specs.Server.Streams as streams
use Rattle.pf_session.specs.{LineEngine.Chains.Chain, LineEngine.Sessions.{Answered, CutOff}, Server.{Sittings.{IsAnsweredInTurn, RunsBy, Sitting, TakesLine, at_next_line}, Streams.{Part, TakesPart, asked, last_receipt}}, Laws.Receipts.{AreWithin, ChainWithin, IsWithin, SitsWithin, TakesPartWithin, TakesWithin}}
use Rattle.pf_session.proofs.{Chains.chain-moves, Places.{front-amid, none-pending, place-begins}, Sitting.line-moves}

-- ---- two receipts

within-same : (a b : Option PlainReceipt) → b ≡ a → IsWithin a b
within-same a b same = λ slip is. (slip, same ∙ is, prefix_self slip.front)

within-then : (a b c : Option PlainReceipt) → IsWithin a b → IsWithin b c → IsWithin a c
within-then a b c p q = λ slip is.
    let (mid, some, front) = p slip is in
    let (last, more, longer) = q mid some in (last, more, prefix_trans slip.front mid.front last.front front longer)

-- what is handed in is within what is given
within-answer : (base : PlainDurable) (setting : Setting) (c : Command) (r : Reply) (slip : PlainReceipt) (a b : Option PlainReceipt) → IsAnsweredInTurn base setting c r slip a → b ≡ Some slip → IsWithin a b
within-answer base setting c r slip a b (inl answered) is = λ last some. (slip, is, front-begins answered.before c r answered.came slip last.front answered.front answered.change (answered.follows last some).0)
within-answer base setting c r slip a b (inr at) is = λ last some. (slip, is, place-begins base setting c r slip a at last some)

-- ---- along a chain

module _ {S L : Type 0} (receipt : S → Option PlainReceipt) (Step : L → S → S → List ℕ → Type 0) (Within : Option PlainReceipt → L → S → S → List ℕ → Type 0)
    (rises : (x : L) (a b : S) (text : List ℕ) → Step x a b text → IsWithin (receipt a) (receipt b))
    (within : (last : Option PlainReceipt) (x : L) (a b : S) (text : List ℕ) → Step x a b text → IsWithin (receipt b) last → Within last x a b text) where
  chain-rises : (a b : S) (xs : List L) (text : List ℕ) → Chain Step a b xs text → IsWithin (receipt a) (receipt b)
  chain-rises = chain-moves Step (λ (a b : S). IsWithin (receipt a) (receipt b)) (λ a b same. within-same (receipt a) (receipt b) (ap receipt same))
      (λ a b c p q. within-then (receipt a) (receipt b) (receipt c) p q) rises

  chain-within : (last : Option PlainReceipt) (a b : S) (xs : List L) (text : List ℕ) → IsWithin (receipt b) last → Chain Step a b xs text → Chain (Within last) a b xs text
  chain-within last a b [] text end (same, none) = (same, none)
  chain-within last a b (x ∷ xs) text end (mid, first, rest, step, more, is) =
      (mid, first, rest, within last x a mid first step (within-then (receipt mid) (receipt b) last (chain-rises mid b xs rest more) end), chain-within last mid b xs rest end more, is)

  chain-both : (last : Option PlainReceipt) (a b : S) (xs : List L) (text : List ℕ) → IsWithin (receipt b) last → Chain Step a b xs text → IsWithin (receipt a) (receipt b) × Chain (Within last) a b xs text
  chain-both last a b xs text end chain = (chain-rises a b xs text chain, chain-within last a b xs text end chain)

-- ---- what was answered

module _ {S L : Type 0} (receipt : S → Option PlainReceipt) (Serves : S → S → List L → List ℕ → Type 0) (Within : Option PlainReceipt → S → S → List L → List ℕ → Type 0)
    (both : (last : Option PlainReceipt) (a b : S) (xs : List L) (text : List ℕ) → IsWithin (receipt b) last → Serves a b xs text → IsWithin (receipt a) (receipt b) × Within last a b xs text) where
  answered-within : (last : Option PlainReceipt) {xs : List L} {a b : S} {h i : Option (List ℕ)} → IsWithin (receipt b) last → Answered Serves xs a b h i
      → IsWithin (receipt a) (receipt b) × Answered (Within last) xs a b h i
  answered-within last {xs} {a} {b} end all =
      let (rise, served) = both last a b xs all.text end all.served in
      (rise, record { text = all.text; served = served; written = all.written })

  all-within : {xs : List L} {a b : S} {h i : Option (List ℕ)} → Answered Serves xs a b h i → IsWithin (receipt a) (receipt b) × Answered (Within (receipt b)) xs a b h i
  all-within {xs} {a} {b} all = answered-within (receipt b) (within-same (receipt b) (receipt b) refl) all

  cut_off-within : {xs : List L} {a b : S} {h i : Option (List ℕ)} → CutOff Serves xs a b h i → IsWithin (receipt a) (receipt b) × CutOff (Within (receipt b)) xs a b h i
  cut_off-within {xs} {a} {b} cut =
      let (rest, served) = both (receipt b) cut.before b cut.last cut.text (within-same (receipt b) (receipt b) refl) cut.served in
      let (front, answered) = answered-within (receipt b) rest cut.answered in (
        within-then (receipt a) (receipt cut.before) (receipt b) front rest,
        record {
          earlier = cut.earlier;
          last = cut.last;
          others = cut.others;
          lines_are = cut.lines_are;
          one = cut.one;
          before = cut.before;
          mid = cut.mid;
          answered = answered;
          text = cut.text;
          served = served;
          front = cut.front;
        },
      )

module _ {S : Type 0} (receipt : S → Option PlainReceipt) (Serves : S → S → List (List ℕ) → List ℕ → Type 0) (Within : Option PlainReceipt → S → S → List (List ℕ) → List ℕ → Type 0)
    (both : (last : Option PlainReceipt) (a b : S) (xs : List (List ℕ)) (text : List ℕ) → IsWithin (receipt b) last → Serves a b xs text → IsWithin (receipt a) (receipt b) × Within last a b xs text) where
  session-within : (result : Result (Unit {0}) EngineFault) (input : List ℕ) (lines : List (List ℕ)) (rest : List ℕ) (unread : Option (List ℕ)) (a b : S) (h i : Option (List ℕ))
      → sessions.SessionEnds Serves result input lines rest unread a b h i
      → IsWithin (receipt a) (receipt b) × sessions.SessionEnds (Within (receipt b)) result input lines rest unread a b h i
  session-within (Ok u) input lines rest unread a b h i (all, end) = let (rise, within) = all-within receipt Serves Within both all in (rise, (within, end))
  session-within (Err fault.Read) input lines rest unread a b h i all = all-within receipt Serves Within both all
  session-within (Err fault.Write) input lines rest unread a b h i (inl cut) = let (rise, within) = cut_off-within receipt Serves Within both cut in (rise, inl within)
  session-within (Err fault.Write) input lines rest unread a b h i (inr (cut, end)) = let (rise, within) = cut_off-within receipt Serves Within both cut in (rise, inr (within, end))
  session-within (Err fault.Memory) input lines rest unread a b h i (none, same, written) = (within-same (receipt a) (receipt b) (ap receipt same), (none, same, written))

module _ {S : Type 0} (receipt : S → Option PlainReceipt) (Serves : S → S → List Part → List ℕ → Type 0) (Within : Option PlainReceipt → S → S → List Part → List ℕ → Type 0)
    (both : (last : Option PlainReceipt) (a b : S) (xs : List Part) (text : List ℕ) → IsWithin (receipt b) last → Serves a b xs text → IsWithin (receipt a) (receipt b) × Within last a b xs text) where
  end-within : (result : Result (Unit {0}) EngineFault) (left : Option (List ℕ)) (bytes : List ℕ) (unread : Option (List ℕ)) (a b : S) (h i : Option (List ℕ))
      → streams.StreamEnds Serves result left bytes unread a b h i
      → IsWithin (receipt a) (receipt b) × streams.StreamEnds (Within (receipt b)) result left bytes unread a b h i
  end-within (Ok u) left bytes unread a b h i (none, end, all) = let (rise, within) = all-within receipt Serves Within both all in (rise, (none, end, within))
  end-within (Err fault.Read) left bytes unread a b h i (none, going, all) = let (rise, within) = all-within receipt Serves Within both all in (rise, (none, going, within))
  end-within (Err fault.Write) left bytes unread a b h i (inl (p, after, of, is, cut)) = let (rise, within) = cut_off-within receipt Serves Within both cut in (rise, inl (p, after, of, is, within))
  end-within (Err fault.Write) left bytes unread a b h i (inr (none, inl cut)) = let (rise, within) = cut_off-within receipt Serves Within both cut in (rise, inr (none, inl within))
  end-within (Err fault.Write) left bytes unread a b h i (inr (none, inr (end, cut))) =
      let (rise, within) = cut_off-within receipt Serves Within both cut in (rise, inr (none, inr (end, within)))
  end-within (Err fault.Memory) left bytes unread a b h i (few, going, all) = let (rise, within) = all-within receipt Serves Within both all in (rise, (few, going, within))

  stream-within : (result : Result (Unit {0}) EngineFault) (unread still_unread : Option (List ℕ)) (a b : S) (h i : Option (List ℕ)) → streams.IsStream Serves result unread still_unread a b h i
      → IsWithin (receipt a) (receipt b) × streams.IsStream (Within (receipt b)) result unread still_unread a b h i
  stream-within result unread still_unread a b h i s =
      let (following, ends) = end-within result s.left s.bytes still_unread s.mid b s.shown i s.ends in
      let (front, answered) = answered-within receipt Serves Within both (receipt b) following s.answered in (
        within-then (receipt a) (receipt s.mid) (receipt b) front following,
        record { pieces = s.pieces; left = s.left; are = s.are; mid = s.mid; shown = s.shown; answered = answered; bytes = s.bytes; read = s.read; ends = ends },
      )

-- ---- a group

module _ (h : CurrentOpening) (none : h.pending ≡ []) where
  answers-within : (shown changes : List PlainChange) (commands : List Command) (answers : List Receipted) (last : Option PlainReceipt)
      → ForSome last (λ l. IsPrefix l.front (log_of h ++ changes)) → AreAnswered h shown changes commands answers
      → IsWithin last (last_receipt last (Ok answers)) × AreWithin (Ok answers) (last_receipt last (Ok answers))
  answers-within shown changes [] answers last begins are =
      subst (λ (l : List Receipted). IsWithin last (last_receipt last (Ok l)) × AreWithin (Ok l) (last_receipt last (Ok l))) (sym are)
      (within-same last last refl, All-nil (λ (a : Receipted). IsWithin (Some a.1) last))
  answers-within shown changes (c ∷ commands) [] last begins are = absurd are
  answers-within shown changes (c ∷ commands) (a ∷ answers) last begins (one, more) =
      let grown : List PlainChange = changes_with h changes c in
      let front : a.1.front ≡ log_of h ++ grown = front-amid h none changes shown c a.0 a.1 one in
      let new : Option PlainReceipt = last_receipt (Some a.1) (Ok answers) in
      let own : ForSome (Some a.1) (λ l. IsPrefix l.front (log_of h ++ grown)) =
      λ slip is. let same : slip ≡ a.1 = cc (is) in subst (λ (s : PlainReceipt). IsPrefix s.front (log_of h ++ grown)) (sym same) (subst (λ (l : List PlainChange). IsPrefix a.1.front l) front (prefix_self a.1.front)) in
      let (rise, all) = answers-within shown grown commands answers (Some a.1) own more in
      let first : IsWithin last (Some a.1) = λ slip is. (
        a.1,
        refl,
        subst (λ (l : List PlainChange). IsPrefix slip.front l) (append_assoc (log_of h) changes (changes_of (step_in (amid h changes) c)) ∙ sym front)
            (prefix_trans slip.front (log_of h ++ changes) ((log_of h ++ changes) ++ changes_of (step_in (amid h changes) c)) (begins slip is) (changes_of (step_in (amid h changes) c), refl)),
      ) in
      (within-then last (Some a.1) new first rise, All-cons (λ (b : Receipted). IsWithin (Some b.1) new) a answers rise all)

module _ (base : PlainDurable) (setting : Setting) (commands : List Command) (old : Option PlainReceipt) where
  group-within : (result : Result (List Receipted) Refusal) → IsGroupAnswered base setting commands result old → IsWithin old (last_receipt old result) × AreWithin result (last_receipt old result)
  group-within (Ok answers) answered =
      answers-within answered.before (none-pending base setting commands answers old answered) (log_of (heard_group answered.before commands (replies_of (Ok answers)) answered.came)) [] commands answers old
      (λ slip is. subst (λ (l : List PlainChange). IsPrefix slip.front l) (sym (append-nil (log_of answered.before))) (answered.follows slip is).0) answered.receipts
  group-within (Err e) answered = (within-same old old refl, tt)

are-within : (result : Result (List Receipted) Refusal) (mid last : Option PlainReceipt) → IsWithin mid last → AreWithin result mid → AreWithin result last
are-within (Ok answers) mid last end all =
    All-weaker (λ (a : Receipted). IsWithin (Some a.1) mid) (λ (a : Receipted). IsWithin (Some a.1) last) (λ a one. within-then (Some a.1) mid last one end) answers all
are-within (Err e) mid last end all = tt

-- ---- a session, and a peer

module _ (base : PlainDurable) (setting : Setting) where
  runs-rise : (o : Option PlainPacket) (c : Command) (a b : Sitting) (text : List ℕ) → RunsBy o base setting c a b text → IsWithin a.last b.last
  runs-rise (Some packet) c a b text judged = within-same a.last b.last (ap (λ (s : Sitting). s.last) judged.same)
  runs-rise None c a b text (inl run) = within-answer base setting c run.reply run.slip a.last b.last run.answered (ap (λ (s : Sitting). s.last) run.keeps.kept)
  runs-rise None c a b text (inr faulted) = within-same a.last b.last (ap (λ (s : Sitting). s.last) faulted.same)

  still-rises : (a b : Sitting) → b ≡ a → IsWithin a.last b.last
  still-rises a b same = within-same a.last b.last (ap (λ (s : Sitting). s.last) same)

  line-rises : (passed : ℕ → Type 0) (line : List ℕ) (a b : Sitting) (text : List ℕ) → TakesLine passed base setting line a b text → IsWithin a.last b.last
  line-rises passed line a b text takes = line-moves base setting (λ (s t : Sitting). IsWithin s.last t.last) still-rises runs-rise line (at_next_line a) b text takes.reported

  part-rises : (part : Part) (a b : Option PlainReceipt) (text : List ℕ) → TakesPart base setting part a b text → IsWithin a b
  part-rises (Ok ms) a b text run = subst (λ (s : Option PlainReceipt). IsWithin a s) (sym run.kept) (group-within base setting (asked ms) a run.result run.answered).0
  part-rises (Err f) a b text (same, reported) = within-same a b same

  part-within : (last : Option PlainReceipt) (part : Part) (a b : Option PlainReceipt) (text : List ℕ) → TakesPart base setting part a b text → IsWithin b last → TakesPartWithin last base setting part a b text
  part-within last (Ok ms) a b text run end =
      let all : AreWithin run.result b = subst (λ (s : Option PlainReceipt). AreWithin run.result s) (sym run.kept) (group-within base setting (asked ms) a run.result run.answered).1 in
      (run, are-within run.result b last end all, end)
  part-within last (Err f) a b text tells end = (tells, end)

  parts-within : (last a b : Option PlainReceipt) (parts : List Part) (text : List ℕ) → IsWithin b last → Chain (TakesPart base setting) a b parts text → IsWithin a b × Chain (TakesPartWithin last base setting) a b parts text
  parts-within = chain-both (λ (slip : Option PlainReceipt). slip) (TakesPart base setting) (λ (l : Option PlainReceipt). TakesPartWithin l base setting) part-rises part-within

  lines-within : (passed : ℕ → Type 0) (last : Option PlainReceipt) (a b : Sitting) (lines : List (List ℕ)) (text : List ℕ) → IsWithin b.last last → Chain (TakesLine passed base setting) a b lines text
      → IsWithin a.last b.last × ChainWithin last (λ (s : Sitting). s.last) (TakesLine passed base setting) a b lines text
  lines-within passed = chain-both (λ (s : Sitting). s.last) (TakesLine passed base setting) (λ l line a b reported. TakesLine passed base setting line a b reported × IsWithin b.last l) (line-rises passed) (λ l line a b reported takes end. (takes, end))

pub sits-within : (passed : ℕ → Type 0) → SitsWithin passed
sits-within passed base setting result unread still_unread old new held held' s =
    let (rise, ends) = session-within (λ (t : Sitting). t.last) (Chain (TakesLine passed base setting)) (λ (l : Option PlainReceipt). ChainWithin l (λ (t : Sitting). t.last) (TakesLine passed base setting)) (lines-within base setting passed)
    result s.input s.lines s.rest still_unread old new held held' s.ends in
    (rise, record { input = s.input; lines = s.lines; rest = s.rest; read = s.read; cut = s.cut; ends = ends })

pub takes-within : TakesWithin
takes-within base setting result unread still_unread old new held held' s =
    stream-within (λ (slip : Option PlainReceipt). slip) (Chain (TakesPart base setting)) (λ (l : Option PlainReceipt). Chain (TakesPartWithin l base setting)) (parts-within base setting)
    result unread still_unread old new held held' s

-- A session over a shared Book, by its lines.
use Rattle.std.proofs.Common.{◌≡◌, ◌∙◌, ℕ, List, [], ◌∷◌, Option, Some, None, Result, Ok, Err, inl, inr, refl, sym, ap, subst}
use Rattle.pf_rule.specs.Packets.{PlainPacket}
use Rattle.pf_core.specs.declared.{command.Command.Command, reply.Refusal.Refusal}
use Rattle.pf_line.specs.declared.{request.Request.Request, request.Request.TheVariants.{Run, ShowStatus, ShowAnchors}}
use Rattle.pf_core.specs.{Durable.Changes.PlainDurable, Worlds.Setting}
use Rattle.pf_session.specs.declared.server.session.Session.{Session}
use Rattle.pf_session.specs.{LineEngine.Chains.Chain, Telling.{IsReplyTo, Says}, Server.Sittings.{RunsBy, RunsOrShows, TakesLines, Sitting, next_line, packet_in}, Server.SessionRuns.{IsSame, RunsInSession, TakesInSession, sitting}}
use Rattle.pf_session.proofs.LineReplies.{reply-moves}

module _ {C J G : Type 0} where
  pub same-still : (s : Session C J G) → IsSame s s
  same-still s = record { seer = refl; last = refl; number = refl; gate = refl }

  pub same-then : {a b c : Session C J G} → IsSame a b → IsSame b c → IsSame a c
  same-then p q = record { seer = q.seer ∙ p.seer; last = q.last ∙ p.last; number = q.number ∙ p.number; gate = q.gate ∙ p.gate }

  stays-same : (start a b : Session C J G) → b ≡ a → IsSame start a → IsSame start b
  stays-same start a b is same = subst (λ (s : Session C J G). IsSame start s) (sym is) same

  stays-sitting : (a b : Session C J G) → b ≡ a → sitting b ≡ sitting a
  stays-sitting a b is = ap (λ (s : Session C J G). sitting s) is

module _ {C J G : Type 0} (base : PlainDurable) (setting : Setting) where
  says-sitting : (meant : Result (Option Request) Refusal) (a b : Session C J G) (text : List ℕ) → Says (RunsInSession base setting) meant a b text
      → IsSame a b × Says (RunsOrShows base setting) meant (sitting a) (sitting b) text
  says-sitting (Ok None) a b text says = (stays-same a a b says.0 (same-still a), (stays-sitting a b says.0, says.1))
  says-sitting (Ok (Some q)) a b text says = (says.same, says.runs)
  says-sitting (Err e) a b text says = (stays-same a a b says.0 (same-still a), (stays-sitting a b says.0, says.1))

  -- the reply to a line, as far as the session moves on by it
  reply-sitting : (line : List ℕ) (a b : Session C J G) (text : List ℕ) → IsReplyTo (RunsInSession base setting) line a b text
      → IsSame a b × IsReplyTo (RunsOrShows base setting) line (sitting a) (sitting b) text
  reply-sitting line a b text (inl (meant, means, says)) = let (same, ran) = says-sitting meant a b text says in (same, inl (meant, means, ran))
  reply-sitting line a b text (inr none) =
      (stays-same a a b none.same (same-still a), inr (record { speaks = none.speaks; same = stays-sitting a b none.same; reported = none.reported }))

module _ {C J G : Type 0} (passed : G → ℕ → ℕ → Type 0) (base : PlainDurable) (setting : Setting) where
  -- the line that comes next, which has this number
  pub attends-one : (old new : Session C J G) (line text : List ℕ) (n : ℕ) → n ≡ next_line old.line → passed old.gate.now old.number n
      → IsReplyTo (RunsInSession base setting) line (record old { line = n }) new text → TakesInSession passed base setting line old new text
  attends-one old new line text n is gate reported =
      let (same, by) = reply-sitting base setting line (record old { line = n }) new text reported in
      record {
        same = record { seer = same.seer; last = same.last; number = same.number; gate = same.gate };
        takes = record {
          gate = subst (λ (k : ℕ). passed old.gate.now old.number k) is gate;
          reported = subst (λ (k : ℕ). IsReplyTo (RunsOrShows base setting) line (record (sitting old) { line = k }) (sitting new) text) is by;
        };
      }

  -- what it does is done by the session that it began as
  pub sat : (start a b : Session C J G) (lines : List (List ℕ)) (text : List ℕ) → IsSame start a → Chain (TakesInSession passed base setting) a b lines text
      → TakesLines (passed start.gate.now start.number) base setting (sitting a) (sitting b) lines text × IsSame start b
  sat start a b [] text same (is, none) = ((stays-sitting a b is, none), stays-same start a b is same)
  sat start a b (line ∷ lines) text same (mid, first, rest, step, more, reported) =
      let (others, still) = sat start mid b lines rest (same-then same step.same) more in
      ((sitting mid, first, rest, rw (sym same.gate, sym same.number) step.takes, others, reported), still)

-- what holds of a session where nothing is run and where a command is holds of it whatever is asked
request-moves : (base : PlainDurable) (setting : Setting) (Moves : Sitting → Sitting → Type 0) (still : (a b : Sitting) → b ≡ a → Moves a b)
    (runs : (o : Option PlainPacket) (c : Command) (a b : Sitting) (text : List ℕ) → RunsBy o base setting c a b text → Moves a b)
    (q : Request) (a b : Sitting) (text : List ℕ) → RunsOrShows base setting q a b text → Moves a b
request-moves base setting Moves still runs (Run c) a b text ran = runs (packet_in c) c a b text ran
request-moves base setting Moves still runs ShowStatus a b text shown = still a b shown.same
request-moves base setting Moves still runs (ShowAnchors path) a b text shown = still a b shown.same

-- and so whatever its line is
pub line-moves : (base : PlainDurable) (setting : Setting) (Moves : Sitting → Sitting → Type 0) (still : (a b : Sitting) → b ≡ a → Moves a b)
    (runs : (o : Option PlainPacket) (c : Command) (a b : Sitting) (text : List ℕ) → RunsBy o base setting c a b text → Moves a b)
    (line : List ℕ) (a b : Sitting) (text : List ℕ) → IsReplyTo (RunsOrShows base setting) line a b text → Moves a b
line-moves base setting Moves still runs line a b text reported = reply-moves (RunsOrShows base setting) Moves still (request-moves base setting Moves still runs) line a b text reported

-- What is looked at of a line, in a session that asks.
use Rattle.std.proofs.{Common.{◌≡◌, ◌≤◌, ℕ, Bool, true, false, List, length, ap, subst, arith}, lemmas.List.{length-take, take_all}}
use Rattle.pf_core.specs.{Durable.Changes.PlainDurable, Worlds.Setting}
use Rattle.pf_session.specs.declared.server.asking.Asker.{Asker}
use Rattle.pf_session.specs.{LineEngine.Lines.seen, Laws.Seeing.seen-replied, Server.Askings.{AsksOrShows, IsHeard, denies, first_word, is_denied}, Server.AskingRuns.{TakesInAsking, place}, Server.Sittings.{Sitting, at_next_line}}

-- what is looked at of that is all of it
seen-seen : (line : List ℕ) → seen (seen line) ≡ seen line
seen-seen line = let few : length (seen line) ≤ 4097 = omega (arith, length-take 4097 line) in take_all 4097 (seen line) few

pub seen-denied : (line : List ℕ) → is_denied (seen line) ≡ is_denied line
seen-denied line = ap (λ (l : List ℕ). denies (first_word l)) (seen-seen line)

seen-heard : (denied : Bool) (base : PlainDurable) (setting : Setting) (line : List ℕ) (old new : Sitting) (text : List ℕ)
    → IsHeard denied base setting (seen line) old new text → IsHeard denied base setting line old new text
seen-heard true base setting line old new text denied = denied
seen-heard false base setting line old new text reported = seen-replied (AsksOrShows base setting) old new line text reported

module _ {A J G : Type 0} (passed : G → ℕ → ℕ → Type 0) (base : PlainDurable) (setting : Setting) where
  pub asks-seen : (old new : Asker A J G) (line text : List ℕ) → TakesInAsking passed base setting (seen line) old new text → TakesInAsking passed base setting line old new text
  asks-seen old new line text p = record {
    same = p.same;
    takes = record {
      gate = p.takes.gate;
      reported = seen-heard (is_denied line) base setting line (at_next_line (place old)) (place new) text
          (subst (λ (d : Bool). IsHeard d base setting (seen line) (at_next_line (place old)) (place new) text) (seen-denied line) p.takes.reported);
    };
  }

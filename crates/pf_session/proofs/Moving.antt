-- A session as it is seen through a function of its states, along what stays true of them.
use Rattle.std.proofs.Common.{ℕ, List, ◌++◌, Option, Result, Ok, Err, inl, inr, ap, sym, subst}
use Rattle.pf_session.specs.declared.line_engine.fault.EngineFault.{EngineFault}
use Rattle.pf_session.specs.declared.line_engine.fault.EngineFault.TheVariants as fault
use Rattle.pf_session.specs.declared.{line_engine.left_off.LeftOff.LeftOff, line_engine.left_off.LeftOff.TheVariants.{Ended, Paused}}
use Rattle.pf_session.specs.{LineEngine.Sessions.{Answered, CutOff, SessionEnds, IsSession}, LineEngine.Intakes.{IsPart, LeavesOff, PlainIntake}}

module _ {A B L : Type 0} (f : A → B) (Stays : A → Type 0) (P : A → A → List L → List ℕ → Type 0) (Q : B → B → List L → List ℕ → Type 0)
    (step : (a b : A) (ls : List L) (text : List ℕ) → Stays a → P a b ls text → Q (f a) (f b) ls text × Stays b) where
  pub answered-as : {ls : List L} {a b : A} {h i : Option (List ℕ)} → Stays a → Answered P ls a b h i → Answered Q ls (f a) (f b) h i × Stays b
  answered-as {ls} {a} {b} stays all =
      let (served, now) = step a b ls all.text stays all.served in
      (record { text = all.text; served = served; written = all.written }, now)

  pub cut_off-as : {ls : List L} {a b : A} {h i : Option (List ℕ)} → Stays a → CutOff P ls a b h i → CutOff Q ls (f a) (f b) h i × Stays b
  cut_off-as {ls} {a} {b} stays cut =
      let (answered, mid) = answered-as stays cut.answered in
      let (served, now) = step cut.before b cut.last cut.text mid cut.served in (
        record {
          earlier = cut.earlier;
          last = cut.last;
          others = cut.others;
          lines_are = cut.lines_are;
          one = cut.one;
          before = f cut.before;
          mid = cut.mid;
          answered = answered;
          text = cut.text;
          served = served;
          front = cut.front;
        },
        now,
      )

module _ {A B : Type 0} (f : A → B) (Stays : A → Type 0) (P : A → A → List (List ℕ) → List ℕ → Type 0) (Q : B → B → List (List ℕ) → List ℕ → Type 0)
    (step : (a b : A) (ls : List (List ℕ)) (text : List ℕ) → Stays a → P a b ls text → Q (f a) (f b) ls text × Stays b) where
  ends-as : (result : Result (Unit {0}) EngineFault) (input : List ℕ) (lines : List (List ℕ)) (rest : List ℕ) (unread : Option (List ℕ)) (a b : A) (h i : Option (List ℕ)) → Stays a
      → SessionEnds P result input lines rest unread a b h i → SessionEnds Q result input lines rest unread (f a) (f b) h i × Stays b
  ends-as (Ok u) input lines rest unread a b h i stays (answered, end) = let (seen, now) = answered-as f Stays P Q step stays answered in ((seen, end), now)
  ends-as (Err fault.Read) input lines rest unread a b h i stays answered = answered-as f Stays P Q step stays answered
  ends-as (Err fault.Write) input lines rest unread a b h i stays (inl cut) = let (seen, now) = cut_off-as f Stays P Q step stays cut in (inl seen, now)
  ends-as (Err fault.Write) input lines rest unread a b h i stays (inr (cut, end)) = let (seen, now) = cut_off-as f Stays P Q step stays cut in (inr (seen, end), now)
  ends-as (Err fault.Memory) input lines rest unread a b h i stays (none, same, written) = ((none, ap f same, written), subst Stays (sym same) stays)

  pub session-as : {result : Result (Unit {0}) EngineFault} {unread still_unread : Option (List ℕ)} {a b : A} {h i : Option (List ℕ)} → Stays a
      → IsSession P result unread still_unread a b h i → IsSession Q result unread still_unread (f a) (f b) h i × Stays b
  session-as {result} {unread} {still_unread} {a} {b} {h} {i} stays s =
      let (ends, now) = ends-as result s.input s.lines s.rest still_unread a b h i stays s.ends in
      (record { input = s.input; lines = s.lines; rest = s.rest; read = s.read; cut = s.cut; ends = ends }, now)

  leaves-as : (result : Result LeftOff EngineFault) (input : List ℕ) (intake : PlainIntake) (unread : Option (List ℕ)) (a b : A) (h i : Option (List ℕ)) → Stays a
      → LeavesOff P result input intake unread a b h i → LeavesOff Q result input intake unread (f a) (f b) h i × Stays b
  leaves-as (Ok Paused) input intake unread a b h i stays s =
      let (answered, now) = answered-as f Stays P Q step stays s.so_far.answered in (
        record {
          before = s.before;
          so_far = record { lines = s.so_far.lines; rest = s.so_far.rest; cut = s.so_far.cut; kept_is = s.so_far.kept_is; answered = answered };
          input_is = s.input_is;
        },
        now,
      )
  leaves-as (Ok Ended) input intake unread a b h i stays e =
      let (ends, now) = ends-as (Ok tt) input e.lines e.rest unread a b h i stays e.ends in (record { lines = e.lines; rest = e.rest; cut = e.cut; ends = ends }, now)
  leaves-as (Err fault.Read) input intake unread a b h i stays e =
      let (ends, now) = ends-as (Err fault.Read) input e.lines e.rest unread a b h i stays e.ends in (record { lines = e.lines; rest = e.rest; cut = e.cut; ends = ends }, now)
  leaves-as (Err fault.Write) input intake unread a b h i stays e =
      let (ends, now) = ends-as (Err fault.Write) input e.lines e.rest unread a b h i stays e.ends in (record { lines = e.lines; rest = e.rest; cut = e.cut; ends = ends }, now)
  leaves-as (Err fault.Memory) input intake unread a b h i stays never = absurd never

  pub part-as : {result : Result LeftOff EngineFault} {text : List ℕ} {intake : PlainIntake} {unread still_unread : Option (List ℕ)} {a b : A} {h i : Option (List ℕ)} → Stays a
      → IsPart P result text intake unread still_unread a b h i → IsPart Q result text intake unread still_unread (f a) (f b) h i × Stays b
  part-as {result} {text} {intake} {unread} {still_unread} {a} {b} {h} {i} stays p =
      let (leaves, now) = leaves-as result (text ++ p.input) intake still_unread a b h i stays p.leaves in
      (record { input = p.input; read = p.read; leaves = leaves }, now)

-- A session that pauses and goes on.
use Rattle.std.proofs.{Common.{◌≡◌, ℕ, ◌+◌, ◌-◌, ◌≤◌, List, [], ◌++◌, length, take, drop, Option, Result, Ok, Err, inl, refl, sym, ap, ◌∙◌, subst, append_assoc, append-nil, arith}, KnownBytes.{Appends-nil, Consumes-nil, Consumes-trans, Consumes-kept}, lemmas.List.Elements.{All-nil, All-take}, lemmas.List.{drop-drop, drop-take, take-append-drop, take_all}}
use Rattle.std.specs.{Prelude.{◌≢◌, slice_range}, Io.KnownBytes.{Consumes, Keeps}}
use Rattle.pf_session.specs.declared.line_engine.{fault.EngineFault.EngineFault, left_off.LeftOff.LeftOff, left_off.LeftOff.TheVariants.{Ended}}
use Rattle.pf_session.specs.declared.line_engine.fault.EngineFault.TheVariants as fault
use Rattle.pf_session.specs.{LineEngine.Chains.Chain, LineEngine.Lines.{IsCut, IsLine, newline}, LineEngine.Pieces.{SessionSoFar, Failed}, LineEngine.Intakes.{AnsweredSoFar, EndsWith, HasBegun, IsPart, LeavesOff, PlainIntake, nothing_read}, LineEngine.Sessions.IsSession}
use Rattle.pf_session.proofs.{Chains.chain-none, Cutting.cut-more, AnsweredLines.{cut-longer, flushed, still-so_far}}

module _ {S : Type 0} (Takes : List ℕ → S → S → List ℕ → Type 0) where
  -- a session that goes on: its line has begun, and no whole line comes before it
  pub goes-on : {intake : PlainIntake} (begun : List ℕ) (state : S) (held : Option (List ℕ)) → HasBegun intake begun → AnsweredSoFar (Chain Takes) (begun ++ intake.ahead) intake state state held held
  goes-on begun state held (line, kept) = record {
    before = begun;
    so_far = record {
      lines = [];
      rest = begun;
      cut = record { joined = refl; whole = All-nil IsLine; unended = line };
      kept_is = kept;
      answered = record { text = []; served = chain-none Takes state; written = Appends-nil held };
    };
    input_is = refl;
  }

  -- it is all that was read so far
  pub kept-so_far : {kept : List ℕ} (state : S) (held : Option (List ℕ)) → IsLine kept → length kept ≤ 4097 → SessionSoFar (Chain Takes) kept kept state state held held
  unfolding goes-on
  kept-so_far {kept} state held line few =
      let intake : PlainIntake = record { kept = kept; ahead = [] } in
      (goes-on {intake = intake} kept state held (line, sym (take_all 4097 kept few))).so_far

  -- what is kept is of a line
  pub kept-line : {input kept : List ℕ} {a b : S} {h i : Option (List ℕ)} → SessionSoFar (Chain Takes) input kept a b h i → IsLine kept
  kept-line s = subst IsLine (sym s.kept_is) (All-take (λ b. b ≢ newline) 4097 s.rest s.cut.unended)

  -- where all was looked at, more is read
  pub more-read : {input : List ℕ} {old new : PlainIntake} {a b : S} {h i : Option (List ℕ)} → old.ahead ≡ [] → new.kept ≡ old.kept → AnsweredSoFar (Chain Takes) input old a b h i → AnsweredSoFar (Chain Takes) (input ++ new.ahead) new a b h i
  more-read {old = old} {new = new} {a = a} {b = b} {h = h} {i = i} none kept s = record {
    before = s.before;
    so_far = subst (λ (k : List ℕ). SessionSoFar (Chain Takes) s.before k a b h i) (sym kept) s.so_far;
    input_is = ap (λ (l : List ℕ). l ++ new.ahead) (s.input_is ∙ ap (λ (l : List ℕ). s.before ++ l) none ∙ append-nil s.before);
  }

  -- these bytes more were looked at
  pub looked-on : {input : List ℕ} {old : PlainIntake} (new : PlainIntake) (bytes : List ℕ) {a b c : S} {h i j : Option (List ℕ)} → (s : AnsweredSoFar (Chain Takes) input old a b h i) → bytes ++ new.ahead ≡ old.ahead
      → SessionSoFar (Chain Takes) (s.before ++ bytes) new.kept a c h j → AnsweredSoFar (Chain Takes) input new a c h j
  looked-on new bytes s is so_far = record {
    before = s.before ++ bytes;
    so_far = so_far;
    input_is = s.input_is ∙ ap (λ (l : List ℕ). s.before ++ l) (sym is) ∙ sym (append_assoc s.before bytes new.ahead);
  }

  -- a flush that worked
  pub still-answered : {input : List ℕ} {intake : PlainIntake} {a b : S} {h i : Option (List ℕ)} (j : Option (List ℕ)) → Keeps i j → AnsweredSoFar (Chain Takes) input intake a b h i → AnsweredSoFar (Chain Takes) input intake a b h j
  still-answered j keeps s = record { before = s.before; so_far = still-so_far Takes j keeps s.so_far; input_is = s.input_is }

  -- a flush that failed
  pub unflushed : {input : List ℕ} {intake : PlainIntake} {a b : S} {h i : Option (List ℕ)} (j unread : Option (List ℕ)) → Keeps i j → AnsweredSoFar (Chain Takes) input intake a b h i → EndsWith (Chain Takes) (Err fault.Write) input unread a b h j
  unflushed {intake = intake} j unread keeps s =
      let (others, rest, cut) = cut-more intake.ahead s.so_far.cut in
      let failed : Result ℕ ℕ = Err 0 in
      record {
        lines = s.so_far.lines ++ others;
        rest = rest;
        cut = subst (λ (l : List ℕ). IsCut l (s.so_far.lines ++ others) rest) (sym s.input_is) cut;
        ends = inl (cut-longer Takes others (flushed Takes failed j s.so_far.answered keeps));
      }

  -- a write that failed
  pub write-failed : {input : List ℕ} {a b : S} {h i : Option (List ℕ)} (unread : Option (List ℕ)) → Failed (Chain Takes) input a b h i → EndsWith (Chain Takes) (Err fault.Write) input unread a b h i
  write-failed unread f = record { lines = f.lines; rest = f.rest; cut = f.cut; ends = inl f.cut_off }

  -- all was looked at
  pub whole-cut : {input : List ℕ} {intake : PlainIntake} {a b : S} {h i : Option (List ℕ)} → intake.ahead ≡ [] → (s : AnsweredSoFar (Chain Takes) input intake a b h i) → IsCut input s.so_far.lines s.so_far.rest
  whole-cut none s = subst (λ (l : List ℕ). IsCut l s.so_far.lines s.so_far.rest) (sym (s.input_is ∙ ap (λ (l : List ℕ). s.before ++ l) none ∙ append-nil s.before)) s.so_far.cut

  pub read-failed : {input : List ℕ} {intake : PlainIntake} {a b : S} {h i : Option (List ℕ)} (unread : Option (List ℕ)) → intake.ahead ≡ [] → AnsweredSoFar (Chain Takes) input intake a b h i → EndsWith (Chain Takes) (Err fault.Read) input unread a b h i
  read-failed unread none s = record { lines = s.so_far.lines; rest = s.so_far.rest; cut = whole-cut none s; ends = s.so_far.answered }

  -- ---- a part so far

  -- what was read behind this text, and what was answered of both
  pub record PartSoFar (text : List ℕ) (intake : PlainIntake) (unread still_unread : Option (List ℕ)) (old new : S) (held held' : Option (List ℕ)) : Type 0 where
    pub input : List ℕ
    pub read : Consumes unread still_unread input
    pub so_far : AnsweredSoFar (Chain Takes) (text ++ input) intake old new held held'

  pub part-begun : (intake : PlainIntake) (begun : List ℕ) (unread : Option (List ℕ)) (state : S) (held : Option (List ℕ)) → HasBegun intake begun → PartSoFar (begun ++ intake.ahead) intake unread unread state state held held
  part-begun intake begun unread state held is = record {
    input = [];
    read = Consumes-nil unread;
    so_far = rw (append-nil (begun ++ intake.ahead)) (goes-on {intake = intake} begun state held is);
  }

  -- nothing more was read
  pub part-answered : {text : List ℕ} {intake intake' : PlainIntake} {unread still_unread : Option (List ℕ)} {a b c : S} {h i j : Option (List ℕ)} → (p : PartSoFar text intake unread still_unread a b h i)
      → AnsweredSoFar (Chain Takes) (text ++ p.input) intake' a c h j → PartSoFar text intake' unread still_unread a c h j
  part-answered p s = record { input = p.input; read = p.read; so_far = s }

  pub part-more : {text : List ℕ} {old new : PlainIntake} {unread mid_unread : Option (List ℕ)} (still_unread : Option (List ℕ)) {a b : S} {h i : Option (List ℕ)} → old.ahead ≡ [] → new.kept ≡ old.kept → Consumes mid_unread still_unread new.ahead
      → PartSoFar text old unread mid_unread a b h i → PartSoFar text new unread still_unread a b h i
  part-more {text} {old} {new} {unread} {mid_unread} still_unread none kept read p = record {
    input = p.input ++ new.ahead;
    read = Consumes-trans unread mid_unread still_unread p.input new.ahead p.read read;
    so_far = rw (← append_assoc text p.input new.ahead) (more-read none kept p.so_far);
  }

  -- a read that gave nothing
  pub part-waited : {text : List ℕ} {old new : PlainIntake} {unread mid_unread : Option (List ℕ)} (still_unread : Option (List ℕ)) {a b : S} {h i : Option (List ℕ)} → old.ahead ≡ [] → new.kept ≡ old.kept → new.ahead ≡ [] → Keeps mid_unread still_unread
      → PartSoFar text old unread mid_unread a b h i → PartSoFar text new unread still_unread a b h i
  part-waited {text} {old} {new} {unread} {mid_unread} still_unread {a} {b} {h} {i} none kept nothing keeps p = record {
    input = p.input;
    read = Consumes-kept unread mid_unread still_unread p.input p.read keeps;
    so_far = let same : (text ++ p.input) ++ new.ahead ≡ text ++ p.input = ap (λ (l : List ℕ). (text ++ p.input) ++ l) nothing ∙ append-nil (text ++ p.input) in
        subst (λ (l : List ℕ). AnsweredSoFar (Chain Takes) l new a b h i) same (more-read none kept p.so_far);
  }

  pub part-left : (result : Result LeftOff EngineFault) {text : List ℕ} {intake intake' : PlainIntake} {unread still_unread : Option (List ℕ)} {a b c : S} {h i j : Option (List ℕ)} → (p : PartSoFar text intake unread still_unread a b h i)
      → LeavesOff (Chain Takes) result (text ++ p.input) intake' still_unread a c h j → IsPart (Chain Takes) result text intake' unread still_unread a c h j
  part-left result p leaves = record { input = p.input; read = p.read; leaves = leaves }

  -- ---- a whole session

  -- nothing was read before
  pub from-nothing : {result : Result LeftOff EngineFault} {intake' : PlainIntake} {unread still_unread : Option (List ℕ)} {a b : S} {h i : Option (List ℕ)} (intake : PlainIntake) → intake ≡ nothing_read
      → ((begun : List ℕ) → HasBegun intake begun → IsPart (Chain Takes) result (begun ++ intake.ahead) intake' unread still_unread a b h i) → IsPart (Chain Takes) result [] intake' unread still_unread a b h i
  from-nothing {result} {intake'} {unread} {still_unread} {a} {b} {h} {i} intake none part =
      subst (λ (k : PlainIntake). (begun : List ℕ) → HasBegun k begun → IsPart (Chain Takes) result (begun ++ k.ahead) intake' unread still_unread a b h i) none part [] (All-nil (λ b. b ≢ newline), refl)

  ends-session : {result : Result (Unit {0}) EngineFault} {input : List ℕ} (unread : Option (List ℕ)) {still_unread : Option (List ℕ)} {a b : S} {h i : Option (List ℕ)} → Consumes unread still_unread input
      → EndsWith (Chain Takes) result input still_unread a b h i → IsSession (Chain Takes) result unread still_unread a b h i
  ends-session {input = input} unread read e = record { input = input; lines = e.lines; rest = e.rest; read = read; cut = e.cut; ends = e.ends }

  pub ended-session : {intake' : PlainIntake} (unread : Option (List ℕ)) {still_unread : Option (List ℕ)} {a b : S} {h i : Option (List ℕ)} → IsPart (Chain Takes) (Ok Ended) [] intake' unread still_unread a b h i
      → IsSession (Chain Takes) (Ok tt) unread still_unread a b h i
  ended-session unread p = ends-session unread p.read p.leaves

  pub failed-session : (why : EngineFault) {intake' : PlainIntake} (unread : Option (List ℕ)) {still_unread : Option (List ℕ)} {a b : S} {h i : Option (List ℕ)} → IsPart (Chain Takes) (Err why) [] intake' unread still_unread a b h i
      → IsSession (Chain Takes) (Err why) unread still_unread a b h i
  failed-session fault.Read unread p = ends-session unread p.read p.leaves
  failed-session fault.Write unread p = ends-session unread p.read p.leaves
  failed-session fault.Memory unread p = absurd p.leaves

-- the next bytes of a range, and those behind them
pub range-taken : (xs : List ℕ) (from to n : ℕ) → from + n ≤ to → take n (slice_range xs from to) ++ slice_range xs (from + n) to ≡ slice_range xs from to
range-taken xs from to n low =
    let ys = slice_range xs from to in
    let count : n + (to - (from + n)) ≡ to - from = omega (arith, low) in
    let following : drop n ys ≡ slice_range xs (from + n) to =
    ap (λ (k : ℕ). drop n (take k (drop from xs))) (sym count) ∙ drop-take n (to - (from + n)) (drop from xs) ∙ ap (λ (l : List ℕ). take (to - (from + n)) l) (drop-drop n from xs) in
    ap (λ (l : List ℕ). take n ys ++ l) (sym following) ∙ take-append-drop n ys

-- a range from the start on
pub range-all : (xs : List ℕ) (n : ℕ) → slice_range xs 0 n ≡ take n xs
range-all xs n = let same : n - 0 ≡ n = omega arith in ap (λ (k : ℕ). take k xs) same

-- what is kept of a line is all that is looked at of it
pub begun-kept : (intake : PlainIntake) → IsLine intake.kept → length intake.kept ≤ 4097 → HasBegun intake intake.kept
begun-kept intake line few = (line, sym (take_all 4097 intake.kept few))

-- Lines of a session whose commands are run one after the other, or as a group.
use Rattle.std.proofs.{Common.{◌≡◌, ◌∙◌, ℕ, suc, ◌+◌, ◌<◌, List, [], ◌∷◌, ◌++◌, length, true, Option, Some, None, Result, Ok, Err, inl, inr, refl, sym, ap, subst, append_assoc, append-nil, arith, length-append}, KnownBytes.{Appends-nil, Appends-trans}}
use Rattle.std.specs.Io.KnownBytes.{Appends}
use Rattle.pf_addr.specs.Writing.{WritesFront}
use Rattle.pf_core.specs.declared.{command.Command.Command, command.Command.TheVariants.{Transact, Edit, States, Ask, History}, reply.Refusal.Refusal, reply.Refusal.TheVariants.Fault, reply.Reply.TheVariants.Refused}
use Rattle.pf_core.specs.{Commands.may_be_grouped, Durable.Changes.PlainDurable, Worlds.{Setting, log_of, heard_group}}
use Rattle.pf_rule.specs.Packets.{PlainPacket}
use Rattle.pf_line.specs.{declared.{request.Request.Request, request.Request.TheVariants.Run}, Grammar.Spoken, Lines.{Means, Parses, line_at}, Reply.Replies.reply_text}
use Rattle.pf_book.specs.{Groups.{Answered as Receipted, IsAnsweredAsAlone, IsGroupAnswered, replies_of}, Receipts.PlainReceipt}
use Rattle.pf_session.specs.declared.server.session.Session.{Session}
use Rattle.pf_session.specs.{LineEngine.{Chains.Chain, Lines.seen, Sessions.{Answered, CutOff}}, Server.{Sittings.{IsAnsweredInGroup, Keeps, RunsBy, Sitting, at_next_line, next_line, packet_in}, SessionRuns.{AreMeant, HavePassed, IsMeant, IsSame, TakesInSession, sitting}, Streams.last_receipt}}
use Rattle.pf_session.specs.Laws.Seeing.{seen-says}
use Rattle.pf_session.proofs.{Chains.{chain-none, chain-one, chain-then}, Places.as-many, Sitting.{same-still, same-then}}

-- ---- what lines mean

pub none-meant : (lines : List (List ℕ)) → AreMeant lines [] → lines ≡ []
none-meant [] meant = refl
none-meant (line ∷ lines) meant = absurd meant

-- the line of the first command
record IsFirst (lines : List (List ℕ)) (c : Command) (left : List Command) : Type 0 where
  line : List ℕ
  rest : List (List ℕ)
  is : lines ≡ line ∷ rest
  meant : IsMeant line c
  following : AreMeant rest left

first-meant : (lines : List (List ℕ)) (c : Command) (left : List Command) → AreMeant lines (c ∷ left) → IsFirst lines c left
first-meant [] c left meant = absurd meant
first-meant (line ∷ lines) c left meant = record { line = line; rest = lines; is = refl; meant = meant.0; following = meant.1 }

pub one-meant : (line : List ℕ) (c : Command) → IsMeant line c → AreMeant (line ∷ []) (c ∷ [])
one-meant line c meant = (meant, tt)

pub meant-more : (lines : List (List ℕ)) (commands : List Command) (line : List ℕ) (c : Command) → AreMeant lines commands → IsMeant line c → AreMeant (lines ++ line ∷ []) (commands ++ c ∷ [])
meant-more [] [] line c all one = (one, tt)
meant-more [] (k ∷ commands) line c all one = absurd all
meant-more (l ∷ lines) [] line c all one = absurd all
meant-more (l ∷ lines) (k ∷ commands) line c all one = (all.0, meant-more lines commands line c all.1 one)

-- what isn't looked at of a line makes no difference
pub meant-seen : (line whole : List ℕ) (c : Command) → line ≡ seen whole → IsMeant line c → IsMeant whole c
meant-seen line whole c is meant = record {
  means = subst (λ (said : Result (Option Spoken) Refusal). Means said (Ok (Some (Run c)))) (ap line_at is ∙ seen-says whole) meant.means;
  unjudged = meant.unjudged;
}

-- what was read of a line is meant
pub read-meant : (line : List ℕ) (said : Result (Option Request) Refusal) (c : Command) → Parses said (line_at line) → said ≡ Ok (Some (Run c)) → packet_in c ≡ None → IsMeant line c
read-meant line said c parses is unjudged = by (subst (λ (r : Result (Option Request) Refusal). Parses r (line_at line)) is parses) where
  by : Parses (Ok (Some (Run c))) (line_at line) → IsMeant line c
  by (inl means) = record { means = means; unjudged = unjudged }
  by (inr none) = absurd (cc (none))

-- what a group may have is no question
pub grouped-unjudged : (c : Command) → may_be_grouped c ≡ true → packet_in c ≡ None
grouped-unjudged (Transact t) may = refl
grouped-unjudged (Edit e) may = refl
grouped-unjudged (States s) may = refl
grouped-unjudged (Ask q) may = absurd (cc (may))
grouped-unjudged (History h) may = refl

-- the command of the next answer
record IsAsked (later : List Command) (left : List Receipted) : Type 0 where
  c : Command
  rest : List Command
  is : later ≡ c ∷ rest
  long : length left ≡ length rest

asked-first : (later : List Command) (a : Receipted) (left : List Receipted) → length (a ∷ left) ≡ length later → IsAsked later left
asked-first [] a left long = absurd (omega (arith, long))
asked-first (c ∷ later) a left long = record { c = c; rest = later; is = refl; long = omega (arith, long) }

-- the next of them
record IsNextOf (commands earlier later : List Command) : Type 0 where
  c : Command
  rest : List Command
  is : later ≡ c ∷ rest

next-first : (commands earlier later : List Command) (n : ℕ) → commands ≡ earlier ++ later → length earlier ≡ n → n < length commands → IsNextOf commands earlier later
next-first commands earlier [] n split place low = absurd (omega (arith, place, low, ap length split, length-append earlier []))
next-first commands earlier (c ∷ later) n split place low = record { c = c; rest = later; is = refl }

-- ---- the gate

pub passed-on : (passed : ℕ → Type 0) (start line n k : ℕ) → ((m : ℕ) → HavePassed passed line m → HavePassed passed start (n + m)) → passed (next_line line) → HavePassed passed (next_line line) k → HavePassed passed start ((n + 1) + k)
passed-on passed start line n k all one more = let same : n + suc k ≡ (n + 1) + k = omega arith in subst (λ (m : ℕ). HavePassed passed start m) same (all (suc k) (one, more))

module _ {C J G : Type 0} (passed : G → ℕ → ℕ → Type 0) (base : PlainDurable) (setting : Setting) where
  abbrev pub Serves : Session C J G → Session C J G → List (List ℕ) → List ℕ → Type 0
  Serves = Chain (TakesInSession passed base setting)

  -- ---- one turn

  -- the session came to its next line, whose command was run
  pub record IsTurn (c : Command) (a b : Session C J G) (text : List ℕ) : Type 0 where
    pub same : IsSame a b
    pub runs : RunsBy None base setting c (at_next_line (sitting a)) (sitting b) text

  -- with this number
  pub turn-by : (c : Command) (a b : Session C J G) (text : List ℕ) (n : ℕ) → n ≡ next_line a.line → IsSame (record a { line = n }) b → RunsBy None base setting c (record (sitting a) { line = n }) (sitting b) text → IsTurn c a b text
  turn-by c a b text n is same runs = record {
    same = record { seer = same.seer; last = same.last; number = same.number; gate = same.gate };
    runs = subst (λ (k : ℕ). RunsBy None base setting c (record (sitting a) { line = k }) (sitting b) text) is runs;
  }

  line-then : (c : Command) (a b : Session C J G) (text : List ℕ) → RunsBy None base setting c (at_next_line (sitting a)) (sitting b) text → b.line ≡ next_line a.line
  line-then c a b text (inl run) = ap (λ (s : Sitting). s.line) run.keeps.kept
  line-then c a b text (inr faulted) = ap (λ (s : Sitting). s.line) faulted.same

  -- ---- lines on their way

  -- some lines were answered, and the commands that are left are those of the others, which passed the gate
  pub record IsUnderWay (lines : List (List ℕ)) (left : List Command) (start now : Session C J G) (held held' : Option (List ℕ)) : Type 0 where
    pub done : List (List ℕ)
    pub others : List (List ℕ)
    pub split : lines ≡ done ++ others
    pub meant : AreMeant others left
    pub same : IsSame start now
    pub gates : HavePassed (passed start.gate.now start.number) now.line (length left)
    pub ran : Answered Serves done start now held held'

  pub begun : (lines : List (List ℕ)) (commands : List Command) (start : Session C J G) (held : Option (List ℕ)) → AreMeant lines commands → HavePassed (passed start.gate.now start.number) start.line (length commands) → IsUnderWay lines commands start start held held
  begun lines commands start held meant gates = record {
    done = [];
    others = lines;
    split = refl;
    meant = meant;
    same = same-still start;
    gates = gates;
    ran = record { text = []; served = chain-none (TakesInSession passed base setting) start; written = Appends-nil held };
  }

  pub all-run : {lines : List (List ℕ)} {start now : Session C J G} {h i : Option (List ℕ)} → IsUnderWay lines [] start now h i → Answered Serves lines start now h i
  all-run {lines} {start} {now} {h} {i} u =
      let whole : u.done ≡ lines = sym (u.split ∙ ap (λ (l : List (List ℕ)). u.done ++ l) (none-meant u.others u.meant) ∙ append-nil u.done) in
      subst (λ (l : List (List ℕ)). Answered Serves l start now h i) whole u.ran

  module _ {lines : List (List ℕ)} {c : Command} {left : List Command} {start a : Session C J G} {h i : Option (List ℕ)} (u : IsUnderWay lines (c ∷ left) start a h i) where
    first : IsFirst u.others c left
    first = first-meant u.others c left u.meant

    takes : (b : Session C J G) (text : List ℕ) → IsTurn c a b text → TakesInSession passed base setting first.line a b text
    takes b text t = record {
      same = t.same;
      takes = record {
        gate = rw (u.same.gate, u.same.number) u.gates.0;
        reported = inl (Ok (Some (Run c)), first.meant.means, subst (λ (o : Option PlainPacket). RunsBy o base setting c (at_next_line (sitting a)) (sitting b) text) (sym first.meant.unjudged) t.runs);
      };
    }

    pub one-more : (b : Session C J G) (text : List ℕ) (j : Option (List ℕ)) → IsTurn c a b text → Appends i j text → IsUnderWay lines left start b h j
    one-more b text j t written = record {
      done = u.done ++ first.line ∷ [];
      others = first.rest;
      split = u.split ∙ ap (λ (l : List (List ℕ)). u.done ++ l) first.is ∙ sym (append_assoc u.done (first.line ∷ []) first.rest);
      meant = first.following;
      same = same-then u.same t.same;
      gates = subst (λ (n : ℕ). HavePassed (passed start.gate.now start.number) n (length left)) (sym (line-then c a b text t.runs)) u.gates.1;
      ran = record {
        text = u.ran.text ++ text;
        served = chain-then (TakesInSession passed base setting) start a b u.done (first.line ∷ []) u.ran.text text u.ran.served (chain-one (TakesInSession passed base setting) a b first.line text (takes b text t));
        written = Appends-trans h i j u.ran.text text u.ran.written written;
      };
    }

    pub one-cut : (b : Session C J G) (text : List ℕ) (j : Option (List ℕ)) → IsTurn c a b text → WritesFront i j text → CutOff Serves lines start b h j
    one-cut b text j t front = record {
      earlier = u.done;
      last = first.line ∷ [];
      others = first.rest;
      lines_are = u.split ∙ ap (λ (l : List (List ℕ)). u.done ++ l) first.is;
      one = omega arith;
      before = a;
      mid = i;
      answered = u.ran;
      text = text;
      served = chain-one (TakesInSession passed base setting) a b first.line text (takes b text t);
      front = front;
    }

  -- ---- a group's answers

  -- some of the answers were told, and the commands of the others are those that are left
  pub record IsTelling (lines : List (List ℕ)) (commands : List Command) (reported left : List Receipted) (start now : Session C J G) (held held' : Option (List ℕ)) : Type 0 where
    pub earlier : List Command
    pub later : List Command
    pub split : commands ≡ earlier ++ later
    pub place : length reported ≡ length earlier
    pub rest : length left ≡ length later
    pub last : now.last.now ≡ last_receipt start.last.now (Ok reported)
    pub way : IsUnderWay lines later start now held held'

  pub telling-begun : (lines : List (List ℕ)) (commands : List Command) (answers : List Receipted) (start : Session C J G) (held : Option (List ℕ)) → AreMeant lines commands
      → HavePassed (passed start.gate.now start.number) start.line (length commands) → IsAnsweredAsAlone base setting commands (Ok answers) start.last.now → IsTelling lines commands [] answers start start held held
  telling-begun lines commands answers start held meant gates alone = let group = alone.group in record {
    earlier = [];
    later = commands;
    split = refl;
    place = refl;
    rest = as-many group.before (log_of (heard_group group.before commands (replies_of (Ok answers)) group.came)) [] commands answers group.receipts;
    last = refl;
    way = begun lines commands start held meant gates;
  }

  pub all-replied : {lines : List (List ℕ)} {commands : List Command} {reported left : List Receipted} {start now : Session C J G} {h i : Option (List ℕ)} → length left ≡ 0 → IsTelling lines commands reported left start now h i → Answered Serves lines start now h i
  all-replied {lines} {commands} {reported} {left} {start} {now} {h} {i} none t = by t.later (sym t.rest ∙ none) t.way where
    by : (later : List Command) → length later ≡ 0 → IsUnderWay lines later start now h i → Answered Serves lines start now h i
    by [] is way = all-run way
    by (c ∷ later) is way = absurd (omega (arith, is))

  module _ {lines : List (List ℕ)} {commands : List Command} {reported : List Receipted} (answer : Receipted) (left : List Receipted) {start a : Session C J G} {h i : Option (List ℕ)}
      (group : IsAnsweredAsAlone base setting commands (Ok (reported ++ answer ∷ left)) start.last.now) (t : IsTelling lines commands reported (answer ∷ left) start a h i) (b : Session C J G) (n : ℕ) (is : n ≡ next_line a.line)
      (same : IsSame (record a { line = n }) b) (keeps : Keeps answer.1 (record (sitting a) { line = n }) (sitting b)) where
    asks : IsAsked t.later left
    asks = asked-first t.later answer left t.rest

    whole : IsAnsweredAsAlone base setting (t.earlier ++ asks.c ∷ asks.rest) (Ok (reported ++ answer ∷ left)) start.last.now
    whole = subst (λ (cs : List Command). IsAnsweredAsAlone base setting cs (Ok (reported ++ answer ∷ left)) start.last.now) (t.split ∙ ap (λ (cs : List Command). t.earlier ++ cs) asks.is) group

    placed : IsAnsweredInGroup base setting asks.c answer.0 answer.1 a.last.now
    placed = record {
      earlier = t.earlier;
      later = asks.rest;
      reported = reported;
      others = left;
      handed = start.last.now;
      group = whole.group;
      in_turn = whole.in_turn;
      place = t.place;
      last_is = inr t.last;
    }

    turn : IsTurn asks.c a b (reply_text answer.0)
    turn = turn-by asks.c a b (reply_text answer.0) n is same (inl (record { reply = answer.0; slip = answer.1; answered = inr placed; reported = refl; keeps = keeps }))

    way : IsUnderWay lines (asks.c ∷ asks.rest) start a h i
    way = subst (λ (cs : List Command). IsUnderWay lines cs start a h i) asks.is t.way

    pub one-replied : (j : Option (List ℕ)) → Appends i j (reply_text answer.0) → IsTelling lines commands (reported ++ answer ∷ []) left start b h j
    one-replied j written = record {
      earlier = t.earlier ++ asks.c ∷ [];
      later = asks.rest;
      split = t.split ∙ ap (λ (cs : List Command). t.earlier ++ cs) asks.is ∙ sym (append_assoc t.earlier (asks.c ∷ []) asks.rest);
      place = omega (arith, t.place, length-append reported (answer ∷ []), length-append t.earlier (asks.c ∷ []));
      rest = asks.long;
      last = ap (λ (s : Sitting). s.last) keeps.kept ∙ sym (last-replied start.last.now reported answer);
      way = one-more way b (reply_text answer.0) j turn written;
    } where
      last-replied : (l : Option PlainReceipt) (front : List Receipted) (x : Receipted) → last_receipt l (Ok (front ++ x ∷ [])) ≡ Some x.1
      last-replied l [] x = refl
      last-replied l (y ∷ front) x = last-replied (Some y.1) front x

    pub reply-cut : (j : Option (List ℕ)) → WritesFront i j (reply_text answer.0) → CutOff Serves lines start b h j
    reply-cut j front = one-cut way b (reply_text answer.0) j turn front

  -- ---- a fault

  -- so many commands of a group in which the device failed were told so
  pub record IsFaulting (lines : List (List ℕ)) (commands : List Command) (count : ℕ) (start now : Session C J G) (held held' : Option (List ℕ)) : Type 0 where
    pub earlier : List Command
    pub later : List Command
    pub split : commands ≡ earlier ++ later
    pub place : length earlier ≡ count
    pub last : now.last.now ≡ start.last.now
    pub way : IsUnderWay lines later start now held held'

  pub faulting-begun : (lines : List (List ℕ)) (commands : List Command) (start : Session C J G) (held : Option (List ℕ)) → AreMeant lines commands → HavePassed (passed start.gate.now start.number) start.line (length commands)
      → IsFaulting lines commands 0 start start held held
  faulting-begun lines commands start held meant gates = record { earlier = []; later = commands; split = refl; place = refl; last = refl; way = begun lines commands start held meant gates }

  pub all-faulted : {lines : List (List ℕ)} {commands : List Command} {count : ℕ} {start now : Session C J G} {h i : Option (List ℕ)} → length commands ≡ count → IsFaulting lines commands count start now h i → Answered Serves lines start now h i
  all-faulted {lines} {commands} {count} {start} {now} {h} {i} all t = by t.later t.split t.way where
    by : (later : List Command) → commands ≡ t.earlier ++ later → IsUnderWay lines later start now h i → Answered Serves lines start now h i
    by [] split way = all-run way
    by (c ∷ later) split way = absurd (omega (arith, all, t.place, ap length split, length-append t.earlier (c ∷ later)))

  module _ {lines : List (List ℕ)} {commands : List Command} {count : ℕ} {start a : Session C J G} {h i : Option (List ℕ)}
      (group : IsGroupAnswered base setting commands (Err Fault) start.last.now) (t : IsFaulting lines commands count start a h i) (low : count < length commands) (n : ℕ) (is : n ≡ next_line a.line) where
    following : IsNextOf commands t.earlier t.later
    following = next-first commands t.earlier t.later count t.split t.place low

    fault-turn : IsTurn following.c a (record a { line = n }) (reply_text (Refused Fault))
    fault-turn = turn-by following.c a (record a { line = n }) (reply_text (Refused Fault)) n is (same-still (record a { line = n })) (inr (record {
      earlier = t.earlier;
      later = following.rest;
      group = subst (λ (l : Option PlainReceipt). IsGroupAnswered base setting (t.earlier ++ following.c ∷ following.rest) (Err Fault) l) (sym t.last)
          (subst (λ (cs : List Command). IsGroupAnswered base setting cs (Err Fault) start.last.now) (t.split ∙ ap (λ (cs : List Command). t.earlier ++ cs) following.is) group);
      reported = refl;
      same = refl;
    }))

    fault-way : IsUnderWay lines (following.c ∷ following.rest) start a h i
    fault-way = subst (λ (cs : List Command). IsUnderWay lines cs start a h i) following.is t.way

    pub one-faulted : (j : Option (List ℕ)) → Appends i j (reply_text (Refused Fault)) → IsFaulting lines commands (count + 1) start (record a { line = n }) h j
    one-faulted j written = record {
      earlier = t.earlier ++ following.c ∷ [];
      later = following.rest;
      split = t.split ∙ ap (λ (cs : List Command). t.earlier ++ cs) following.is ∙ sym (append_assoc t.earlier (following.c ∷ []) following.rest);
      place = omega (arith, t.place, length-append t.earlier (following.c ∷ []));
      last = t.last;
      way = one-more fault-way (record a { line = n }) (reply_text (Refused Fault)) j fault-turn written;
    }

    pub fault-cut : (j : Option (List ℕ)) → WritesFront i j (reply_text (Refused Fault)) → CutOff Serves lines start (record a { line = n }) h j
    fault-cut j front = one-cut fault-way (record a { line = n }) (reply_text (Refused Fault)) j fault-turn front

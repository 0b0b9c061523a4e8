-- A session, or a peer's stream, over several openings.
use Rattle.std.proofs.{Common.{◌≡◌, ◌∙◌, ℕ, List, [], ◌∷◌, ◌++◌, Option, Result, Ok, Err, inl, inr, refl, sym, ap, subst, append_assoc}, KnownBytes.{Appends-trans, Consumes-trans}, lemmas.Grind.flat_map-append, lemmas.List.Elements.All-append}
use Rattle.std.specs.{Prelude.{All, flat_map}}
use Rattle.pf_core.specs.{Durable.Changes.PlainDurable, Worlds.Setting}
use Rattle.pf_book.specs.Receipts.{PlainReceipt}
use Rattle.pf_session.specs.declared.{line_engine.fault.EngineFault.EngineFault, line_engine.left_off.LeftOff.LeftOff, line_engine.left_off.LeftOff.TheVariants.{Ended, Paused}}
use Rattle.pf_session.specs.declared.line_engine.fault.EngineFault.TheVariants as fault
use Rattle.pf_session.specs.{Laws.GoingOn.{BeginsAlone, GoesOnElsewhere, GoesOnHere, IsWhole, StreamsBeginAlone, StreamsGoOnElsewhere}, LineEngine.{Intakes.{EndsWith, HasBegun, IsPart, LeavesOff, PlainIntake}, Lines.{IsCut, IsLine, ended, last_line, newline}, Sessions.{Answered, CutOff, SessionEnds}}, Server.{Parts.{Follows, IsStreamPart, Resumes, TakesAlong, TakesPartsAlong, Within, within}, Sittings.Sitting, Streams.{ArePieces, IsStreamFrom, Piece, StreamEnds, StreamSoFar, Takes, parts_in}}}
use Rattle.pf_session.proofs.Moving.{answered-as, cut_off-as, part-as}

-- ---- whatever is answered

module _ {S L : Type 0} (Step : PlainDurable → Setting → S → S → List L → List ℕ → Type 0) (Next : Within S → Within S → Type 0) (base : PlainDurable) (setting : Setting) where
  pub along-one : (a b : S) (items : List L) (text : List ℕ) → Step base setting a b items text → TakesAlong Step Next (within base setting a) (within base setting b) items text
  along-one a b items text step = ([], (refl, refl, step))

  along-then : (a left : S) (begun c : Within S) (xs ys : List L) (s t : List ℕ) → Step base setting a left xs s → Next (within base setting left) begun → TakesAlong Step Next begun c ys t
      → TakesAlong Step Next (within base setting a) c (xs ++ ys) (s ++ t)
  along-then a left begun c xs ys s t step next (others, goes) = (begun ∷ others, (left, xs, ys, s, t, step, next, goes, refl, refl))

  pub answered-along : {xs ys : List L} {a left : S} {begun c : Within S} {h i j : Option (List ℕ)} → Answered (Step base setting) xs a left h i → Next (within base setting left) begun
      → Answered (TakesAlong Step Next) ys begun c i j → Answered (TakesAlong Step Next) (xs ++ ys) (within base setting a) c h j
  answered-along {xs} {ys} {a} {left} {begun} {c} {h} {i} {j} p next q = record {
    text = p.text ++ q.text;
    served = along-then a left begun c xs ys p.text q.text p.served next q.served;
    written = Appends-trans h i j p.text q.text p.written q.written;
  }

  pub cut-along : {xs ys : List L} {a left : S} {begun c : Within S} {h i j : Option (List ℕ)} → Answered (Step base setting) xs a left h i → Next (within base setting left) begun
      → CutOff (TakesAlong Step Next) ys begun c i j → CutOff (TakesAlong Step Next) (xs ++ ys) (within base setting a) c h j
  cut-along {xs} p next q = record {
    earlier = xs ++ q.earlier;
    last = q.last;
    others = q.others;
    lines_are = ap (λ (l : List L). xs ++ l) q.lines_are ∙ sym (append_assoc xs q.earlier (q.last ++ q.others));
    one = q.one;
    before = q.before;
    mid = q.mid;
    answered = answered-along p next q.answered;
    text = q.text;
    served = q.served;
    front = q.front;
  }

  -- in the same opening
  module _ (join : (a b c : S) (xs ys : List L) (s t : List ℕ) → Step base setting a b xs s → Step base setting b c ys t → Step base setting a c (xs ++ ys) (s ++ t)) where
    along-here : (a left : S) (c : Within S) (xs ys : List L) (s t : List ℕ) → Step base setting a left xs s → TakesAlong Step Next (within base setting left) c ys t
        → TakesAlong Step Next (within base setting a) c (xs ++ ys) (s ++ t)
    along-here a left c xs ys s t step ([], (same, kept, more)) = ([], (same, kept, join a left c.here xs ys s t step more))
    along-here a left c xs ys s t step (begun ∷ others, (mid, first, rest, said, reported, more, next, goes, items, texts)) = (
      begun ∷ others,
      (
        mid,
        xs ++ first,
        rest,
        s ++ said,
        reported,
        join a left mid xs first s said step more,
        next,
        goes,
        ap (λ (l : List L). xs ++ l) items ∙ sym (append_assoc xs first rest),
        ap (λ (l : List ℕ). s ++ l) texts ∙ sym (append_assoc s said reported),
      ),
    )

    pub answered-here : {xs ys : List L} {a left : S} {c : Within S} {h i j : Option (List ℕ)} → Answered (Step base setting) xs a left h i
        → Answered (TakesAlong Step Next) ys (within base setting left) c i j → Answered (TakesAlong Step Next) (xs ++ ys) (within base setting a) c h j
    answered-here {xs} {ys} {a} {left} {c} {h} {i} {j} p q = record {
      text = p.text ++ q.text;
      served = along-here a left c xs ys p.text q.text p.served q.served;
      written = Appends-trans h i j p.text q.text p.written q.written;
    }

    pub cut-here : {xs ys : List L} {a left : S} {c : Within S} {h i j : Option (List ℕ)} → Answered (Step base setting) xs a left h i
        → CutOff (TakesAlong Step Next) ys (within base setting left) c i j → CutOff (TakesAlong Step Next) (xs ++ ys) (within base setting a) c h j
    cut-here {xs} p q = record {
      earlier = xs ++ q.earlier;
      last = q.last;
      others = q.others;
      lines_are = ap (λ (l : List L). xs ++ l) q.lines_are ∙ sym (append_assoc xs q.earlier (q.last ++ q.others));
      one = q.one;
      before = q.before;
      mid = q.mid;
      answered = answered-here p q.answered;
      text = q.text;
      served = q.served;
      front = q.front;
    }

  -- what is true of each state
  abbrev any : S → Type 0
  any a = Unit {0}

  one-along : (a b : S) (items : List L) (text : List ℕ) → any a → Step base setting a b items text → TakesAlong Step Next (within base setting a) (within base setting b) items text × any b
  one-along a b items text u step = (along-one a b items text step, tt)

  pub answered-one : {items : List L} {a b : S} {h i : Option (List ℕ)} → Answered (Step base setting) items a b h i → Answered (TakesAlong Step Next) items (within base setting a) (within base setting b) h i
  answered-one p = (answered-as (within base setting) any (Step base setting) (TakesAlong Step Next) one-along tt p).0

  pub cut-one : {items : List L} {a b : S} {h i : Option (List ℕ)} → CutOff (Step base setting) items a b h i → CutOff (TakesAlong Step Next) items (within base setting a) (within base setting b) h i
  cut-one p = (cut_off-as (within base setting) any (Step base setting) (TakesAlong Step Next) one-along tt p).0

-- ---- lines

ended-append : (xs ys : List (List ℕ)) → ended (xs ++ ys) ≡ ended xs ++ ended ys
ended-append xs ys = flat_map-append (λ (line : List ℕ). line ++ newline ∷ []) xs ys

-- whole lines before a text that is cut
cut-onto : (xs : List (List ℕ)) (text : List ℕ) (ys : List (List ℕ)) (rest : List ℕ) → All IsLine xs → IsCut text ys rest → IsCut (ended xs ++ text) (xs ++ ys) rest
cut-onto xs text ys rest whole cut = record {
  joined = ap (λ (l : List ℕ). l ++ rest) (ended-append xs ys) ∙ append_assoc (ended xs) (ended ys) rest ∙ ap (λ (l : List ℕ). ended xs ++ l) cut.joined;
  whole = All-append IsLine xs ys whole cut.whole;
  unended = cut.unended;
}

-- whole lines before what was done for a text
module _ {A : Type 0} (Serves : A → A → List (List ℕ) → List ℕ → Type 0) (xs : List (List ℕ)) {old begun new : A} {held shown held' : Option (List ℕ)}
    (answered-before : (ys : List (List ℕ)) → Answered Serves ys begun new shown held' → Answered Serves (xs ++ ys) old new held held')
    (cut-before : (ys : List (List ℕ)) → CutOff Serves ys begun new shown held' → CutOff Serves (xs ++ ys) old new held held') where
  ends-along : (result : Result (Unit {0}) EngineFault) (why : (result ≡ Err fault.Memory) → ⊥) (input text : List ℕ) (lines : List (List ℕ)) (rest : List ℕ) (unread : Option (List ℕ))
      → SessionEnds Serves result input lines rest unread begun new shown held' → SessionEnds Serves result text (xs ++ lines) rest unread old new held held'
  ends-along (Ok u) why input text lines rest unread (answered, end) = (rw (append_assoc xs lines (last_line rest)) (answered-before (lines ++ last_line rest) answered), end)
  ends-along (Err fault.Read) why input text lines rest unread answered = answered-before lines answered
  ends-along (Err fault.Write) why input text lines rest unread (inl cut) = inl (cut-before lines cut)
  ends-along (Err fault.Write) why input text lines rest unread (inr (cut, end)) = inr (rw (append_assoc xs lines (last_line rest)) (cut-before (lines ++ last_line rest) cut), end)
  ends-along (Err fault.Memory) why input text lines rest unread ends = absurd (why refl)

  ends-with : (result : Result (Unit {0}) EngineFault) (why : (result ≡ Err fault.Memory) → ⊥) (input text : List ℕ) (unread : Option (List ℕ)) → All IsLine xs → text ≡ ended xs ++ input
      → EndsWith Serves result input unread begun new shown held' → EndsWith Serves result text unread old new held held'
  ends-with result why input text unread whole is e = record {
    lines = xs ++ e.lines;
    rest = e.rest;
    cut = rw is (cut-onto xs input e.lines e.rest whole e.cut);
    ends = ends-along result why input text e.lines e.rest unread e.ends;
  }

  leaves-along : (result : Result LeftOff EngineFault) (intake : PlainIntake) (input text : List ℕ) (unread : Option (List ℕ)) → All IsLine xs → text ≡ ended xs ++ input
      → LeavesOff Serves result input intake unread begun new shown held' → LeavesOff Serves result text intake unread old new held held'
  leaves-along (Ok Paused) intake input text unread whole is s = record {
    before = ended xs ++ s.before;
    so_far = record {
      lines = xs ++ s.so_far.lines;
      rest = s.so_far.rest;
      cut = cut-onto xs s.before s.so_far.lines s.so_far.rest whole s.so_far.cut;
      kept_is = s.so_far.kept_is;
      answered = answered-before s.so_far.lines s.so_far.answered;
    };
    input_is = is ∙ ap (λ (l : List ℕ). ended xs ++ l) s.input_is ∙ sym (append_assoc (ended xs) s.before intake.ahead);
  }
  leaves-along (Ok Ended) intake input text unread whole is e = ends-with (Ok tt) (λ bad. cc (bad)) input text unread whole is e
  leaves-along (Err fault.Read) intake input text unread whole is e = ends-with (Err fault.Read) (λ bad. cc (bad)) input text unread whole is e
  leaves-along (Err fault.Write) intake input text unread whole is e = ends-with (Err fault.Write) (λ bad. cc (bad)) input text unread whole is e
  leaves-along (Err fault.Memory) intake input text unread whole is never = absurd never

-- a part that paused, and one behind it
module _ {A B : Type 0} (Before : B → B → List (List ℕ) → List ℕ → Type 0) (Serves : A → A → List (List ℕ) → List ℕ → Type 0)
    {text : List ℕ} {between : PlainIntake} {unread mid_unread : Option (List ℕ)} {a b : B} {held shown : Option (List ℕ)} (p : IsPart Before (Ok Paused) text between unread mid_unread a b held shown)
    {old begun new : A} {held' : Option (List ℕ)}
    (answered-before : (ys : List (List ℕ)) → Answered Serves ys begun new shown held' → Answered Serves (p.leaves.so_far.lines ++ ys) old new held held')
    (cut-before : (ys : List (List ℕ)) → CutOff Serves ys begun new shown held' → CutOff Serves (p.leaves.so_far.lines ++ ys) old new held held') where
  part-onto : (result : Result LeftOff EngineFault) (intake : PlainIntake) (still_unread : Option (List ℕ))
      → ((line : List ℕ) → HasBegun between line → IsPart Serves result (line ++ between.ahead) intake mid_unread still_unread begun new shown held') → IsPart Serves result text intake unread still_unread old new held held'
  part-onto result intake still_unread others =
      let s = p.leaves.so_far in
      let q = others s.rest (s.cut.unended, s.kept_is) in
      let xs = ended s.lines in
      let read : text ++ p.input ≡ (xs ++ s.rest) ++ between.ahead = p.leaves.input_is ∙ ap (λ (l : List ℕ). l ++ between.ahead) (sym s.cut.joined) in
      let is : text ++ (p.input ++ q.input) ≡ xs ++ ((s.rest ++ between.ahead) ++ q.input) =
      sym (append_assoc text p.input q.input) ∙ ap (λ (l : List ℕ). l ++ q.input) (read ∙ append_assoc xs s.rest between.ahead) ∙ append_assoc xs (s.rest ++ between.ahead) q.input in
      record {
        input = p.input ++ q.input;
        read = Consumes-trans unread mid_unread still_unread p.input q.input p.read q.read;
        leaves = leaves-along Serves s.lines answered-before cut-before result intake ((s.rest ++ between.ahead) ++ q.input) (text ++ (p.input ++ q.input)) still_unread s.cut.whole is q.leaves;
      }

module _ (Lines : PlainDurable → Setting → Sitting → Sitting → List (List ℕ) → List ℕ → Type 0) where
  pub begins-alone : BeginsAlone Lines
  begins-alone base setting result text intake unread still_unread old new held held' p =
      (part-as (within base setting) (any Lines Resumes base setting) (Lines base setting) (TakesAlong Lines Resumes) (one-along Lines Resumes base setting) tt p).0

  pub goes-on-elsewhere : GoesOnElsewhere Lines
  goes-on-elsewhere base setting result text between intake unread mid_unread still_unread old left begun new held shown held' p next others =
      let first = p.leaves.so_far.answered in
      part-onto (Lines base setting) (TakesAlong Lines Resumes) p (λ ys q. answered-along Lines Resumes base setting first next q) (λ ys q. cut-along Lines Resumes base setting first next q) result intake still_unread others

  -- one part behind the other in one opening
  pub goes-on-here : ((base : PlainDurable) (setting : Setting) (a b c : Sitting) (xs ys : List (List ℕ)) (s t : List ℕ) → Lines base setting a b xs s → Lines base setting b c ys t → Lines base setting a c (xs ++ ys) (s ++ t)) → GoesOnHere Lines
  goes-on-here then base setting result text between intake unread mid_unread still_unread old left new held shown held' p others =
      let first = p.leaves.so_far.answered in
      part-onto (Lines base setting) (TakesAlong Lines Resumes) p (λ ys q. answered-here Lines Resumes base setting (then base setting) first q) (λ ys q. cut-here Lines Resumes base setting (then base setting) first q) result intake still_unread others

  pub is-whole : IsWhole Lines
  is-whole intake unread still_unread old new held held' p =
      record { input = p.input; lines = p.leaves.lines; rest = p.leaves.rest; read = p.read; cut = p.leaves.cut; ends = p.leaves.ends }

-- ---- peers' streams

pieces-then : (xs ys : List Piece) (a b c : Option (List ℕ)) → ArePieces a xs b → ArePieces b ys c → ArePieces a (xs ++ ys) c
pieces-then [] ys a b c same more = subst (λ (l : Option (List ℕ)). ArePieces l ys c) same more
pieces-then (x ∷ xs) ys a b c (mid, is, rest) more = (mid, is, pieces-then xs ys mid b c rest more)

abbrev bytes-of : List Piece → List ℕ
bytes-of pieces = flat_map (λ (p : Piece). p.bytes) pieces

module _ (base : PlainDurable) (setting : Setting) where
  stream-ends-one : (result : Result (Unit {0}) EngineFault) (left : Option (List ℕ)) (bytes : List ℕ) (unread : Option (List ℕ)) (a b : Option PlainReceipt) (h i : Option (List ℕ))
      → StreamEnds (Takes base setting) result left bytes unread a b h i → StreamEnds TakesPartsAlong result left bytes unread (within base setting a) (within base setting b) h i
  stream-ends-one (Ok u) left bytes unread a b h i (none, ended, answered) = (none, ended, answered-one Takes Follows base setting answered)
  stream-ends-one (Err fault.Read) left bytes unread a b h i (none, goes, answered) = (none, goes, answered-one Takes Follows base setting answered)
  stream-ends-one (Err fault.Write) left bytes unread a b h i (inl (p, after, is, piece, cut)) = inl (p, after, is, piece, cut-one Takes Follows base setting cut)
  stream-ends-one (Err fault.Write) left bytes unread a b h i (inr (none, inl cut)) = inr (none, inl (cut-one Takes Follows base setting cut))
  stream-ends-one (Err fault.Write) left bytes unread a b h i (inr (none, inr (end, cut))) = inr (none, inr (end, cut-one Takes Follows base setting cut))
  stream-ends-one (Err fault.Memory) left bytes unread a b h i (few, goes, answered) = (few, goes, answered-one Takes Follows base setting answered)

  stream-from-one : (result : Result (Unit {0}) EngineFault) {before unread still_unread : Option (List ℕ)} {a b : Option PlainReceipt} {h i : Option (List ℕ)}
      → IsStreamFrom (Takes base setting) before result unread still_unread a b h i → IsStreamFrom TakesPartsAlong before result unread still_unread (within base setting a) (within base setting b) h i
  stream-from-one result {still_unread = still_unread} {b = b} {i = i} s = record {
    pieces = s.pieces;
    left = s.left;
    are = s.are;
    mid = within base setting s.mid;
    shown = s.shown;
    answered = answered-one Takes Follows base setting s.answered;
    bytes = s.bytes;
    read = s.read;
    ends = stream-ends-one result s.left s.bytes still_unread s.mid b s.shown i s.ends;
  }

  stream-one : (result : Result LeftOff EngineFault) (before left unread still_unread : Option (List ℕ)) (a b : Option PlainReceipt) (h i : Option (List ℕ))
      → IsStreamPart (Takes base setting) before result left unread still_unread a b h i → IsStreamPart TakesPartsAlong before result left unread still_unread (within base setting a) (within base setting b) h i
  stream-one (Ok Paused) before left unread still_unread a b h i s =
      record { pieces = s.pieces; are = s.are; going = s.going; read = s.read; answered = answered-one Takes Follows base setting s.answered }
  stream-one (Ok Ended) before left unread still_unread a b h i s = stream-from-one (Ok tt) s
  stream-one (Err why) before left unread still_unread a b h i s = stream-from-one (Err why) s

  module _ {before between unread mid_unread : Option (List ℕ)} {old last : Option PlainReceipt} {begun : Within (Option PlainReceipt)} {held shown : Option (List ℕ)}
      (s : StreamSoFar (Takes base setting) before unread mid_unread between old last held shown) (next : Follows (within base setting last) begun) (new : Within (Option PlainReceipt)) (held' : Option (List ℕ)) where
    stream-from-then : (result : Result (Unit {0}) EngineFault) (still_unread : Option (List ℕ)) → IsStreamFrom TakesPartsAlong between result mid_unread still_unread begun new shown held'
        → IsStreamFrom TakesPartsAlong before result unread still_unread (within base setting old) new held held'
    stream-from-then result still_unread q = record {
      pieces = s.pieces ++ q.pieces;
      left = q.left;
      are = pieces-then s.pieces q.pieces before between q.left s.are q.are;
      mid = q.mid;
      shown = q.shown;
      answered = rw (flat_map-append parts_in s.pieces q.pieces) (answered-along Takes Follows base setting s.answered next q.answered);
      bytes = q.bytes;
      read = rw (flat_map-append (λ (p : Piece). p.bytes) s.pieces q.pieces, append_assoc (bytes-of s.pieces) (bytes-of q.pieces) q.bytes)
          (Consumes-trans unread mid_unread still_unread (bytes-of s.pieces) (bytes-of q.pieces ++ q.bytes) s.read q.read);
      ends = q.ends;
    }

    stream-then : (result : Result LeftOff EngineFault) (left still_unread : Option (List ℕ)) → IsStreamPart TakesPartsAlong between result left mid_unread still_unread begun new shown held'
        → IsStreamPart TakesPartsAlong before result left unread still_unread (within base setting old) new held held'
    stream-then (Ok Paused) left still_unread q = record {
      pieces = s.pieces ++ q.pieces;
      are = pieces-then s.pieces q.pieces before between left s.are q.are;
      going = q.going;
      read = rw (flat_map-append (λ (p : Piece). p.bytes) s.pieces q.pieces) (Consumes-trans unread mid_unread still_unread (bytes-of s.pieces) (bytes-of q.pieces) s.read q.read);
      answered = rw (flat_map-append parts_in s.pieces q.pieces) (answered-along Takes Follows base setting s.answered next q.answered);
    }
    stream-then (Ok Ended) left still_unread q = stream-from-then (Ok tt) still_unread q
    stream-then (Err why) left still_unread q = stream-from-then (Err why) still_unread q

pub streams-begin-alone : StreamsBeginAlone
streams-begin-alone base setting result before left unread still_unread old new held held' s = stream-one base setting result before left unread still_unread old new held held' s

pub streams-go-on-elsewhere : StreamsGoOnElsewhere
streams-go-on-elsewhere base setting result before between left unread mid_unread still_unread old last begun new held shown held' s next q = stream-then base setting s next new held' result left still_unread q

-- A peer's stream that comes in pieces.
use Rattle.std.proofs.{Common.{◌≡◌, ◌∙◌, ℕ, ◌≤◌, length, List, [], ◌∷◌, ◌++◌, Option, Some, None, Result, Ok, Err, inl, inr, refl, sym, ap, subst, append_assoc, append-nil, arith}, KnownBytes.{Appends-nil, Appends-trans, Consumes-kept, Consumes-nil, Consumes-trans}, lemmas.Grind.flat_map-append}
use Rattle.std.specs.{Prelude.{flat_map}, Io.KnownBytes.{Appends, Consumes, IsAtEnd, Keeps}}
use Rattle.pf_addr.specs.Writing.{Appends-kept, WritesFront}
use Rattle.pf_state.specs.declared.{peer.fault.PeerFault.PeerFault, peer.fault.PeerFault.TheVariants.Ended, peer.message.Message.Message}
use Rattle.pf_state.specs.Peer.Outcomes.{TakenAs, finished}
use Rattle.pf_core.specs.{Durable.Changes.PlainDurable, Worlds.Setting}
use Rattle.pf_book.specs.Receipts.{PlainReceipt}
use Rattle.pf_session.specs.declared.{line_engine.fault.EngineFault.EngineFault, server.stream.Progress.Progress, server.stream.Progress.TheVariants.{On, Over}}
use Rattle.pf_session.specs.declared.line_engine.fault.EngineFault.TheVariants as fault
use Rattle.pf_session.specs.{LineEngine.Sessions.{Answered, CutOff}, Server.Streams.{ArePieces, GoesOn, IsPiece, IsStreamFrom, Part, Piece, RunsAll, RunsFed, RunsParts, StreamSoFar, Takes, TakesPart, TakesPiece, TellsEnd, TellsFault, end_text, messages_of, parts_in, fault_parts, peer_fault_text, wrong}}
use Rattle.pf_session.proofs.Chains.{chain-one, chain-then}

-- where bytes stay, the front of no text is written
kept-front : (old new : Option (List ℕ)) → Keeps old new → WritesFront old new []
kept-front old new keeps = (0, Appends-kept old old new [] (Appends-nil old) keeps)

-- ---- parts

module _ (base : PlainDurable) (setting : Setting) where
  pub none-answered : (last : Option PlainReceipt) (held : Option (List ℕ)) → Answered (Takes base setting) [] last last held held
  none-answered last held = record { text = []; served = (refl, refl); written = Appends-nil held }

  pub answered-then : {ps qs : List Part} {a b c : Option PlainReceipt} {h i j : Option (List ℕ)} → Answered (Takes base setting) ps a b h i → Answered (Takes base setting) qs b c i j → Answered (Takes base setting) (ps ++ qs) a c h j
  answered-then {ps} {qs} {a} {b} {c} {h} {i} {j} p q = record {
    text = p.text ++ q.text;
    served = chain-then (TakesPart base setting) a b c ps qs p.text q.text p.served q.served;
    written = Appends-trans h i j p.text q.text p.written q.written;
  }

  pub part-answered : (part : Part) {a b : Option PlainReceipt} {h i : Option (List ℕ)} (text : List ℕ) → TakesPart base setting part a b text → Appends h i text → Answered (Takes base setting) (part ∷ []) a b h i
  part-answered part {a} {b} text step written = record { text = text; served = chain-one (TakesPart base setting) a b part text step; written = written }

  pub answered-kept : {ps : List Part} {a b : Option PlainReceipt} {h i : Option (List ℕ)} (j : Option (List ℕ)) → Keeps i j → Answered (Takes base setting) ps a b h i → Answered (Takes base setting) ps a b h j
  answered-kept {h = h} {i = i} j keeps p = record { text = p.text; served = p.served; written = Appends-kept h i j p.text p.written keeps }

  -- a write failed at a part, after others
  pub part-cut : {ps : List Part} (part : Part) (others : List Part) {a b : Option PlainReceipt} (c : Option PlainReceipt) {h i j : Option (List ℕ)} (text : List ℕ) → Answered (Takes base setting) ps a b h i → TakesPart base setting part b c text → WritesFront i j text
      → CutOff (Takes base setting) (ps ++ part ∷ others) a c h j
  part-cut {ps} part others {b = b} c {i = i} text p step front = record {
    earlier = ps;
    last = part ∷ [];
    others = others;
    lines_are = refl;
    one = omega arith;
    before = b;
    mid = i;
    answered = p;
    text = text;
    served = chain-one (TakesPart base setting) b c part text step;
    front = front;
  }

  -- nothing but a flush failed
  pub flush-cut : {ps : List Part} {a b : Option PlainReceipt} {h i : Option (List ℕ)} (j : Option (List ℕ)) → WritesFront i j [] → Answered (Takes base setting) ps a b h i → CutOff (Takes base setting) ps a b h j
  flush-cut {ps} {b = b} {i = i} j front p = record {
    earlier = ps;
    last = [];
    others = [];
    lines_are = sym (append-nil ps);
    one = omega arith;
    before = b;
    mid = i;
    answered = p;
    text = [];
    served = (refl, refl);
    front = front;
  }

  cut-longer : {ps : List Part} (more : List Part) {a b : Option PlainReceipt} {h i : Option (List ℕ)} → CutOff (Takes base setting) ps a b h i → CutOff (Takes base setting) (ps ++ more) a b h i
  cut-longer {ps} more q = record {
    earlier = q.earlier;
    last = q.last;
    others = q.others ++ more;
    lines_are = ap (λ (l : List Part). l ++ more) q.lines_are ∙ append_assoc q.earlier (q.last ++ q.others) more ∙ ap (λ (l : List Part). q.earlier ++ l) (append_assoc q.last q.others more);
    one = q.one;
    before = q.before;
    mid = q.mid;
    answered = q.answered;
    text = q.text;
    served = q.served;
    front = q.front;
  }

  -- a fault was written after others, if there was one
  pub fault-replied : (f : Option PeerFault) {ps : List Part} {a b : Option PlainReceipt} {h i : Option (List ℕ)} (j : Option (List ℕ)) → Answered (Takes base setting) ps a b h i → Appends i j (peer_fault_text f) → Answered (Takes base setting) (ps ++ fault_parts f) a b h j
  fault-replied None {ps} {a} {b} {h} {i} j p written = rw (append-nil ps) (record { text = p.text; served = p.served; written = simp append-nil at (Appends-trans h i j p.text [] p.written written) })
  fault-replied (Some f) j p written = answered-then p (part-answered (Err f) (peer_fault_text (Some f)) (refl, refl) written)

  pub fault-cut : (f : Option PeerFault) {ps : List Part} {a b : Option PlainReceipt} {h i : Option (List ℕ)} (j : Option (List ℕ)) → Answered (Takes base setting) ps a b h i → WritesFront i j (peer_fault_text f) → CutOff (Takes base setting) (ps ++ fault_parts f) a b h j
  fault-cut None {ps} j p front = rw (append-nil ps) (flush-cut j front p)
  fault-cut (Some f) {b = b} j p front = part-cut (Err f) [] b (peer_fault_text (Some f)) p (refl, refl) front

  -- ---- a piece

  parts-replied : (r : Result Progress EngineFault) (ps : List Part) (f : Option PeerFault) {a b : Option PlainReceipt} {h i : Option (List ℕ)} (j : Option (List ℕ)) → Answered (Takes base setting) ps a b h i → TellsFault r f i j → RunsParts (Takes base setting) r (ps ++ fault_parts f) f a b h j
  parts-replied (Ok goes) ps f j all tells = (tells.0, fault-replied f j all tells.1)
  parts-replied (Err fault.Read) ps f j all tells = absurd tells
  parts-replied (Err fault.Write) ps f j all tells = fault-cut f j all tells
  parts-replied (Err fault.Memory) ps f j all tells = absurd tells

  -- the messages of a piece were run, and its fault was written
  pub fed-replied : {A E : Type 0} (x : A) (r : Result Progress EngineFault) (ms : List Message) (f : Option PeerFault) {a b : Option PlainReceipt} {h i : Option (List ℕ)} (j : Option (List ℕ)) → RunsAll {A = A} {E = E} (Takes base setting) (Ok x) ms a b h i → TellsFault r f i j → RunsFed (Takes base setting) r ms f a b h j
  fed-replied x r ms f j all tells = record { groups = all.groups; are = all.are; of = all.of; ran = parts-replied r _ f j all.answers tells }

  pub fed-cut : {A E : Type 0} (e : E) (ms : List Message) (f : Option PeerFault) {a b : Option PlainReceipt} {h i : Option (List ℕ)} → RunsAll {A = A} {E = E} (Takes base setting) (Err e) ms a b h i → RunsFed (Takes base setting) (Err fault.Write) ms f a b h i
  fed-cut e ms f all = record { groups = all.groups; are = all.are; of = all.of; ran = cut-longer (fault_parts f) all.answers }

  -- it was a piece
  pub piece-fed : (r : Result Progress EngineFault) (bytes : List ℕ) (ms : List Message) (f : Option PeerFault) (left left' : Option (List ℕ)) {a b : Option PlainReceipt} {h i : Option (List ℕ)} → length bytes ≤ 131072 → TakenAs left bytes left' ms f → RunsFed (Takes base setting) r ms f a b h i
      → TakesPiece (Takes base setting) r bytes left left' a b h i
  piece-fed r bytes ms f left left' few taken ran = inl (
    record { bytes = bytes; groups = ran.groups; fault = f },
    refl,
    record { few = few; taken = subst (λ (l : List Message). TakenAs left bytes left' l f) (sym ran.of) taken; groups = ran.are },
    ran.ran,
  )

-- ---- pieces

goes-on : (left : Option (List ℕ)) (p : Piece) (left' : Option (List ℕ)) → p.fault ≡ None → IsPiece left p left' → GoesOn left'
goes-on None p left' none is = absurd is.taken
goes-on (Some old) p left' none is =
    let (rest, reads, kept) = subst (λ (f : Option PeerFault). TakenAs (Some old) p.bytes left' (messages_of p.groups) f) none is.taken in (rest, kept)

goes-no-further : (left : Option (List ℕ)) (p : Piece) (left' : Option (List ℕ)) (f : PeerFault) → p.fault ≡ Some f → IsPiece left p left' → left' ≡ None
goes-no-further None p left' f some is = absurd is.taken
goes-no-further (Some old) p left' f some is =
    let (rest, reads, kept) = subst (λ (g : Option PeerFault). TakenAs (Some old) p.bytes left' (messages_of p.groups) g) some is.taken in kept

pieces-more : (pieces : List Piece) (p : Piece) (a b c : Option (List ℕ)) → ArePieces a pieces b → IsPiece b p c → ArePieces a (pieces ++ p ∷ []) c
pieces-more [] p a b c same is = (c, subst (λ (l : Option (List ℕ)). IsPiece l p c) same is, refl)
pieces-more (q ∷ pieces) p a b c (mid, first, more) is = (mid, first, pieces-more pieces p mid b c more is)

parts-more : (pieces : List Piece) (p : Piece) → flat_map parts_in (pieces ++ p ∷ []) ≡ flat_map parts_in pieces ++ parts_in p
parts-more pieces p = flat_map-append parts_in pieces (p ∷ []) ∙ ap (λ (l : List Part). flat_map parts_in pieces ++ l) (append-nil (parts_in p))

bytes-more : (pieces : List Piece) (p : Piece) → flat_map (λ (q : Piece). q.bytes) (pieces ++ p ∷ []) ≡ flat_map (λ (q : Piece). q.bytes) pieces ++ p.bytes
bytes-more pieces p = flat_map-append (λ (q : Piece). q.bytes) pieces (p ∷ []) ∙ ap (λ (l : List ℕ). flat_map (λ (q : Piece). q.bytes) pieces ++ l) (append-nil p.bytes)

module _ (base : PlainDurable) (setting : Setting) where
  -- ---- a stream so far

  pub nothing-yet : (unread : Option (List ℕ)) (last : Option PlainReceipt) (held left : Option (List ℕ)) → GoesOn left → StreamSoFar (Takes base setting) left unread unread left last last held held
  nothing-yet unread last held left goes = record { pieces = []; are = refl; going = goes; read = Consumes-nil unread; answered = none-answered base setting last held }

  module _ {before unread at left : Option (List ℕ)} {a b : Option PlainReceipt} {h i : Option (List ℕ)} (s : StreamSoFar (Takes base setting) before unread at left a b h i) where
    -- a flush, or a read that was interrupted
    pub flushed-so_far : (j : Option (List ℕ)) → Keeps i j → StreamSoFar (Takes base setting) before unread at left a b h j
    flushed-so_far j keeps = record { pieces = s.pieces; are = s.are; going = s.going; read = s.read; answered = answered-kept base setting j keeps s.answered }

    pub interrupted-so_far : (still : Option (List ℕ)) → Keeps at still → StreamSoFar (Takes base setting) before unread still left a b h i
    interrupted-so_far still keeps = record { pieces = s.pieces; are = s.are; going = s.going; read = Consumes-kept unread at still _ s.read keeps; answered = s.answered }

    -- no more comes
    nothing-more : (still : Option (List ℕ)) → Consumes at still [] → Consumes unread still (flat_map (λ (p : Piece). p.bytes) s.pieces ++ [])
    nothing-more still none = Consumes-trans unread at still (flat_map (λ (p : Piece). p.bytes) s.pieces) [] s.read none

    pub flush-ends : (j : Option (List ℕ)) → Keeps i j → IsStreamFrom (Takes base setting) before (Err fault.Write) unread at a b h j
    flush-ends j keeps = record {
      pieces = s.pieces;
      left = left;
      are = s.are;
      mid = b;
      shown = i;
      answered = s.answered;
      bytes = [];
      read = nothing-more at (Consumes-nil at);
      ends = inr (refl, inl (flush-cut base setting j (kept-front i j keeps) (none-answered base setting b i)));
    }

    pub read-ends : (still : Option (List ℕ)) → Keeps at still → IsStreamFrom (Takes base setting) before (Err fault.Read) unread still a b h i
    read-ends still keeps = record {
      pieces = s.pieces;
      left = left;
      are = s.are;
      mid = b;
      shown = i;
      answered = s.answered;
      bytes = [];
      read = nothing-more still (Consumes-kept at at still [] (Consumes-nil at) keeps);
      ends = (refl, s.going, none-answered base setting b i);
    }

    -- a piece with which it goes on
    pub on-so_far : (still : Option (List ℕ)) (bytes : List ℕ) (left' : Option (List ℕ)) (c : Option PlainReceipt) (j : Option (List ℕ)) → Consumes at still bytes → TakesPiece (Takes base setting) (Ok On) bytes left left' b c i j
        → StreamSoFar (Takes base setting) before unread still left' a c h j
    on-so_far still bytes left' c j read (inl (p, of, is, (none, all))) = record {
      pieces = s.pieces ++ p ∷ [];
      are = pieces-more s.pieces p before left left' s.are is;
      going = goes-on left p left' none is;
      read = rw (bytes-more s.pieces p, of) (Consumes-trans unread at still (flat_map (λ (q : Piece). q.bytes) s.pieces) bytes s.read read);
      answered = rw (parts-more s.pieces p) (answered-then base setting s.answered all);
    }
    on-so_far still bytes left' c j read (inr (bad, waits)) = absurd (cc (bad))

    -- a piece with a fault
    pub over-ends : (still : Option (List ℕ)) (bytes : List ℕ) (left' : Option (List ℕ)) (c : Option PlainReceipt) (j : Option (List ℕ)) → Consumes at still bytes → TakesPiece (Takes base setting) (Ok Over) bytes left left' b c i j
        → IsStreamFrom (Takes base setting) before (Ok tt) unread still a c h j
    over-ends still bytes left' c j read (inl (p, of, is, ((f, some), all))) = record {
      pieces = s.pieces ++ p ∷ [];
      left = None;
      are = subst (λ (l : Option (List ℕ)). ArePieces before (s.pieces ++ p ∷ []) l) (goes-no-further left p left' f some is) (pieces-more s.pieces p before left left' s.are is);
      mid = c;
      shown = j;
      answered = rw (parts-more s.pieces p) (answered-then base setting s.answered all);
      bytes = [];
      read = rw (append-nil (flat_map (λ (q : Piece). q.bytes) (s.pieces ++ p ∷ [])), bytes-more s.pieces p, of) (Consumes-trans unread at still (flat_map (λ (q : Piece). q.bytes) s.pieces) bytes s.read read);
      ends = (refl, tt, none-answered base setting c j);
    }
    over-ends still bytes left' c j read (inr (bad, waits)) = absurd (cc (bad))

    -- a piece at which it fails
    pub err-ends : (why : EngineFault) (still : Option (List ℕ)) (bytes : List ℕ) (left' : Option (List ℕ)) (c : Option PlainReceipt) (j : Option (List ℕ)) → length bytes ≤ 131072 → Consumes at still bytes → TakesPiece (Takes base setting) (Err why) bytes left left' b c i j
        → IsStreamFrom (Takes base setting) before (Err why) unread still a c h j
    err-ends fault.Read still bytes left' c j few read (inl (p, of, is, ran)) = absurd ran
    err-ends fault.Read still bytes left' c j few read (inr (bad, waits)) = absurd (cc (bad))
    err-ends fault.Write still bytes left' c j few read (inl (p, of, is, cut)) = record {
      pieces = s.pieces;
      left = left;
      are = s.are;
      mid = b;
      shown = i;
      answered = s.answered;
      bytes = bytes;
      read = Consumes-trans unread at still (flat_map (λ (q : Piece). q.bytes) s.pieces) bytes s.read read;
      ends = inl (p, left', of, is, cut);
    }
    err-ends fault.Write still bytes left' c j few read (inr (bad, waits)) = absurd (cc (bad))
    err-ends fault.Memory still bytes left' c j few read (inl (p, of, is, ran)) = absurd ran
    err-ends fault.Memory still bytes left' c j few read (inr (bad, waits)) = record {
      pieces = s.pieces;
      left = left;
      are = s.are;
      mid = b;
      shown = i;
      answered = s.answered;
      bytes = bytes;
      read = Consumes-trans unread at still (flat_map (λ (q : Piece). q.bytes) s.pieces) bytes s.read read;
      ends = (few, s.going, rw (waits.state, waits.bytes) (none-answered base setting b i));
    }

    -- ---- the end

    end-replied : (rest : List ℕ) (j : Option (List ℕ)) → Appends i j (end_text (finished (Some rest))) → Answered (Takes base setting) (wrong (Some rest)) b b i j
    end-replied [] j written = fault-replied base setting None j (none-answered base setting b i) written
    end-replied (x ∷ rest) j written = fault-replied base setting (Some Ended) j (none-answered base setting b i) written

    end-cut : (rest : List ℕ) (j : Option (List ℕ)) → WritesFront i j (end_text (finished (Some rest))) → CutOff (Takes base setting) (wrong (Some rest)) b b i j
    end-cut [] j front = fault-cut base setting None j (none-answered base setting b i) front
    end-cut (x ∷ rest) j front = fault-cut base setting (Some Ended) j (none-answered base setting b i) front

    pub end-ends : (r : Result (Unit {0}) EngineFault) (still j : Option (List ℕ)) → Consumes at still [] → IsAtEnd still → TellsEnd r (finished left) i j → IsStreamFrom (Takes base setting) before r unread still a b h j
    end-ends (Ok u) still j read end tells =
        let (rest, is) = s.going in
        record {
          pieces = s.pieces;
          left = Some rest;
          are = subst (λ (l : Option (List ℕ)). ArePieces before s.pieces l) is s.are;
          mid = b;
          shown = i;
          answered = s.answered;
          bytes = [];
          read = nothing-more still read;
          ends = (refl, end, end-replied rest j (subst (λ (l : Option (List ℕ)). Appends i j (end_text (finished l))) is tells));
        }
    end-ends (Err fault.Read) still j read end tells = absurd tells
    end-ends (Err fault.Write) still j read end tells =
        let (rest, is) = s.going in
        record {
          pieces = s.pieces;
          left = Some rest;
          are = subst (λ (l : Option (List ℕ)). ArePieces before s.pieces l) is s.are;
          mid = b;
          shown = i;
          answered = s.answered;
          bytes = [];
          read = nothing-more still read;
          ends = inr (refl, inr (end, end-cut rest j (subst (λ (l : Option (List ℕ)). WritesFront i j (end_text (finished l))) is tells)));
        }
    end-ends (Err fault.Memory) still j read end tells = absurd tells

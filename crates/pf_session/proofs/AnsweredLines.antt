-- Lines that were answered, one after another.
use Rattle.std.proofs.{Common.{◌≡◌, ℕ, suc, ◌+◌, ◌<◌, ◌≤◌, List, [], ◌∷◌, ◌++◌, length, take, drop, get_or, Option, Result, Ok, Err, refl, sym, ap, ◌∙◌, subst, append_assoc, append-nil, arith, length-append}, KnownBytes.{Appends-nil, Appends-trans}, lemmas.Bool.ne_eqb, lemmas.List.{length-take, take_all, take_more, take-append-le, take-append-drop}}
use Rattle.std.specs.{Prelude.{◌≢◌, ◌==◌, cond}, Io.KnownBytes.{Appends, Keeps}}
use Rattle.pf_addr.specs.Writing.{Writes, WritesFront, Appends-kept}
use Rattle.pf_session.specs.{LineEngine.Chains.Chain, LineEngine.Lines.{IsCut, newline, last_line, seen}, LineEngine.Sessions.{Answered, CutOff}, LineEngine.Pieces.{Answers, SessionSoFar, Failed, Taken, TakesSome}}
use Rattle.pf_session.proofs.{Chains.{chain-none, chain-one, chain-then}, Cutting.{cut-nothing, cut-newline, cut-byte, cut-more}}

-- what isn't looked at of a line makes no difference
abbrev pub TakesSeen : {S : Type 0} → (List ℕ → S → S → List ℕ → Type 0) → Type 0
TakesSeen {S = S} Takes = (old new : S) (line text : List ℕ) → Takes (seen line) old new text → Takes line old new text

-- ---- what is kept of a line, and a byte more

pub last-is : (n : ℕ) (kept line : List ℕ) → kept ≡ take (suc n) line → last_line line ≡ cond (length kept == 0) [] (line ∷ [])
last-is n [] [] is = refl
last-is n (k ∷ kept) [] is = absurd (cc (is))
last-is n [] (b ∷ bs) is = absurd (cc (is))
last-is n (k ∷ kept) (b ∷ bs) is = ap (λ t. cond t [] ((b ∷ bs) ∷ [])) (sym (ne_eqb (length (k ∷ kept)) 0 (λ none. omega arith)))

pub piece-on : (input piece : List ℕ) (k : ℕ) → k < length piece → (input ++ take k piece) ++ get_or piece k 0 ∷ [] ≡ input ++ take (k + 1) piece
piece-on input piece k low = append_assoc input (take k piece) (get_or piece k 0 ∷ []) ∙ ap (λ (l : List ℕ). input ++ l) (sym (take_more piece k 0 low))

pub piece-all : (input piece : List ℕ) (k : ℕ) → (input ++ take k piece) ++ drop k piece ≡ input ++ piece
piece-all input piece k = append_assoc input (take k piece) (drop k piece) ∙ ap (λ (l : List ℕ). input ++ l) (take-append-drop k piece)

pub kept-more : (kept : List ℕ) (b : ℕ) → length kept < 4097 → (rest : List ℕ) → kept ≡ seen rest → kept ++ b ∷ [] ≡ seen (rest ++ b ∷ [])
kept-more kept b low rest is =
    let few : length rest < 4097 = omega (arith, length-take 4097 rest, ap length is) in
    ap (λ (l : List ℕ). l ++ b ∷ []) (is ∙ take_all 4097 rest (omega arith)) ∙ sym (take_all 4097 (rest ++ b ∷ []) (omega (arith, length-append rest (b ∷ []))))

pub kept-full : (kept : List ℕ) (b : ℕ) → 4097 ≤ length kept → (rest : List ℕ) → kept ≡ seen rest → kept ≡ seen (rest ++ b ∷ [])
kept-full kept b full rest is = is ∙ sym (take-append-le 4097 rest (b ∷ []) (omega (arith, length-take 4097 rest, ap length is)))

module _ {S : Type 0} (Takes : List ℕ → S → S → List ℕ → Type 0) where
  -- ---- one line more

  taken-whole : TakesSeen Takes → {kept : List ℕ} (line text : List ℕ) (a b : S) → kept ≡ seen line → Takes kept a b text → Chain Takes a b (line ∷ []) text
  taken-whole law line text a b is takes = chain-one Takes a b line text (law a b line text (subst (λ (l : List ℕ). Takes l a b text) is takes))

  pub line-answered : TakesSeen Takes → {lines : List (List ℕ)} {kept : List ℕ} (line text : List ℕ) {a b : S} (c : S) {h i : Option (List ℕ)} (j : Option (List ℕ)) → kept ≡ seen line → Answered (Chain Takes) lines a b h i →
      Takes kept b c text → Appends i j text → Answered (Chain Takes) (lines ++ line ∷ []) a c h j
  line-answered law {lines = lines} line text {a = a} {b = b} c {h = h} {i = i} j is all takes written = record {
    text = all.text ++ text;
    served = chain-then Takes a b c lines (line ∷ []) all.text text all.served (taken-whole law line text b c is takes);
    written = Appends-trans h i j all.text text all.written written;
  }

  pub line-cut_off : TakesSeen Takes → {lines : List (List ℕ)} {kept : List ℕ} (line : List ℕ) (others : List (List ℕ)) (text : List ℕ) {a b : S} (c : S) {h i : Option (List ℕ)} (j : Option (List ℕ)) → kept ≡ seen line → Answered (Chain Takes) lines a b h i →
      Takes kept b c text → WritesFront i j text → CutOff (Chain Takes) ((lines ++ line ∷ []) ++ others) a c h j
  line-cut_off law {lines = lines} line others text {b = b} c {i = i} j is all takes front = record {
    earlier = lines;
    last = line ∷ [];
    others = others;
    lines_are = append_assoc lines (line ∷ []) others;
    one = omega arith;
    before = b;
    mid = i;
    answered = all;
    text = text;
    served = taken-whole law line text b c is takes;
    front = front;
  }

  -- a flush, whether it fails or not
  pub flushed : {A E : Type 0} (r : Result A E) {lines : List (List ℕ)} {a b : S} {h i : Option (List ℕ)} (j : Option (List ℕ)) → Answered (Chain Takes) lines a b h i → Keeps i j → Answers (Chain Takes) r lines a b h j
  flushed (Ok x) {h = h} {i = i} j all keeps = record { text = all.text; served = all.served; written = Appends-kept h i j all.text all.written keeps }
  flushed (Err e) {lines = lines} {b = b} {i = i} j all keeps = record {
    earlier = lines;
    last = [];
    others = [];
    lines_are = sym (append-nil lines);
    one = omega arith;
    before = b;
    mid = i;
    answered = all;
    text = [];
    served = chain-none Takes b;
    front = (0, Appends-kept i i j [] (Appends-nil i) keeps);
  }

  -- ---- a session so far

  pub nothing-yet : (state : S) (held : Option (List ℕ)) → SessionSoFar (Chain Takes) [] [] state state held held
  nothing-yet state held = record { lines = []; rest = []; cut = cut-nothing; kept_is = refl; answered = record { text = []; served = chain-none Takes state; written = Appends-nil held } }

  pub still-so_far : {text kept : List ℕ} {a b : S} {h i : Option (List ℕ)} (j : Option (List ℕ)) → Keeps i j → SessionSoFar (Chain Takes) text kept a b h i → SessionSoFar (Chain Takes) text kept a b h j
  still-so_far j keeps s = let ok : Result ℕ ℕ = Ok 0 in record { lines = s.lines; rest = s.rest; cut = s.cut; kept_is = s.kept_is; answered = flushed ok j s.answered keeps }

  -- ---- lines behind lines

  pub answered-onto : {xs ys : List (List ℕ)} {a b c : S} {h i j : Option (List ℕ)} → Answered (Chain Takes) xs a b h i → Answered (Chain Takes) ys b c i j → Answered (Chain Takes) (xs ++ ys) a c h j
  answered-onto {xs} {ys} {a} {b} {c} {h} {i} {j} p q = record {
    text = p.text ++ q.text;
    served = chain-then Takes a b c xs ys p.text q.text p.served q.served;
    written = Appends-trans h i j p.text q.text p.written q.written;
  }

  pub cut-onto : {xs ys : List (List ℕ)} {a b c : S} {h i j : Option (List ℕ)} → Answered (Chain Takes) xs a b h i → CutOff (Chain Takes) ys b c i j → CutOff (Chain Takes) (xs ++ ys) a c h j
  cut-onto {xs} p q = record {
    earlier = xs ++ q.earlier;
    last = q.last;
    others = q.others;
    lines_are = ap (λ (l : List (List ℕ)). xs ++ l) q.lines_are ∙ sym (append_assoc xs q.earlier (q.last ++ q.others));
    one = q.one;
    before = q.before;
    mid = q.mid;
    answered = answered-onto p q.answered;
    text = q.text;
    served = q.served;
    front = q.front;
  }

  pub cut-longer : {xs : List (List ℕ)} (more : List (List ℕ)) {a b : S} {h i : Option (List ℕ)} → CutOff (Chain Takes) xs a b h i → CutOff (Chain Takes) (xs ++ more) a b h i
  cut-longer more q = record {
    earlier = q.earlier;
    last = q.last;
    others = q.others ++ more;
    lines_are = ap (λ (l : List (List ℕ)). l ++ more) q.lines_are ∙ append_assoc q.earlier (q.last ++ q.others) more ∙ ap (λ (l : List (List ℕ)). q.earlier ++ l) (append_assoc q.last q.others more);
    one = q.one;
    before = q.before;
    mid = q.mid;
    answered = q.answered;
    text = q.text;
    served = q.served;
    front = q.front;
  }

  -- more bytes behind
  pub failed-more : (more : List ℕ) {text : List ℕ} {a b : S} {h i : Option (List ℕ)} → Failed (Chain Takes) text a b h i → Failed (Chain Takes) (text ++ more) a b h i
  failed-more more f =
      let (others, rest, cut) = cut-more more f.cut in
      record { lines = f.lines ++ others; rest = rest; cut = cut; cut_off = cut-longer others f.cut_off }

  pub answers-onto : {A E : Type 0} (r : Result A E) {xs : List (List ℕ)} (ys : List (List ℕ)) {a b : S} (c : S) {h i : Option (List ℕ)} (j : Option (List ℕ)) → Answered (Chain Takes) xs a b h i → Answers (Chain Takes) r ys b c i j → Answers (Chain Takes) r (xs ++ ys) a c h j
  answers-onto (Ok x) ys c j p q = answered-onto p q
  answers-onto (Err e) {xs} ys c j p q = cut-onto p q

  -- one line by itself
  pub line-answers : {A E : Type 0} (r : Result A E) {a b : S} (h i : Option (List ℕ)) (line text : List ℕ) → Takes line a b text → Writes r h i text → Answers (Chain Takes) r (line ∷ []) a b h i
  line-answers (Ok x) {a} {b} h i line text takes written = record { text = text; served = chain-one Takes a b line text takes; written = written }
  line-answers (Err e) {a} {b} h i line text takes front = record {
    earlier = [];
    last = line ∷ [];
    others = [];
    lines_are = refl;
    one = omega arith;
    before = a;
    mid = h;
    answered = record { text = []; served = chain-none Takes a; written = Appends-nil h };
    text = text;
    served = chain-one Takes a b line text takes;
    front = front;
  }

  -- ---- lines that wait

  module _ {Q : Type 0} (Waits : List (List ℕ) → Q → Type 0) where
    -- all were answered
    pub all-taken : {A E : Type 0} (r : Result A E) (lines : List (List ℕ)) (a b : S) (w : Q) (h i : Option (List ℕ)) → Waits [] w → Answers (Chain Takes) r lines a b h i → TakesSome (Chain Takes) Waits r lines a b w h i
    all-taken (Ok x) lines a b w h i none all = record { earlier = lines; others = []; lines_are = sym (append-nil lines); answered = all; waits = none }
    all-taken (Err e) lines a b w h i none cut = cut

    -- these were answered, and then those taken
    pub taken-then : {A E : Type 0} (r : Result A E) {lines : List (List ℕ)} (more : List (List ℕ)) {a b : S} (c : S) (w : Q) {h i : Option (List ℕ)} (j : Option (List ℕ)) → Answered (Chain Takes) lines a b h i → TakesSome (Chain Takes) Waits r more b c w i j → TakesSome (Chain Takes) Waits r (lines ++ more) a c w h j
    taken-then (Ok x) {lines} more c w j p t = record {
      earlier = lines ++ t.earlier;
      others = t.others;
      lines_are = ap (λ (l : List (List ℕ)). lines ++ l) t.lines_are ∙ sym (append_assoc lines t.earlier t.others);
      answered = answered-onto p t.answered;
      waits = t.waits;
    }
    taken-then (Err e) more c w j p cut = cut-onto p cut

    -- none was answered yet
    pub still-waiting : {lines : List (List ℕ)} (state : S) {w : Q} (held : Option (List ℕ)) → Waits lines w → Taken (Chain Takes) Waits lines state state w held held
    still-waiting {lines} state held waits = record { earlier = []; others = lines; lines_are = refl; answered = record { text = []; served = chain-none Takes state; written = Appends-nil held }; waits = waits }

    taken-onto : {lines : List (List ℕ)} (more : List (List ℕ)) {a b c : S} {w w' : Q} {h i j : Option (List ℕ)} (t : Taken (Chain Takes) Waits lines a b w h i) → Taken (Chain Takes) Waits (t.others ++ more) b c w' i j → Taken (Chain Takes) Waits (lines ++ more) a c w' h j
    taken-onto {lines} more t u = record {
      earlier = t.earlier ++ u.earlier;
      others = u.others;
      lines_are = ap (λ (l : List (List ℕ)). l ++ more) t.lines_are ∙ append_assoc t.earlier t.others more ∙ ap (λ (l : List (List ℕ)). t.earlier ++ l) u.lines_are ∙ sym (append_assoc t.earlier u.earlier u.others);
      answered = answered-onto t.answered u.answered;
      waits = u.waits;
    }

    taken-cut : {lines : List (List ℕ)} (more : List (List ℕ)) {a b c : S} {w : Q} {h i j : Option (List ℕ)} (t : Taken (Chain Takes) Waits lines a b w h i) → CutOff (Chain Takes) (t.others ++ more) b c i j → CutOff (Chain Takes) (lines ++ more) a c h j
    taken-cut {lines} more {a = a} {c = c} {h = h} {j = j} t cut =
        let whole : t.earlier ++ (t.others ++ more) ≡ lines ++ more = sym (ap (λ (l : List (List ℕ)). l ++ more) t.lines_are ∙ append_assoc t.earlier t.others more) in
        subst (λ (ls : List (List ℕ)). CutOff (Chain Takes) ls a c h j) whole (cut-onto t.answered cut)

    -- the whole lines of the input were taken, and as much as is looked at is kept of the rest
    pub record TakenSoFar (input kept : List ℕ) (old new : S) (waiting : Q) (held held' : Option (List ℕ)) : Type 0 where
      pub lines : List (List ℕ)
      pub rest : List ℕ
      pub cut : IsCut input lines rest
      pub kept_is : kept ≡ seen rest
      pub taken : Taken (Chain Takes) Waits lines old new waiting held held'

    pub wait-begun : {text kept : List ℕ} {a b : S} (w : Q) {h i : Option (List ℕ)} → Waits [] w → SessionSoFar (Chain Takes) text kept a b h i → TakenSoFar text kept a b w h i
    wait-begun w none s = record {
      lines = s.lines;
      rest = s.rest;
      cut = s.cut;
      kept_is = s.kept_is;
      taken = record { earlier = s.lines; others = []; lines_are = sym (append-nil s.lines); answered = s.answered; waits = none };
    }

    pub byte-taken : {text kept kept' : List ℕ} {a b : S} {w : Q} {h i : Option (List ℕ)} (byte : ℕ) → byte ≢ newline → ((rest : List ℕ) → kept ≡ seen rest → kept' ≡ seen (rest ++ byte ∷ [])) → TakenSoFar text kept a b w h i → TakenSoFar (text ++ byte ∷ []) kept' a b w h i
    byte-taken byte other more s = record { lines = s.lines; rest = s.rest ++ byte ∷ []; cut = cut-byte byte other s.cut; kept_is = more s.rest s.kept_is; taken = s.taken }

    pub line-taken : {text kept : List ℕ} {a b : S} (c : S) {w : Q} (w' : Q) {h i : Option (List ℕ)} (j : Option (List ℕ))
        → ((lines : List (List ℕ)) (whole : List ℕ) → Waits lines w → kept ≡ seen whole → Taken (Chain Takes) Waits (lines ++ whole ∷ []) b c w' i j) → TakenSoFar text kept a b w h i → TakenSoFar (text ++ newline ∷ []) [] a c w' h j
    line-taken c w' j next s = record {
      lines = s.lines ++ s.rest ∷ [];
      rest = [];
      cut = cut-newline s.cut;
      kept_is = refl;
      taken = taken-onto (s.rest ∷ []) s.taken (next s.taken.others s.rest s.taken.waits s.kept_is);
    }

    pub line-failed : {text kept : List ℕ} (more : List ℕ) {a b : S} (c : S) {w : Q} {h i : Option (List ℕ)} (j : Option (List ℕ))
        → ((lines : List (List ℕ)) (whole : List ℕ) → Waits lines w → kept ≡ seen whole → CutOff (Chain Takes) (lines ++ whole ∷ []) b c i j) → TakenSoFar text kept a b w h i → Failed (Chain Takes) ((text ++ newline ∷ []) ++ more) a c h j
    line-failed more c j next s =
        let (others, rest, cut) = cut-more more (cut-newline s.cut) in
        record { lines = (s.lines ++ s.rest ∷ []) ++ others; rest = rest; cut = cut; cut_off = cut-longer others (taken-cut (s.rest ∷ []) s.taken (next s.taken.others s.rest s.taken.waits s.kept_is)) }

    pub wait-ended : {text kept : List ℕ} {a b : S} (c : S) {w : Q} {h i : Option (List ℕ)} (j : Option (List ℕ))
        → ((lines : List (List ℕ)) → Waits lines w → Answered (Chain Takes) lines b c i j) → TakenSoFar text kept a b w h i → SessionSoFar (Chain Takes) text kept a c h j
    wait-ended {a = a} c {h = h} j all s = record {
      lines = s.lines;
      rest = s.rest;
      cut = s.cut;
      kept_is = s.kept_is;
      answered = subst (λ (ls : List (List ℕ)). Answered (Chain Takes) ls a c h j) (sym s.taken.lines_are) (answered-onto s.taken.answered (all s.taken.others s.taken.waits));
    }

    pub wait-failed : {text kept : List ℕ} {a b : S} (c : S) {w : Q} {h i : Option (List ℕ)} (j : Option (List ℕ))
        → ((lines : List (List ℕ)) → Waits lines w → CutOff (Chain Takes) lines b c i j) → TakenSoFar text kept a b w h i → Failed (Chain Takes) text a c h j
    wait-failed {a = a} c {h = h} j all s = record {
      lines = s.lines;
      rest = s.rest;
      cut = s.cut;
      cut_off = subst (λ (ls : List (List ℕ)). CutOff (Chain Takes) ls a c h j) (sym s.taken.lines_are) (cut-onto s.taken.answered (all s.taken.others s.taken.waits));
    }

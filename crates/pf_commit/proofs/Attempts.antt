-- What the parts of a load come to.
use Rattle.std.proofs.Common.{◌≡◌, ℕ, ◌+◌, ◌≤◌, min, true, false, List, [], ◌∷◌, ◌++◌, length, map, take, Option, Result, Ok, Err, sym, ap, ◌∙◌, subst, arith, append_assoc, append-nil, length-append}
use Rattle.std.proofs.lemmas.{Grind.flat_map-append, List.{take-append-le, take_min, map-append}}
use Rattle.std.specs.{List.flat_map, Io.KnownBytes.Appends, Result.{IsErrAnd, is_err}}
use Rattle.pf_addr.specs.Writing.{Writes, WritesFront, WritesFront-then, Appends-none, Appends-then}
use Rattle.pf_ticket.specs.declared.name.RulesetName.{RulesetName}
use Rattle.pf_conf.specs.declared.{found.Conf.Conf, commit.naming.Begun.Begun}
use Rattle.pf_conf.specs.Commit.{Naming.ruleset_names, Lines.{begin_line, load_lines, commit_line, rollback_line, whole_load}}
use Rattle.pf_commit.specs.declared.fault.Fault.{Fault}
use Rattle.pf_commit.specs.Loading.{name_of, sent_by, SentPart, SentStopped, Attempts, Loads}

pub name_pushed : (bs : List Begun) (b : Begun) → map name_of (bs ++ b ∷ []) ≡ map name_of bs ++ b.name ∷ []
name_pushed bs b = map-append name_of bs (b ∷ [])

in_order : (begun : List Begun) (c : Conf) → begin_line (ruleset_names c) ++ (load_lines begun c ++ commit_line begun) ≡ whole_load begun c
in_order begun c = sym (append_assoc (begin_line (ruleset_names c)) (load_lines begun c) (commit_line begun))

-- the begin wasn't answered with tickets
pub begin_stopped : {A : Type 0} (r : Result A Fault) (why : Fault → Type 0) (c : Conf) (names : List RulesetName) (old new : Option (List ℕ)) → names ≡ ruleset_names c → IsErrAnd r why → WritesFront old new (begin_line names) → Attempts c r old new
begin_stopped (Ok u) why c names old new are failed front = absurd failed
begin_stopped (Err f) why c names old new are failed front =
    let line = begin_line (ruleset_names c) in
    let begin : WritesFront old new line = subst (λ (ns : List RulesetName). WritesFront old new (begin_line ns)) are front in
    let sent = min begin.0 (length line) in
    let within : sent ≤ length line = omega arith in
    let same : take sent (whole_load [] c) ≡ take begin.0 line =
    ap (take sent) (sym (in_order [] c)) ∙ take-append-le sent line (load_lines [] c ++ commit_line []) within ∙ take_min begin.0 line in (
      record { begun = []; front = sent; back = 0; offered = λ more. absurd (omega (arith, more, within)); dropped = λ some. absurd (omega (arith, some)) },
      subst (Appends old new) (sym (append-nil (take sent (whole_load [] c)) ∙ same)) begin.1,
    )

-- all was offered and committed
pub went_through : {A : Type 0} (r : Result A Fault) (c : Conf) (names : List RulesetName) (begun : List Begun) (old mid new : Option (List ℕ)) → names ≡ ruleset_names c → map name_of begun ≡ names → is_err r ≡ false
    → Appends old mid (begin_line names) → Writes r mid new (load_lines begun c ++ commit_line begun) → Attempts c r old new
went_through (Ok u) c names begun old mid new are named good begin rest =
    let begin_too : Appends old mid (begin_line (ruleset_names c)) = subst (λ (ns : List RulesetName). Appends old mid (begin_line ns)) are begin in
    record {
      begun = begun;
      named = named ∙ are;
      sent = subst (Appends old new) (in_order begun c) (Appends-then old mid new (begin_line (ruleset_names c)) (load_lines begun c ++ commit_line begun) begin_too rest);
    }
went_through (Err f) c names begun old mid new are named good begin rest = absurd (cc (good))

-- it stopped, and what was begun was dropped
pub stopped_after_begin : {A : Type 0} (r : Result A Fault) (c : Conf) (names : List RulesetName) (begun : List Begun) (old mid last new : Option (List ℕ)) → names ≡ ruleset_names c → map name_of begun ≡ names → is_err r ≡ true
    → Appends old mid (begin_line names) → Writes r mid last (load_lines begun c ++ commit_line begun) → WritesFront last new (rollback_line begun) → Attempts c r old new
stopped_after_begin (Ok u) c names begun old mid last new are named failed begin rest dropped = absurd (cc (failed))
stopped_after_begin (Err f) c names begun old mid last new are named failed begin rest dropped =
    let begin_too : Appends old mid (begin_line (ruleset_names c)) = subst (λ (ns : List RulesetName). Appends old mid (begin_line ns)) are begin in
    let part : WritesFront old last (whole_load begun c) =
    subst (WritesFront old last) (in_order begun c) (WritesFront-then old mid last (begin_line (ruleset_names c)) (load_lines begun c ++ commit_line begun) begin_too rest) in (
      record { begun = begun; front = part.0; back = dropped.0; offered = λ more. named ∙ are; dropped = λ some. named ∙ are },
      Appends-then old last new (take part.0 (whole_load begun c)) (take dropped.0 (rollback_line begun)) part.1 dropped.1,
    )

-- ---- behind attempts that stopped

pub none_tried : (c : Conf) (old : Option (List ℕ)) → SentStopped c 0 old old
none_tried c old = record { stopped = []; few = omega arith; sent = Appends-none old }

-- one more that stopped
one_more : (c : Conf) (tries : ℕ) (old mid new : Option (List ℕ)) → SentStopped c tries old mid → SentPart c mid new → SentStopped c (tries + 1) old new
one_more c tries old mid new before last =
    let text : flat_map (sent_by c) (before.stopped ++ last.0 ∷ []) ≡ flat_map (sent_by c) before.stopped ++ sent_by c last.0 =
    flat_map-append (sent_by c) before.stopped (last.0 ∷ []) ∙ ap (λ (l : List ℕ). flat_map (sent_by c) before.stopped ++ l) (append-nil (sent_by c last.0)) in
    let longer : length (before.stopped ++ last.0 ∷ []) ≡ length before.stopped + length (last.0 ∷ []) = length-append before.stopped (last.0 ∷ []) in
    record {
      stopped = before.stopped ++ last.0 ∷ [];
      few = omega (arith, longer, before.few);
      sent = subst (Appends old new) (sym text) (Appends-then old mid new (flat_map (sent_by c) before.stopped) (sent_by c last.0) before.sent last.1);
    }

pub tried : {A : Type 0} (r : Result A Fault) (c : Conf) (tries : ℕ) (old mid new : Option (List ℕ)) → is_err r ≡ true → SentStopped c tries old mid → Attempts c r mid new → SentStopped c (tries + 1) old new
tried (Ok u) c tries old mid new failed before is = absurd (cc (failed))
tried (Err f) c tries old mid new failed before is = one_more c tries old mid new before is

pub tried_last : {A : Type 0} (r : Result A Fault) (c : Conf) (tries retries : ℕ) (old mid new : Option (List ℕ)) → tries ≤ retries → SentStopped c tries old mid → Attempts c r mid new → Loads c retries r old new
tried_last (Ok u) c tries retries old mid new few before is = record {
  earlier = before.stopped;
  few = omega (arith, few, before.few);
  begun = is.begun;
  named = is.named;
  sent = Appends-then old mid new (flat_map (sent_by c) before.stopped) (whole_load is.begun c) before.sent is.sent;
}
tried_last (Err f) c tries retries old mid new few before is =
    let all : SentStopped c (tries + 1) old new = one_more c tries old mid new before is in
    record { stopped = all.stopped; few = omega (arith, few, all.few); sent = all.sent }

pub not_tried : {A : Type 0} (r : Result A Fault) (why : Fault → Type 0) (c : Conf) (retries : ℕ) (old : Option (List ℕ)) → IsErrAnd r why → Loads c retries r old old
not_tried (Ok u) why c retries old failed = absurd failed
not_tried (Err f) why c retries old failed = record { stopped = []; few = omega arith; sent = Appends-none old }

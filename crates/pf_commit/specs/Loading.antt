-- What a load has sent (pfctl(8), -f; pf(4), DIOCXBEGIN, DIOCXCOMMIT and DIOCXROLLBACK): all of it, or of one that stopped a front and then
-- the rollback; it may be begun anew.
use Rattle.std.specs.{Prelude.{◌≡◌, ℕ, ◌+◌, ◌<◌, ◌≤◌, List, ◌++◌, length, take, map, Option, Result, Ok, Err}, List.flat_map, Io.KnownBytes.Appends}
use Rattle.pf_form.specs.Form.Words.{Word}
use Rattle.pf_ticket.specs.declared.name.RulesetName.{RulesetName}
use Rattle.pf_conf.specs.declared.{found.Conf.Conf, commit.naming.Begun.Begun}
use Rattle.pf_conf.specs.Commit.{Naming.ruleset_names, Lines.{begin_line, whole_load, rollback_line}}
use Rattle.pf_commit.specs.declared.fault.Fault.{Fault}

abbrev pub name_of : Begun → RulesetName
name_of b = b.name

-- All of a load was sent, with one ticket for each ruleset that it names.
pub record SentWhole (c : Conf) (old new : Option (List ℕ)) : Type 0 where
  pub begun : List Begun
  pub named : map name_of begun ≡ ruleset_names c
  pub sent : Appends old new (whole_load begun c)

-- A load that stopped: how many bytes of it were sent, and behind them how many of the rollback of what was begun. More than the begin was
-- sent only with one ticket for each ruleset that it names, and so was the rollback.
pub record Stopped (c : Conf) : Type 0 where
  pub begun : List Begun
  pub front : ℕ
  pub back : ℕ
  pub offered : length (begin_line (ruleset_names c)) < front → map name_of begun ≡ ruleset_names c
  pub dropped : 0 < back → map name_of begun ≡ ruleset_names c

abbrev pub sent_by : (c : Conf) → Stopped c → Word
sent_by c s = take s.front (whole_load s.begun c) ++ take s.back (rollback_line s.begun)

abbrev pub SentPart : Conf → Option (List ℕ) → Option (List ℕ) → Type 0
SentPart c old new = (s : Stopped c) × Appends old new (sent_by c s)

abbrev pub Attempts : {A : Type 0} → Conf → Result A Fault → Option (List ℕ) → Option (List ℕ) → Type 0
Attempts c (Ok reply) old new = SentWhole c old new
Attempts c (Err f) old new = SentPart c old new

-- Behind loads that stopped, one after another and at most so many, all of one was sent.
pub record SentLast (c : Conf) (retries : ℕ) (old new : Option (List ℕ)) : Type 0 where
  pub earlier : List (Stopped c)
  pub few : length earlier ≤ retries
  pub begun : List Begun
  pub named : map name_of begun ≡ ruleset_names c
  pub sent : Appends old new (flat_map (sent_by c) earlier ++ whole_load begun c)

-- Only loads that stopped were sent, one after another and at most so many.
pub record SentStopped (c : Conf) (tries : ℕ) (old new : Option (List ℕ)) : Type 0 where
  pub stopped : List (Stopped c)
  pub few : length stopped ≤ tries
  pub sent : Appends old new (flat_map (sent_by c) stopped)

abbrev pub Loads : {A : Type 0} → Conf → ℕ → Result A Fault → Option (List ℕ) → Option (List ℕ) → Type 0
Loads c retries (Ok reply) old new = SentLast c retries old new
Loads c retries (Err f) old new = SentStopped c (retries + 1) old new

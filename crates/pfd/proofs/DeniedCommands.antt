-- A line that says a command is denied to a session that may only ask, exactly if the command isn't an inquiry.
use Rattle.std.proofs.{Common.{◌≡◌, ◌∙◌, ℕ, Bool, true, false, List, ◌∷◌, length, Option, Some, Result, Ok, Err, inl, inr, refl, sym, ap, subst, arith}, lemmas.Bool.{ltb-false, ltb-true}, lemmas.List.take_all}
use Rattle.std.specs.Prelude.{codes, not, nat_lt}
use Rattle.pf_form.specs.Form.{Words.{Word, words_of}, Forms.{Form, nothing, key, or, making, Spells}}
use Rattle.pf_rule.specs.declared.fault.Mistake.{Mistake}
use Rattle.pf_state.specs.declared.peer.fault.OneFault.TheVariants.{Fault, Count}
use Rattle.pf_core.specs.declared.{command.Command.Command, command.Command.TheVariants.States, command.StateCommand.TheVariants.Peer, reply.Refusal.Refusal}
use Rattle.pf_line.specs.declared.{request.Request.Request, request.Request.TheVariants.{Run, ShowStatus, ShowAnchors}}
use Rattle.pf_line.specs.Grammar as grammar
use Rattle.pf_line.specs.{Grammar.{Spoken, Says, Tells, AsksStatus, AsksAnchors}, Lines.{line_at, peer_command, Means, SpellsLine, long_line}}
use Rattle.pf_line.proofs.Lines.{is_found}
use Rattle.pf_session.specs.{LineEngine.Lines.seen, Server.{Askings.{denies, first_word, is_denied}, Inquiries.is_inquiry}}
use Rattle.pfd.proofs.FirstWords.{first_of, first_word-words}

abbrev Said : Type 0
Said = Result Command Mistake

-- ---- what follows a word

-- each command that a form makes is an inquiry, or none is
record Makes (asks : Bool) (f : Form Said) : Type 0 where
  kind : (r : Said) (ws : List Word) (c : Command) → Spells f r ws → r ≡ Ok c → is_inquiry c ≡ asks

same-kind : (asks : Bool) (a c : Command) → is_inquiry a ≡ asks → (let made : Said = Ok a in made) ≡ Ok c → is_inquiry c ≡ asks
same-kind asks a c is made = let same : a ≡ c = cc in rw (sym same) is

making-makes : {A : Type 0} (asks : Bool) (make : A → Said) (f : Form A) → ((x : A) (c : Command) → make x ≡ Ok c → is_inquiry c ≡ asks) → Makes asks (making make f)
making-makes asks make f each = record { kind = by } where
  by : (r : Said) (ws : List Word) (c : Command) → Spells (making make f) r ws → r ≡ Ok c → is_inquiry c ≡ asks
  by r ws c (x, spelled, is) ok = each x c (sym is ∙ ok)

nothing-makes : (asks : Bool) (a : Command) → is_inquiry a ≡ asks → Makes asks (nothing (Ok a))
nothing-makes asks a is = record { kind = by } where
  by : (r : Said) (ws : List Word) (c : Command) → Spells (let one : Form Said = nothing (Ok a) in one) r ws → r ≡ Ok c → is_inquiry c ≡ asks
  by r ws c (made, none) ok = same-kind asks a c is (sym made ∙ ok)

key-makes : (asks : Bool) (k : Word) (f : Form Said) → Makes asks f → Makes asks (key k f)
key-makes asks k f here = record { kind = by } where
  by : (r : Said) (ws : List Word) (c : Command) → Spells (key k f) r ws → r ≡ Ok c → is_inquiry c ≡ asks
  by r ws c (rest, spelled, is) ok = here.kind r rest c spelled ok

or-makes : (asks : Bool) (k : Word) (f g : Form Said) → Makes asks f → Makes asks g → Makes asks (or k f g)
or-makes asks k f g here other = record { kind = by } where
  by : (r : Said) (ws : List Word) (c : Command) → Spells (or k f g) r ws → r ≡ Ok c → is_inquiry c ≡ asks
  by r ws c (inl (rest, spelled, is)) ok = here.kind r rest c spelled ok
  by r ws c (inr spelled) ok = other.kind r ws c spelled ok

begun-makes : Makes false grammar.begun
unfolding grammar.begun
begun-makes = making-makes false grammar.begin_of _ (λ names c ok. same-kind false _ c refl ok)

added-makes : Makes false grammar.added
unfolding grammar.added
added-makes = making-makes false grammar.add_of _ each where
  each : (x : _) (c : Command) → grammar.add_of x ≡ Ok c → is_inquiry c ≡ false
  each (p, (t, Ok rule)) c ok = same-kind false _ c refl ok
  each (p, (t, Err mistake)) c ok = absurd cc

defined-makes : Makes false grammar.defined
unfolding grammar.defined
defined-makes = making-makes false grammar.define_of _ (λ x c ok. same-kind false _ c refl ok)

extended-makes : Makes false grammar.extended
unfolding grammar.extended
extended-makes = making-makes false grammar.extend_of _ (λ x c ok. same-kind false _ c refl ok)

committed-makes : Makes false grammar.committed
unfolding grammar.committed
committed-makes = making-makes false grammar.commit_of _ (λ x c ok. same-kind false _ c refl ok)

rolled_back-makes : Makes false grammar.rolled_back
unfolding grammar.rolled_back
rolled_back-makes = making-makes false grammar.rollback_of _ (λ x c ok. same-kind false _ c refl ok)

entries_added-makes : Makes false grammar.entries_added
unfolding grammar.entries_added
entries_added-makes = making-makes false grammar.add_entries_of _ (λ x c ok. same-kind false _ c refl ok)

entries_deleted-makes : Makes false grammar.entries_deleted
unfolding grammar.entries_deleted
entries_deleted-makes = making-makes false grammar.delete_entries_of _ (λ x c ok. same-kind false _ c refl ok)

entries_set-makes : Makes false grammar.entries_set
unfolding grammar.entries_set
entries_set-makes = making-makes false grammar.set_entries_of _ (λ x c ok. same-kind false _ c refl ok)

killed-makes : Makes false grammar.killed
unfolding grammar.killed
killed-makes = making-makes false _ _ (λ x c ok. same-kind false _ c refl ok)

tracked-makes : Makes false grammar.tracked
unfolding grammar.tracked
tracked-makes = making-makes false grammar.track_of _ each where
  each : (x : _) (c : Command) → grammar.track_of x ≡ Ok c → is_inquiry c ≡ false
  each (n, (Ok packet, until)) c ok = same-kind false _ c refl ok
  each (n, (Err mistake, until)) c ok = absurd cc

state_killed-makes : Makes false grammar.state_killed
unfolding grammar.state_killed
state_killed-makes = making-makes false _ _ (λ n c ok. same-kind false _ c refl ok)

expired-makes : Makes false grammar.expired
unfolding grammar.expired
expired-makes = making-makes false _ _ (λ n c ok. same-kind false _ c refl ok)

judged-makes : Makes true grammar.judged
unfolding grammar.judged
judged-makes = making-makes true grammar.asking _ each where
  each : (x : _) (c : Command) → grammar.asking x ≡ Ok c → is_inquiry c ≡ true
  each (Ok packet) c ok = same-kind true _ c refl ok
  each (Err mistake) c ok = absurd cc

tested-makes : Makes true grammar.tested
unfolding grammar.tested
tested-makes = making-makes true _ _ (λ x c ok. same-kind true _ c refl ok)

shown-makes : Makes true grammar.shown
unfolding grammar.shown
shown-makes =
    or-makes true _ _ _ (making-makes true _ _ (λ p c ok. same-kind true _ c refl ok))
    (or-makes true _ _ _ (making-makes true _ _ (λ p c ok. same-kind true _ c refl ok))
    (key-makes true _ _ (nothing-makes true _ refl)))

-- ---- a word, and what follows it

-- words that say a command have a first word that is denied unless it is an inquiry
record IsDenied (f : Form Said) : Type 0 where
  each : (r : Said) (ws : List Word) (c : Command) → Spells f r ws → r ≡ Ok c → denies (first_of ws) ≡ not (is_inquiry c)

key-denied : (asks : Bool) (k : Word) (f : Form Said) → denies k ≡ not asks → Makes asks f → IsDenied (key k f)
key-denied asks k f at here = record { each = by } where
  by : (r : Said) (ws : List Word) (c : Command) → Spells (key k f) r ws → r ≡ Ok c → denies (first_of ws) ≡ not (is_inquiry c)
  by r ws c (rest, spelled, is) ok = ap (λ (vs : List Word). denies (first_of vs)) is ∙ at ∙ ap not (sym (here.kind r rest c spelled ok))

or-denied : (asks : Bool) (k : Word) (f g : Form Said) → denies k ≡ not asks → Makes asks f → IsDenied g → IsDenied (or k f g)
or-denied asks k f g at here other = record { each = by } where
  by : (r : Said) (ws : List Word) (c : Command) → Spells (or k f g) r ws → r ≡ Ok c → denies (first_of ws) ≡ not (is_inquiry c)
  by r ws c (inl spelled) ok = (key-denied asks k f at here).each r ws c spelled ok
  by r ws c (inr spelled) ok = other.each r ws c spelled ok

questions-denied : IsDenied grammar.question
unfolding grammar.question grammar.overview
questions-denied =
    or-denied true _ _ _ refl judged-makes (or-denied true _ _ _ refl tested-makes
    (or-denied true _ _ _ refl (nothing-makes true _ refl) (key-denied true _ _ refl (nothing-makes true _ refl))))

states-denied : IsDenied grammar.state_or_question
unfolding grammar.state_or_question grammar.history_or_question
states-denied =
    or-denied false _ _ _ refl tracked-makes (or-denied false _ _ _ refl state_killed-makes (or-denied false _ _ _ refl expired-makes
    (or-denied true _ _ _ refl (nothing-makes true _ refl) (or-denied false _ _ _ refl (nothing-makes false _ refl) questions-denied))))

edits-denied : IsDenied grammar.edit_or_question
unfolding grammar.edit_or_question
edits-denied =
    or-denied false _ _ _ refl entries_added-makes (or-denied false _ _ _ refl entries_deleted-makes
    (or-denied false _ _ _ refl entries_set-makes (or-denied false _ _ _ refl killed-makes states-denied)))

commands-denied : IsDenied grammar.command
unfolding grammar.command
commands-denied =
    or-denied false _ _ _ refl begun-makes (or-denied false _ _ _ refl added-makes (or-denied false _ _ _ refl defined-makes
    (or-denied false _ _ _ refl extended-makes (or-denied false _ _ _ refl committed-makes (or-denied false _ _ _ refl rolled_back-makes edits-denied)))))

-- ---- lines

-- what a request for a line is: its command is an inquiry or not, and a status and anchors are none that is denied
abbrev Denied : Request → Word → Type 0
Denied (Run c) w = denies w ≡ not (is_inquiry c)
Denied ShowStatus w = denies w ≡ false
Denied (ShowAnchors path) w = denies w ≡ false

peer-states : (one : _) (q : Request) (w : Word) → (let said : Result (Option Request) Refusal = Ok (Some q) in said) ≡ peer_command one → denies w ≡ true → Denied q w
peer-states (Ok m) q w is denied = let same : Run (States (Peer m)) ≡ q = cc in subst (λ (r : Request). Denied r w) same denied
peer-states (Err (Fault f)) q w is denied = absurd cc
peer-states (Err Count) q w is denied = absurd cc

says-denied : (ws : List Word) (q : Request) (x : Spoken) (r : Said) → x ≡ Says r → Means (Ok (Some x)) (Ok (Some q))
    → ((c : Command) → r ≡ Ok c → denies (first_of ws) ≡ not (is_inquiry c)) → Denied q (first_of ws)
says-denied ws q x r says means each = by r (subst (λ (y : Spoken). Means (Ok (Some y)) (Ok (Some q))) says means) each where
  by : (r : Said) → Means (Ok (Some (Says r))) (Ok (Some q)) → ((c : Command) → r ≡ Ok c → denies (first_of ws) ≡ not (is_inquiry c)) → Denied q (first_of ws)
  by (Ok c) means each = let same : Run c ≡ q = cc in subst (λ (p : Request). Denied p (first_of ws)) same (each c refl)
  by (Err mistake) means each = absurd cc

status-said : (q : Request) (w : Word) (x : Spoken) → x ≡ AsksStatus → Means (Ok (Some x)) (Ok (Some q)) → denies w ≡ false → Denied q w
status-said q w x asks means allowed =
    let is = subst (λ (y : Spoken). Means (Ok (Some y)) (Ok (Some q))) asks means in
    let same : ShowStatus ≡ q = cc in
    subst (λ (p : Request). Denied p w) same allowed

anchors-said : (q : Request) (w : Word) (x : Spoken) (path : Word) → x ≡ AsksAnchors path → Means (Ok (Some x)) (Ok (Some q)) → denies w ≡ false → Denied q w
anchors-said q w x path asks means allowed =
    let is = subst (λ (y : Spoken). Means (Ok (Some y)) (Ok (Some q))) asks means in
    let same : ShowAnchors path ≡ q = cc in
    subst (λ (p : Request). Denied p w) same allowed

-- words behind `show`
showing-denied : (ws rest : List Word) (q : Request) (x : Spoken) → ws ≡ codes "show" ∷ rest → Spells grammar.showing x rest → Means (Ok (Some x)) (Ok (Some q)) → Denied q (first_of ws)
unfolding grammar.showing
showing-denied ws rest q x is (inl (more, (asks, none), following)) means =
    status-said q (first_of ws) x asks means (ap (λ (vs : List Word). denies (first_of vs)) is)
showing-denied ws rest q x is (inr (inl (more, (path, spelled, asks), following))) means =
    anchors-said q (first_of ws) x path asks means (ap (λ (vs : List Word). denies (first_of vs)) is)
showing-denied ws rest q x is (inr (inr (r, spelled, says))) means =
    says-denied ws q x r says means (λ c ok. ap (λ (vs : List Word). denies (first_of vs)) is ∙ ap not (sym (shown-makes.kind r rest c spelled ok)))

said-denied : (ws : List Word) (q : Request) → SpellsLine q ws → Denied q (first_of ws)
said-denied ws q (x, inl (rest, (bytes, spelled, tells), is), means) =
    let (one, message, said) = subst (λ (y : Spoken). Means (Ok (Some y)) (Ok (Some q))) tells means in
    peer-states one q (first_of ws) said (ap (λ (vs : List Word). denies (first_of vs)) is)
said-denied ws q (x, inr (inl (rest, spelled, is)), means) = showing-denied ws rest q x is spelled means
said-denied ws q (x, inr (inr (r, spelled, says)), means) = says-denied ws q x r says means (λ c ok. commands-denied.each r ws c spelled ok)

-- a line that asks something is looked at whole
whole : (line : List ℕ) (q : Request) → Means (line_at line) (Ok (Some q)) → seen line ≡ line
whole line q means = by (nat_lt 4096 (length line)) refl where
  by : (long : Bool) → nat_lt 4096 (length line) ≡ long → seen line ≡ line
  by true is = let bad = long_line line (omega (arith, ltb-true 4096 (length line) is)) in let refused = rw bad at means in absurd (cc (refused))
  by false is = take_all 4097 line (omega (arith, ltb-false 4096 (length line) is))

request-denied : (line : List ℕ) (q : Request) → Means (line_at line) (Ok (Some q)) → Denied q (first_of (words_of line))
request-denied line q means = said-denied (words_of line) q (is_found line (Ok (Some q)) (inl means))

first-seen : (line : List ℕ) (q : Request) → Means (line_at line) (Ok (Some q)) → is_denied line ≡ denies (first_of (words_of line))
first-seen line q means = ap (λ (l : List ℕ). denies (first_word l)) (whole line q means) ∙ ap denies (first_word-words line)

pub line-denied : (line : List ℕ) (c : Command) → Means (line_at line) (Ok (Some (Run c))) → is_denied line ≡ not (is_inquiry c)
line-denied line c means = first-seen line (Run c) means ∙ request-denied line (Run c) means

pub status-denied : (line : List ℕ) → Means (line_at line) (Ok (Some ShowStatus)) → is_denied line ≡ false
status-denied line means = first-seen line ShowStatus means ∙ request-denied line ShowStatus means

pub anchors-denied : (line path : List ℕ) → Means (line_at line) (Ok (Some (ShowAnchors path))) → is_denied line ≡ false
anchors-denied line path means = first-seen line (ShowAnchors path) means ∙ request-denied line (ShowAnchors path) means

-- A peer's messages, in groups.
use Rattle.std.proofs.{Common.{◌≡◌, ◌∙◌, ℕ, zero, suc, ◌+◌, ◌<◌, ◌≤◌, length, List, [], ◌∷◌, ◌++◌, take, drop, Option, Result, Ok, Err, inl, inr, refl, sym, ap, subst, append_assoc, append-nil, arith, length-append, length-drop}, lemmas.Bool.cases_lt, lemmas.Grind.flat_map-append, lemmas.List.{length-map, length-take, map-append, nil_from_length, take-append-drop}}
use Rattle.std.specs.{Prelude.{flat_map, map, min}, Io.KnownBytes.Appends}
use Rattle.pf_addr.specs.Writing.{WritesFront}
use Rattle.pf_state.specs.declared.peer.message.Message.{Message}
use Rattle.pf_core.specs.declared.{command.Command.Command, command.Command.TheVariants.States, command.StateCommand.TheVariants.Peer, reply.Refusal.Refusal}
use Rattle.pf_core.specs.{Durable.Changes.PlainDurable, Worlds.Setting}
use Rattle.pf_book.specs.{Groups.{Answered as Receipted, IsGroupAnswered}, Receipts.PlainReceipt}
use Rattle.pf_session.specs.{LineEngine.Sessions.Answered, Server.Streams.{AreGroups, Part, RunsAll, RunsGroup, Takes, asked, group_text, last_receipt, messages_of}}
use Rattle.pf_session.proofs.Streaming.{answered-then, none-answered, part-answered, part-cut}

-- ---- what is asked

asked-long : (commands : List Command) (ms : List Message) → commands ≡ asked ms → length ms ≡ length commands
asked-long commands ms is = sym (length-map {B = Command} ms (λ (m : Message). States (Peer m))) ∙ ap length (sym is)

-- the messages of two lists of commands
record AreAsked (front following : List Command) (ms : List Message) : Type 0 where
  pub first : List Message
  pub rest : List Message
  pub split : ms ≡ first ++ rest
  pub front_is : front ≡ asked first
  pub following_is : following ≡ asked rest

asked-split : (front following : List Command) (ms : List Message) → front ++ following ≡ asked ms → AreAsked front following ms
asked-split [] following ms is = record { first = []; rest = ms; split = refl; front_is = refl; following_is = is }
asked-split (c ∷ front) following [] is = absurd (cc (is))
asked-split (c ∷ front) following (m ∷ ms) is =
    let more : AreAsked front following ms = asked-split front following ms (cc (is)) in
    let one : c ≡ States (Peer m) = cc (is) in
    record {
      first = m ∷ more.first;
      rest = more.rest;
      split = ap (λ (l : List Message). m ∷ l) more.split;
      front_is = cc (one, more.front_is);
      following_is = more.following_is;
    }

-- one text for each
pub asked-each : (text : List ℕ) (ms : List Message) → flat_map (λ (c : Command). text) (asked ms) ≡ flat_map (λ (m : Message). text) ms
asked-each text [] = refl
asked-each text (m ∷ ms) = ap (λ (l : List ℕ). text ++ l) (asked-each text ms)

-- no answer leaves the receipt that there was
pub none-kept : (last : Option PlainReceipt) (answers : List Receipted) → length answers ≡ 0 → last ≡ last_receipt last (Ok answers)
none-kept last [] is = refl
none-kept last (a ∷ answers) is = absurd (omega (arith, is))

-- ---- groups of 64

full-first : (g : List Message) (groups : List (List Message)) → length g ≡ 64 → AreGroups groups → AreGroups (g ∷ groups)
full-first g [] full are = (omega (arith, full), omega (arith, full))
full-first g (h ∷ groups) full are = (full, are)

first-some : (g : List Message) (groups : List (List Message)) → AreGroups (g ∷ groups) → 0 < length g
first-some g [] are = are.0
first-some g (h ∷ groups) are = omega (arith, are.0)

messages-more : (groups others : List (List Message)) → messages_of (groups ++ others) ≡ messages_of groups ++ messages_of others
messages-more groups others = flat_map-append (λ (g : List Message). g) groups others

parts-more : (groups others : List (List Message)) → map {B = Part} Ok (groups ++ others) ≡ map Ok groups ++ map Ok others
parts-more groups others = map-append Ok groups others

-- messages in groups
record AreGrouped (ms : List Message) : Type 0 where
  pub groups : List (List Message)
  pub are : AreGroups groups
  pub of : messages_of groups ≡ ms

-- any messages can be grouped
grouped : (n : ℕ) (ms : List Message) → length ms ≤ n → AreGrouped ms
grouped n [] few = record { groups = []; are = tt; of = refl }
grouped zero (m ∷ ms) few = absurd (omega (arith, few))
grouped (suc n) (m ∷ ms) few = elim (cases_lt 64 (length (m ∷ ms))) [
  | inl more ↦
      let rest : AreGrouped (drop 64 (m ∷ ms)) = grouped n (drop 64 (m ∷ ms)) (omega (arith, few, length-drop 64 (m ∷ ms))) in
      record {
        groups = take 64 (m ∷ ms) ∷ rest.groups;
        are = full-first (take 64 (m ∷ ms)) rest.groups (omega (arith, more, length-take 64 (m ∷ ms))) rest.are;
        of = ap (λ (l : List Message). take 64 (m ∷ ms) ++ l) rest.of ∙ take-append-drop 64 (m ∷ ms);
      }
  | inr all ↦ record { groups = (m ∷ ms) ∷ []; are = (omega arith, all); of = append-nil (m ∷ ms) }
]

-- a group comes off the commands that are left
pub record IsNext (left group rest : List Command) : Type 0 where
  pub split : left ≡ group ++ rest
  pub size : length group ≡ min 64 (length left)
  pub some : 0 < length left

-- with more messages behind it, it has 64
one-whole : (left group rest : List Command) (first others : List Message) → IsNext left group rest → group ≡ asked first → rest ≡ asked others → (groups : List (List Message)) → AreGroups groups → messages_of groups ≡ others
    → AreGroups (first ∷ groups)
one-whole left group rest first others next front following [] are of =
    let long = asked-long group first front in
    let cut = next.size in
    let some = next.some in (omega (arith, long, cut, some), omega (arith, long, cut))
one-whole left group rest first others next front following (g ∷ groups) are of =
    let more = first-some g groups are in
    let long = asked-long group first front in
    let rests = asked-long rest others following in
    let all : length g + length (messages_of groups) ≡ length others = sym (length-append g (messages_of groups)) ∙ ap length of in
    let lefts : length left ≡ length group + length rest = ap length next.split ∙ length-append group rest in
    let cut = next.size in (omega (arith, more, long, rests, all, lefts, cut), are)

-- so what was whole before stays so
still-whole : (done : List (List Message)) (first others : List Message) → ((groups : List (List Message)) → AreGroups groups → messages_of groups ≡ first ++ others → AreGroups (done ++ groups))
    → ((groups : List (List Message)) → AreGroups groups → messages_of groups ≡ others → AreGroups (first ∷ groups))
    → (groups : List (List Message)) → AreGroups groups → messages_of groups ≡ others → AreGroups (done ++ first ∷ groups)
still-whole done first others whole one groups are of = whole (first ∷ groups) (one groups are of) (ap (λ (l : List Message). first ++ l) of)

module _ (base : PlainDurable) (setting : Setting) where
  -- ---- a group

  -- commands were run as a group, and of its text this was written
  abbrev pub RunsAsked : (List ℕ → Type 0) → List Command → Option PlainReceipt → Option PlainReceipt → Type 0
  RunsAsked Written commands old new = (ms : List Message) → commands ≡ asked ms → (text : List ℕ) × RunsGroup base setting ms old new text × Written text

  pub group-run : (result : Result (List Receipted) Refusal) (commands : List Command) (old new : Option PlainReceipt) (ms : List Message) → commands ≡ asked ms → 0 < length commands → length commands ≤ 64
      → IsGroupAnswered base setting commands result old → new ≡ last_receipt old result → RunsGroup base setting ms old new (group_text ms result)
  group-run result commands old new ms is some few answered kept =
      let long = asked-long commands ms is in
      record {
        some = omega arith;
        few = omega arith;
        result = result;
        answered = subst (λ (l : List Command). IsGroupAnswered base setting l result old) is answered;
        reported = refl;
        kept = kept;
      }

  -- ---- groups, one after the other

  -- some groups are run, and the commands that are left are those of the other messages, in whatever groups those are
  pub record IsUnderWay (ms : List Message) (left : List Command) (old new : Option PlainReceipt) (held held' : Option (List ℕ)) : Type 0 where
    pub done : List (List Message)
    pub others : List Message
    pub split : ms ≡ messages_of done ++ others
    pub left_is : left ≡ asked others
    pub whole : (groups : List (List Message)) → AreGroups groups → messages_of groups ≡ others → AreGroups (done ++ groups)
    pub ran : Answered (Takes base setting) (map Ok done) old new held held'

  pub begun : (ms : List Message) (commands : List Command) (last : Option PlainReceipt) (held : Option (List ℕ)) → commands ≡ asked ms → IsUnderWay ms commands last last held held
  begun ms commands last held is = record { done = []; others = ms; split = refl; left_is = is; whole = λ groups are of. are; ran = none-answered base setting last held }

  module _ (ms : List Message) (left group rest : List Command) (a b c : Option PlainReceipt) (h i j : Option (List ℕ)) (next : IsNext left group rest) (so_far : IsUnderWay ms left a b h i) where
    -- its messages, and those behind it
    its : AreAsked group rest so_far.others
    its = asked-split group rest so_far.others (sym next.split ∙ so_far.left_is)

    it-is-whole : (parts : AreAsked group rest so_far.others) (groups : List (List Message)) → AreGroups groups → messages_of groups ≡ parts.rest → AreGroups (so_far.done ++ parts.first ∷ groups)
    it-is-whole parts =
        still-whole so_far.done parts.first parts.rest (λ groups are of. so_far.whole groups are (of ∙ sym parts.split)) (one-whole left group rest parts.first parts.rest next parts.front_is parts.following_is)

    pub one-more : RunsAsked (Appends i j) group b c → IsUnderWay ms rest a c h j
    one-more run =
        let parts : AreAsked group rest so_far.others = its in
        let (text, ran, written) = run parts.first parts.front_is in
        record {
          done = so_far.done ++ parts.first ∷ [];
          others = parts.rest;
          split = so_far.split ∙ ap (λ (l : List Message). messages_of so_far.done ++ l) parts.split ∙ sym (append_assoc (messages_of so_far.done) parts.first parts.rest)
              ∙ ap (λ (l : List Message). l ++ parts.rest) (sym (messages-more so_far.done (parts.first ∷ []) ∙ ap (λ (l : List Message). messages_of so_far.done ++ l) (append-nil parts.first)));
          left_is = parts.following_is;
          whole = λ groups are of. rw (append_assoc so_far.done (parts.first ∷ []) groups) (it-is-whole parts groups are of);
          ran = rw (parts-more so_far.done (parts.first ∷ [])) (answered-then base setting so_far.ran (part-answered base setting (Ok parts.first) text ran written));
        }

    pub one-cut : {A E : Type 0} (e : E) → RunsAsked (WritesFront i j) group b c → RunsAll {A = A} (Takes base setting) (Err e) ms a c h j
    one-cut e run =
        let parts : AreAsked group rest so_far.others = its in
        let (text, ran, front) = run parts.first parts.front_is in
        let following : AreGrouped parts.rest = grouped (length parts.rest) parts.rest (omega arith) in
        record {
          groups = so_far.done ++ parts.first ∷ following.groups;
          are = it-is-whole parts following.groups following.are following.of;
          of = messages-more so_far.done (parts.first ∷ following.groups) ∙ ap (λ (l : List Message). messages_of so_far.done ++ (parts.first ++ l)) following.of
              ∙ ap (λ (l : List Message). messages_of so_far.done ++ l) (sym parts.split) ∙ sym so_far.split;
          answers = rw (parts-more so_far.done (parts.first ∷ following.groups)) (part-cut base setting (Ok parts.first) (map Ok following.groups) c text so_far.ran ran front);
        }

  -- no command is left
  pub all-run : {A E : Type 0} (x : A) (ms : List Message) (left : List Command) (a b : Option PlainReceipt) (h i : Option (List ℕ)) → length left ≡ 0 → IsUnderWay ms left a b h i → RunsAll {E = E} (Takes base setting) (Ok x) ms a b h i
  all-run x ms left a b h i none so_far =
      let gone : so_far.others ≡ [] = nil_from_length so_far.others (asked-long left so_far.others so_far.left_is ∙ none) in
      record {
        groups = so_far.done;
        are = rw (append-nil so_far.done) at (so_far.whole [] tt (sym gone));
        of = sym (so_far.split ∙ ap (λ (l : List Message). messages_of so_far.done ++ l) gone ∙ append-nil (messages_of so_far.done));
        answers = so_far.ran;
      }

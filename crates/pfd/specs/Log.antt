-- The lines of a server's log: a line for each change that it acknowledged, for each opening, and for each connection that a fault ended.
use Rattle.std.specs.{Prelude.{ℕ, ◌==◌, Bool, true, false, List, [], ◌∷◌, ◌++◌, length, min, codes, decimal, if◌then◌else◌, Option, Some, None}, List.sum_by}
use Rattle.pf_addr.specs.Path.Paths.{path_text}
use Rattle.pf_state.specs.{declared.state.StateName.StateName, declared.peer.message.Message.Message, Laws.Failover.record_count}
use Rattle.pf_ticket.specs.declared.{entry.RulesetTicket.RulesetTicket, name.RulesetKind.RulesetKind, name.RulesetKind.TheVariants.{Filter, Table}, ticket.Ticket.Ticket}
use Rattle.pf_core.specs.declared.{command.Command.Command, command.Command.TheVariants.{Transact, Edit, States}, command.StateCommand.StateCommand, command.TableEdit.TableEdit, reply.Reply.Reply, reply.Reply.TheVariants.{Applied, Stored}}
use Rattle.pf_core.specs.declared.command.Transaction.TheVariants as transaction
use Rattle.pf_core.specs.declared.command.TableEdit.TheVariants as edit
use Rattle.pf_core.specs.declared.command.StateCommand.TheVariants as states
use Rattle.pf_session.specs.declared.line_engine.fault.EngineFault.{EngineFault, TheVariants.{Read, Write, Memory}}
use Rattle.pfd.specs.declared.log.deed.Deed.{Deed, TheVariants.{Commit, Add, Delete, Set, KillTable, Track, Peer, KillState, Expire}}

-- ---- what a command may change

-- a commit is known by the first of its rulesets
abbrev pub commit_of : List RulesetTicket → Option Deed
commit_of [] = None
commit_of (e ∷ others) = Some (Commit e.name e.ticket (length others))

abbrev pub deed_of_edit : TableEdit → Deed
deed_of_edit (edit.Add path name entries) = Add path name (length entries)
deed_of_edit (edit.Delete path name entries) = Delete path name (length entries)
deed_of_edit (edit.Set path name entries) = Set path name (length entries)
deed_of_edit (edit.Kill path name) = KillTable path name

abbrev pub deed_of_states : StateCommand → Deed
deed_of_states (states.Track name packet until) = Track name
deed_of_states (states.Peer message) = Peer (min (sum_by record_count message.groups) 18446744073709551615)
deed_of_states (states.Kill name) = KillState name
deed_of_states (states.Expire tick) = Expire tick

abbrev pub deed_in : Command → Option Deed
deed_in (Transact (transaction.Commit entries)) = commit_of entries
deed_in (Edit e) = Some (deed_of_edit e)
deed_in (States s) = Some (deed_of_states s)
deed_in _ = None

-- ---- its text: the words of its line, but for what may be long

abbrev pub count_text : ℕ → List ℕ → List ℕ → List ℕ
count_text n one several = decimal n ++ (if n == 1 then one else several)

abbrev pub kind_text : RulesetKind → List ℕ
kind_text Filter = codes "commit filter "
kind_text Table = codes "commit table "

abbrev pub ticket_text : Ticket → List ℕ
ticket_text t = codes " " ++ (decimal t.epoch ++ (codes "." ++ decimal t.count))

abbrev pub others_text : ℕ → List ℕ
others_text n = if n == 0 then [] else codes " and " ++ count_text n (codes " other") (codes " others")

abbrev pub table_text : List ℕ → List ℕ → List ℕ → List ℕ
table_text word path name = word ++ (path_text path ++ (codes " " ++ name))

abbrev pub edit_text : List ℕ → List ℕ → List ℕ → ℕ → List ℕ
edit_text word path name entries = table_text word path name ++ (codes " " ++ count_text entries (codes " entry") (codes " entries"))

abbrev pub named_text : List ℕ → StateName → List ℕ
named_text word name = word ++ (decimal name.id ++ (codes " " ++ decimal name.creator))

abbrev pub deed_text : Deed → List ℕ
deed_text (Commit name ticket others) = kind_text name.kind ++ (path_text name.path ++ (ticket_text ticket ++ others_text others))
deed_text (Add path name entries) = edit_text (codes "tadd ") path name entries
deed_text (Delete path name entries) = edit_text (codes "tdel ") path name entries
deed_text (Set path name entries) = edit_text (codes "tset ") path name entries
deed_text (KillTable path name) = table_text (codes "tkill ") path name
deed_text (Track name) = named_text (codes "track ") name
deed_text (Peer records) = codes "peer " ++ count_text records (codes " record") (codes " records")
deed_text (KillState name) = named_text (codes "kill ") name
deed_text (Expire tick) = codes "expire " ++ decimal tick

-- ---- lines

abbrev pub session_text : ℕ → List ℕ
session_text session = codes "pfd: session " ++ decimal session

-- what a change was, if it is known
abbrev pub deed_part : Option Deed → List ℕ
deed_part None = []
deed_part (Some deed) = codes ": " ++ deed_text deed

abbrev pub numbered_line : ℕ → List ℕ → ℕ → Option Deed → List ℕ
numbered_line session word seq deed = session_text session ++ (word ++ (decimal seq ++ (deed_part deed ++ 10 ∷ [])))

abbrev pub acknowledges : Reply → Bool
acknowledges (Applied seq outcome) = true
acknowledges (Stored seq outcome) = true
acknowledges _ = false

-- A reply that acknowledges a change has a line, with the change's number since the opening. No other reply has one.
abbrev pub reply_line : ℕ → Option Deed → Reply → List ℕ
reply_line session deed (Applied seq outcome) = numbered_line session (codes " applied ") seq deed
reply_line session deed (Stored seq outcome) = numbered_line session (codes " stored ") seq deed
reply_line session deed _ = []

abbrev pub opening_word : Bool → List ℕ
opening_word true = codes "pfd: renewed, epoch "
opening_word false = codes "pfd: opened, epoch "

abbrev pub opening_line : ℕ → Bool → List ℕ
opening_line epoch is_renewal = opening_word is_renewal ++ (decimal epoch ++ 10 ∷ [])

abbrev pub fault_word : EngineFault → List ℕ
fault_word Read = codes " ended: input\n"
fault_word Write = codes " ended: output\n"
fault_word Memory = codes " ended: memory\n"

abbrev pub fault_line : ℕ → EngineFault → List ℕ
fault_line session fault = session_text session ++ fault_word fault

-- What a load leaves (pfctl(8), -f; pf(4), DIOCXBEGIN to DIOCXCOMMIT).
use Rattle.std.specs.{Prelude.{◌≡◌, ◌&&◌, Bool, true, false, List, [], ◌∷◌, ◌++◌, map, take, drop, Some, Ok, Contains}, List.{flat_map, list_any}}
use Rattle.pf_addr.specs.Path.{Names.same_name as same_table, Paths.same_path}
use Rattle.pf_form.specs.Form.Words.{Word}
use Rattle.pf_rule.specs.Rules.{PlainRule}
use Rattle.pf_table.specs.Edits.{replaced}
use Rattle.pf_anchor.specs.Rulesets.{rules_at}
use Rattle.pf_ticket.specs.declared.{entry.RulesetTicket.RulesetTicket, name.RulesetName.RulesetName, ticket.Ticket.Ticket}
use Rattle.pf_ticket.specs.{Names.{filter_at, table_ruleset_at, is_named, names_of}, Tickets.{PlainTickets, valid_ticket}, Mentions.{gives, after}}
use Rattle.pf_core.specs.declared.{command.Command.TheVariants.Transact, command.Transaction.Transaction, command.Transaction.TheVariants.{Add, Define, Extend, Commit}, reply.Outcome.Outcome, step.Step.TheVariants.Wants}
use Rattle.pf_core.specs.{Commands.{step_by, transacted}, Durable.Changes.{PlainDurable, PlainChange, entries_at, applied}}
use Rattle.pf_conf.specs.declared.{found.Conf.Conf, found.Ruleset.Ruleset, found.FilledTable.FilledTable}
use Rattle.pf_conf.specs.Rulesets.{PlacedRule}
use Rattle.pf_conf.specs.declared.commit.lines.TheConstants.{PART}
use Rattle.pf_conf.specs.Commit.{Naming.ruleset_names, Lines.parts}

-- ---- the offers of a load, given the ticket of each ruleset: what its lines say between begin and commit

abbrev pub rules_of : Ruleset → List PlainRule
rules_of r = map (λ (q : PlacedRule). q.is) r.rules

abbrev pub rule_offers : (RulesetName → Ticket) → Ruleset → List Transaction
rule_offers given r = map (λ (q : PlainRule). Add r.path (given (filter_at r.path)) q) (rules_of r)

abbrev pub table_offers : (RulesetName → Ticket) → FilledTable → List Transaction
table_offers given t =
    Define t.path (given (table_ruleset_at t.path)) t.name (take PART t.table)
    ∷ map (Extend t.path (given (table_ruleset_at t.path)) t.name) (parts (drop PART t.table))

abbrev pub offers : (RulesetName → Ticket) → Conf → List Transaction
offers given c = flat_map (rule_offers given) c.rulesets ++ flat_map (table_offers given) c.tables

-- ---- a load that went through

-- Its rulesets were begun, which gave these tickets; all offers were taken; and then the commit is due this change.
pub record IsLoad (c : Conf) (t : PlainTickets) (d : PlainDurable) (e : PlainChange) : Type 0 where
  pub given : RulesetName → Ticket
  pub entries : List RulesetTicket
  pub outcome : Outcome
  pub begun : (n : RulesetName) → is_named (ruleset_names c) n ≡ true → valid_ticket (after t (gives (ruleset_names c))) n ≡ Some (given n)
  pub named : names_of entries ≡ ruleset_names c
  pub committed : step_by (after (after t (gives (ruleset_names c))) (flat_map transacted (offers given c))) d (Transact (Commit entries)) ≡ Ok (Wants e outcome)

-- ---- what it leaves

abbrev pub is_table_at : Word → Word → FilledTable → Bool
is_table_at path name t = same_path t.path path && same_table name t.name

-- each table is filled once
abbrev pub AreOnce : List FilledTable → Type 0
AreOnce [] = Unit {0}
AreOnce (t ∷ ts) = (list_any (is_table_at t.path t.name) ts ≡ false) × AreOnce ts

-- Exactly the listed rulesets and tables are replaced, by what the file has.
pub record IsLoaded (c : Conf) (old new : PlainDurable) : Type 0 where
  pub rules : (r : Ruleset) → Contains c.rulesets r → rules_at r.path new.config.rulesets ≡ rules_of r
  pub other_rules : (path : Word) → is_named (ruleset_names c) (filter_at path) ≡ false →
      rules_at path new.config.rulesets ≡ rules_at path old.config.rulesets
  pub tables : (t : FilledTable) → Contains c.tables t → entries_at new t.path t.name ≡ replaced t.table
  pub other_tables : (path name : Word) → list_any (is_table_at path name) c.tables ≡ false →
      entries_at new path name ≡ entries_at old path name

abbrev pub LoadsExactly : Type 0
LoadsExactly = (c : Conf) (t : PlainTickets) (d : PlainDurable) (e : PlainChange) → AreOnce c.tables → IsLoad c t d e → IsLoaded c d (applied d e)

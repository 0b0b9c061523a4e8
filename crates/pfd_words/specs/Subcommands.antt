-- The program's subcommands with their options and words, in the order of help.
use Rattle.std.specs.Prelude.{true, List, [], ◌∷◌, codes}
use Rattle.clap.specs.{Simple.on_top, Words.{App, Rule, Text, new_app}}
use Rattle.pfd_words.specs.Parameters.{flag_rule, text_rule, texts_rule, number_rule, word_rule, words_rule, with_rules, with_subcommands}

abbrev pub disk_rule : Rule
disk_rule = text_rule (codes "disk")

abbrev pub size_rule : Rule
size_rule = number_rule (codes "size") 0 4294967295

abbrev pub history_rule : Rule
history_rule = number_rule (codes "history") 1 1048576

-- the words of a pf.conf's subcommand: its file, and what is left out of it, and which addresses interfaces have
abbrev pub conf_rules : List Rule → List Rule
conf_rules others =
    record (word_rule (codes "file")) { required = true } ∷ flag_rule (codes "lenient") ∷ texts_rule (codes "interface") ∷ others

abbrev pub cases_rule : Rule
cases_rule = words_rule (codes "cases")

abbrev pub run_words : App
run_words = with_rules (new_app (codes "run")) (disk_rule ∷ size_rule ∷ history_rule ∷ [])

abbrev pub format_words : App
format_words = with_rules (new_app (codes "format")) (record disk_rule { required = true } ∷ record size_rule { required = true } ∷ [])

abbrev pub show_words : App
show_words = with_rules (new_app (codes "show")) (record disk_rule { required = true } ∷ [])

abbrev pub serve_words : App
serve_words = with_rules (new_app (codes "serve")) (
    record (texts_rule (codes "listen")) { required = true } ∷ record disk_rule { required = true } ∷ record size_rule { required = true }
    ∷ number_rule (codes "workers") 1 64 ∷ history_rule ∷ number_rule (codes "sessions") 0 4294967295
    ∷ number_rule (codes "renew") 1 524288 ∷ number_rule (codes "renew-bytes") 1 4294967295 ∷ number_rule (codes "idle") 0 4294967295
    ∷ text_rule (codes "mode") ∷ texts_rule (codes "ask") ∷ text_rule (codes "ask-mode") ∷ texts_rule (codes "peers")
    ∷ text_rule (codes "peers-mode") ∷ flag_rule (codes "log") ∷ [])

abbrev pub connect_words : App
connect_words = with_rules (new_app (codes "connect")) (record (word_rule (codes "address")) { required = true } ∷ [])

abbrev pub check_words : App
check_words = with_rules (new_app (codes "check")) (conf_rules (text_rule (codes "anchor") ∷ []))

abbrev pub test_words : App
test_words = with_rules (new_app (codes "test")) (conf_rules (cases_rule ∷ flag_rule (codes "tap") ∷ text_rule (codes "junit") ∷ []))

abbrev pub cover_words : App
cover_words = with_rules (new_app (codes "cover")) (conf_rules (cases_rule ∷ []))

abbrev pub explain_words : App
explain_words = with_rules (new_app (codes "explain")) (conf_rules (words_rule (codes "packet") ∷ text_rule (codes "from") ∷ []))

abbrev pub load_words : App
load_words = with_rules (new_app (codes "load")) (conf_rules (
    text_rule (codes "to") ∷ text_rule (codes "anchor") ∷ flag_rule (codes "dry-run") ∷ number_rule (codes "retry") 0 4294967295 ∷ []))

abbrev pub status_words : App
status_words = with_rules (new_app (codes "status")) (word_rule (codes "address") ∷ [])

-- One of these must be there. Help and the version may be asked for.
abbrev pub program_words : App
program_words = with_subcommands (on_top (λ s. record s { has_version = true; subcommand_required = true }) (new_app (codes "pfd"))) (
    run_words ∷ format_words ∷ show_words ∷ serve_words ∷ connect_words ∷ check_words ∷ test_words ∷ cover_words ∷ explain_words
    ∷ load_words ∷ status_words ∷ [])

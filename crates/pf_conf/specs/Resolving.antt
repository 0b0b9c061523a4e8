-- What a file means, with what it includes and loads (pf.conf(5), ANCHORS, "load anchor"): main's rulesets and tables, then those of loaded
-- files, in the order of their mention.
use Rattle.std.specs.Prelude.{ℕ, zero, suc, ◌+◌, ◌==◌, nat_le, Bool, List, [], ◌++◌, map, length, sum_by, codes, Option, Some, None, Result, Ok, Err, if◌then◌else◌}
use Rattle.std.specs.List.{slice_get}
use Rattle.pf_form.specs.Form.Forms.{◌>>=◌}
use Rattle.pf_addr.specs.Path.{Paths.path_text, Nested.path_within}
use Rattle.pf_tokens.specs.declared.{files.File.File, files.TheConstants.READING_LIMIT, flat.Flat.Flat, flat.Macro.Macro, flat.TheConstants.INCLUDE_LIMIT}
use Rattle.pf_tokens.specs.{Places.{start_of, text_of}, Files.text_of_file, Flat.read_file}
use Rattle.pf_parse.specs.declared.{fault.At.At, fault.Remark.Remark, fault.Stop.Stop, parser.Mode.Mode, tree.Load.Load, tree.Tree.Tree}
use Rattle.pf_parse.specs.declared.fault.Mistake.TheVariants as mistakes
use Rattle.pf_parse.specs.Reading.{Word}
use Rattle.pf_values.specs.declared.interfaces.interface.Interface.{Interface}
use Rattle.pf_conf.specs.declared.{fault.Spot.Spot, fault.Note.Note, fault.Unread.Unread, found.Conf.Conf, found.Found.Found, found.Ruleset.Ruleset, found.Mention.Mention, found.Waiting.Waiting, found.TheConstants.{LINE_LIMIT, TICKET_BYTES}}
use Rattle.pf_conf.specs.{Lines.parsed_with, Found.{nothing_found, is_full, has_rules}, Rulesets.with_rulesets, Filling.with_tables}
use Rattle.pf_conf.specs.Telling.{spot_of, first_spot, unread_at, telling, telling_with, telling_at}

-- ---- a file's tree

abbrev pub note_of : List File → List Macro → At Remark → Note
note_of files ms r = record { spot = spot_of files ms r.place; remark = r.is }

abbrev pub with_notes : List File → List Macro → List (At Remark) → Found → Found
with_notes files ms rs s = record s { notes = s.notes ++ map (note_of files ms) rs }

abbrev pub waiting_of : List File → List Macro → Word → Load → Waiting
waiting_of files ms path l =
    record {
      path = path_within path l.path;
      mention = record { at = spot_of files ms l.place; named = spot_of files ms l.file.place; name = text_of l.file.text };
    }

abbrev pub with_loads : List File → List Macro → Word → List Load → Found → Found
with_loads files ms path ls s = record s { waiting = s.waiting ++ map (waiting_of files ms path) ls }

-- the rulesets and tables of a tree, and the loads that wait
unfoldable pub with_tree : List File → List Macro → Word → Tree → Found → Result Found Stop
with_tree files ms path tree s =
    with_rulesets path tree s >>= with_tables files path tree.tables >>= λ t. Ok (with_loads files ms path tree.loads t)

abbrev pub is_main : Word → Bool
is_main path = length path == 0

-- ---- a file

abbrev pub room_for : Spot → Found → Result Found Unread
room_for spot s = if is_full s then Err (unread_at spot mistakes.ManyRulesets) else Ok s

-- what the tokens of a file stand for, whose rulesets are mentioned at this spot
unfoldable pub with_flat : List File → List Interface → Mode → Word → Spot → Flat → Found → Result Found Unread
with_flat files interfaces mode path spot flat s =
    telling files flat.macros (parsed_with interfaces flat.tokens mode (is_main path))
    >>= λ p. room_for spot (with_notes files flat.macros p.notes s)
    >>= λ t. telling files flat.macros (with_tree files flat.macros path p.tree t)

abbrev pub no_flat : ℕ → Flat
no_flat read = record { files_read = read; words_read = 0; macros = []; tokens = [] }

-- the tokens of a file and of what it includes, behind so many files that were read
unfoldable pub flat_of : List File → Mention → ℕ → Result Flat Unread
flat_of files m read =
    telling_at m.named (text_of_file files read (start_of 0) m.name)
    >>= λ found. telling_with files (read_file files INCLUDE_LIMIT found.0 found.1 (no_flat read))

abbrev pub after_flat : Flat → Found → Found
after_flat flat s = record s { files_read = flat.files_read }

-- a path that is mentioned at this spot has no rules yet
abbrev pub free_for : Word → Spot → Found → Result Found Unread
free_for path spot s = if has_rules path s then Err (unread_at spot (mistakes.RulesTwice (path_text path))) else Ok s

-- a file, for the rulesets from this path on
unfoldable pub with_file : List File → List Interface → Mode → Word → Mention → Found → Result Found Unread
with_file files interfaces mode path m s =
    free_for path m.at s >>= λ t. flat_of files m t.files_read
    >>= λ flat. with_flat files interfaces mode path m.at flat (after_flat flat t)

-- ---- loads

abbrev pub with_load : List File → List Interface → Mode → Mention → Option Word → Found → Result Found Unread
with_load files interfaces mode m None s = Err (unread_at m.at mistakes.LongPath)
with_load files interfaces mode m (Some path) s = with_file files interfaces mode path m s

abbrev pub with_waiting : List File → List Interface → Mode → Option Waiting → Found → Result Found Unread
with_waiting files interfaces mode None s = Ok s
with_waiting files interfaces mode (Some w) s = with_load files interfaces mode w.mention w.path s

-- the load of this number, if there are so many
abbrev pub load_numbered : List File → List Interface → Mode → ℕ → Found → Result Found Unread
load_numbered files interfaces mode n s = with_waiting files interfaces mode (slice_get s.waiting n) s

-- The loads from this number on, at most so many. Each takes one of the readings.
unfoldable pub loads_from : List File → List Interface → Mode → ℕ → ℕ → Found → Result Found Unread
loads_from files interfaces mode n zero s = Ok s
loads_from files interfaces mode n (suc more) s =
    load_numbered files interfaces mode n s >>= λ t. loads_from files interfaces mode (n + 1) more t

-- ---- all

-- how long a part of the commit's line is that names a path, with the longest ticket
abbrev pub part_length : Word → Word → ℕ
part_length word path = length word + length (path_text path) + (1 + TICKET_BYTES)

abbrev pub commit_length : Found → ℕ
commit_length s =
    length (codes "commit") + sum_by (λ (r : Ruleset). part_length (codes " filter ") r.path) s.rulesets
    + sum_by (part_length (codes " table ")) s.table_paths

abbrev pub committed : Spot → Found → Result Conf Unread
committed spot s =
    if nat_le (commit_length s) LINE_LIMIT then Ok (record { rulesets = s.rulesets; tables = s.tables; notes = s.notes })
    else Err (unread_at spot mistakes.LongCommit)

abbrev pub main_file : Word → Mention
main_file name = record { at = first_spot name; named = first_spot name; name = name }

-- what a file means that is read for the rulesets from this path on
unfoldable pub resolved : List File → List Interface → Mode → Word → Word → Result Conf Unread
resolved files interfaces mode base name =
    with_file files interfaces mode base (main_file name) nothing_found >>= loads_from files interfaces mode 0 READING_LIMIT
    >>= committed (first_spot name)

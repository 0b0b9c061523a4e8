use Rattle.std.proofs.Common.{◌≡◌, ◌+◌, ◌*◌, ◌<◌, ◌≤◌, [], length}
use Rattle.pf_tokens.specs.{declared.files.TheConstants.READING_LIMIT, Flat.{including, lines, read_lines}}
use Rattle.pf_tokens.proofs.flat.Flat.+reading.Given as goal

abbrev pub decreases-read : goal.decreases-read
decreases-read l = 4 * l.deep + 3

abbrev pub decreases-read_line : goal.decreases-read_line
decreases-read_line l = 4 * l.deep + 2

abbrev pub decreases-read_counted : goal.decreases-read_counted
decreases-read_counted l = 4 * l.deep + 1

-- an included file is read less deep
abbrev pub decreases-include : goal.decreases-include
decreases-include l = 4 * l.deep

-- what is left to read gives the whole
abbrev pub invariant-read-loop-line : goal.invariant-read-loop-line
invariant-read-loop-line l = record {
  reached : read_lines (including l.files l.deep) (lines l.initial.rest) ([], l.initial.self) ≡ read_lines (including l.files l.deep) (lines l.rest) (l.opened, l.self);
  counted : l.fn.self.files_read < l.self.files_read;
  within : l.self.files_read ≤ READING_LIMIT;
}

abbrev pub decreases-read-loop-line : goal.decreases-read-loop-line
decreases-read-loop-line l = length l.rest

use Rattle.pf_book.specs.Books.{setting_of}
use Rattle.pfd_rows.proofs.playing.play_lines.Given as goal

-- the opening is named by what it gave, its history, and its limits
abbrev pub ghosts-play_over-J-Naming : goal.ghosts-play_over-J-Naming
ghosts-play_over-J-Naming g a = record { base = a.opening.given; history = a.opening.history }

abbrev pub ghosts-play_over-J-Chapter : goal.ghosts-play_over-J-Chapter
ghosts-play_over-J-Chapter g a = record { setting = setting_of a.opening a.history }

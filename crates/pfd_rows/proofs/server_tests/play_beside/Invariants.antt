use Rattle.pf_book.specs.Books.{setting_of}
use Rattle.pfd_words.specs.declared.words.TheConstants.{HISTORY_LIMIT}
use Rattle.pfd_rows.proofs.server_tests.play_beside.Given as goal

-- the opening is named by what it gave, its history, and its limits
abbrev pub ghosts-play-J-Naming : goal.ghosts-play-J-Naming
ghosts-play-J-Naming g a = record { base = a.opening.given; history = a.opening.history }

abbrev pub ghosts-play-J-Chapter : goal.ghosts-play-J-Chapter
ghosts-play-J-Chapter g a = record { setting = setting_of a.opening HISTORY_LIMIT }

abbrev pub ghosts-play-J-Numbering : goal.ghosts-play-J-Numbering
ghosts-play-J-Numbering g a = record { register = a.calls }
